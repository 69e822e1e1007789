-- What each public function promises, one predicate a function, NAME≡: the equation that its answer meets, for every input.
-- Beside it, NAME-once: no second answer meets it. Assumes nothing.
use Rattle.std.specs.Prelude.{◌≡◌, ℕ, ◌+◌, Bool, Option, List, length, drop}
use Rattle.octets.specs.Choice.{same, front}
use Rattle.octets.specs.Promises.{one_answer, one_value}
use Rattle.sheet.specs.declared.Sheet.{Sheet}
use Rattle.sheet.specs.Judge.{visible, user_id}
use Rattle.sheet.specs.Value.{name_of, sheet_in, valid_with}
use Rattle.sheet.specs.Find.{seat_of_ssrc, seat_of_user, new_name}
use Rattle.seats.specs.declared.Senders.{Senders}
use Rattle.seats.specs.Found.{found_said, found_apart}

-- some sheet reads to this struct and these User IDs
abbrev pub valid_with≡ : Sheet → List (List ℕ) → Bool → Type 0
valid_with≡ sheet users r = r ≡ valid_with sheet users

pub valid_with-once : (sheet : Sheet) (users : List (List ℕ)) (x y : Bool) → valid_with≡ sheet users x → valid_with≡ sheet users y → x ≡ y
valid_with-once sheet users x y p q = one_value x y p q

-- some sheet reads to the struct with these numbers and to these User IDs
abbrev pub are_valid_with≡ : List ℕ → List (List ℕ) → Bool → Type 0
are_valid_with≡ numbers users r = r ≡ valid_with (sheet_in numbers) users

pub are_valid_with-once : (numbers : List ℕ) (users : List (List ℕ)) (x y : Bool) → are_valid_with≡ numbers users x → are_valid_with≡ numbers users y → x ≡ y
are_valid_with-once numbers users x y p q = one_value x y p q

-- where the visible octets at a place end
abbrev pub visible_end≡ : List ℕ → ℕ → ℕ → Type 0
visible_end≡ text at r = r ≡ at + length (front visible (drop at text))

pub visible_end-once : (text : List ℕ) (at x y : ℕ) → visible_end≡ text at x → visible_end≡ text at y → x ≡ y
visible_end-once text at x y p q = one_value x y p q

-- these octets can be a User ID
abbrev pub is_user_id≡ : List ℕ → Bool → Type 0
is_user_id≡ name r = r ≡ user_id name

pub is_user_id-once : (name : List ℕ) (x y : Bool) → is_user_id≡ name x → is_user_id≡ name y → x ≡ y
is_user_id-once name x y p q = one_value x y p q

-- how many octets the User ID in a row has
abbrev pub name_length≡ : List ℕ → ℕ → Type 0
name_length≡ row r = r ≡ length (name_of row)

pub name_length-once : (row : List ℕ) (x y : ℕ) → name_length≡ row x → name_length≡ row y → x ≡ y
name_length-once row x y p q = one_value x y p q

-- the User ID in a row is this name
abbrev pub has_name≡ : List ℕ → List ℕ → Bool → Type 0
has_name≡ row name r = r ≡ same (name_of row) name

pub has_name-once : (row name : List ℕ) (x y : Bool) → has_name≡ row name x → has_name≡ row name y → x ≡ y
has_name-once row name x y p q = one_value x y p q

-- the seat with this SSRC
abbrev pub by_ssrc≡ : Senders → ℕ → Option ℕ → Type 0
by_ssrc≡ senders ssrc r = found_said r ≡ seat_of_ssrc senders.seats senders.ssrcs ssrc

pub by_ssrc-once : (senders : Senders) (ssrc : ℕ) (x y : Option ℕ) → by_ssrc≡ senders ssrc x → by_ssrc≡ senders ssrc y → x ≡ y
by_ssrc-once senders ssrc x y p q = one_answer found_said found_apart x y p q

-- the seat with this User ID
abbrev pub by_user≡ : ℕ → List (List ℕ) → List ℕ → Option ℕ → Type 0
by_user≡ seats users name r = found_said r ≡ seat_of_user seats users name

pub by_user-once : (seats : ℕ) (users : List (List ℕ)) (name : List ℕ) (x y : Option ℕ) → by_user≡ seats users name x → by_user≡ seats users name y → x ≡ y
by_user-once seats users name x y p q = one_answer found_said found_apart x y p q

-- a name that can be a User ID and that none of the first seats has
abbrev pub is_new_name≡ : ℕ → List (List ℕ) → List ℕ → Bool → Type 0
is_new_name≡ seats users name r = r ≡ new_name seats users name

pub is_new_name-once : (seats : ℕ) (users : List (List ℕ)) (name : List ℕ) (x y : Bool) → is_new_name≡ seats users name x → is_new_name≡ seats users name y → x ≡ y
is_new_name-once seats users name x y p q = one_value x y p q
