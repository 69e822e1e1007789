-- What each public function promises, one predicate a function, NAME≡: the equations that its answer and what it was lent meet, for every input.
-- Beside it, NAME-once: no second answer meets it. Assumes nothing.
use Rattle.std.specs.Prelude.{◌≡◌, ℕ, Result, List}
use Rattle.octets.specs.Promises.{one_value}
use Rattle.sheet.specs.declared.Refusal.{Refusal}
use Rattle.sheet_text.specs.declared.Reading.{Reading}
use Rattle.sheet_text.specs.Reading.{read_of, users_in, users_over}

-- the value and the octets used, or 12 with its line; and the User IDs
abbrev pub read_with≡ : List ℕ → List (List ℕ) → Result Reading Refusal → List (List ℕ) → Type 0
read_with≡ text users r now = (r ≡ read_of text) × (now ≡ users_over text users)

pub read_with-once : (text : List ℕ) (users : List (List ℕ)) (x y : Result Reading Refusal) (now other : List (List ℕ))
    → read_with≡ text users x now → read_with≡ text users y other → (x ≡ y) × (now ≡ other)
read_with-once text users x y now other p q = (one_value x y p.0 q.0, one_value now other p.1 q.1)

-- the same without the User IDs
abbrev pub read≡ : List ℕ → Result Reading Refusal → Type 0
read≡ text r = r ≡ read_of text

pub read-once : (text : List ℕ) (x y : Result Reading Refusal) → read≡ text x → read≡ text y → x ≡ y
read-once text x y p q = one_value x y p q

-- the User IDs of the same sheet, all zeros beside a refusal
abbrev pub users≡ : List ℕ → List (List ℕ) → Type 0
users≡ text r = r ≡ users_in text

pub users-once : (text : List ℕ) (x y : List (List ℕ)) → users≡ text x → users≡ text y → x ≡ y
users-once text x y p q = one_value x y p q
