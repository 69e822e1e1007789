-- Whose SSRC and whose User ID it is (document 01, "Stream record"), among the seats on the sheet alone. Assumes nothing.
use Rattle.std.specs.Prelude.{◌≡◌, ℕ, ◌<◌, Bool, true, false, ◌&&◌, List, [], take, get_or, eqb}
use Rattle.std.proofs.Math.Option.{Option, none, some}
use Rattle.octets.specs.Choice.{same, first_place}
use Rattle.sheet.specs.declared.Sheet.{Sheet}
use Rattle.sheet.specs.Judge.{user_id}
use Rattle.sheet.specs.Value.{name_of}

-- the first seat with this SSRC
unfoldable pub seat_of_ssrc : ℕ → List ℕ → ℕ → Option ℕ
seat_of_ssrc seats ssrcs ssrc = first_place (λ (x : ℕ). eqb x ssrc) (take seats ssrcs)

-- the first seat with this User ID
unfoldable pub seat_of_user : ℕ → List (List ℕ) → List ℕ → Option ℕ
seat_of_user seats users name = first_place (λ (row : List ℕ). same (name_of row) name) (take seats users)

abbrev pub is_none : Option ℕ → Bool
is_none none = true
is_none (some n) = false

-- a name that can be a User ID and that none of the first seats has
unfoldable pub new_name : ℕ → List (List ℕ) → List ℕ → Bool
new_name seats users name = user_id name && is_none (seat_of_user seats users name)

-- a seat's User ID
abbrev pub user_of : List (List ℕ) → ℕ → List ℕ
user_of users r = name_of (get_or users r [])

-- a seat on the sheet has this SSRC; this User ID
abbrev pub HasSsrc : Sheet → ℕ → ℕ → Type 0
HasSsrc s ssrc r = (r < s.seats) × (get_or s.ssrcs r 0 ≡ ssrc)

abbrev pub HasUser : Sheet → List (List ℕ) → List ℕ → ℕ → Type 0
HasUser s users name r = (r < s.seats) × (user_of users r ≡ name)
