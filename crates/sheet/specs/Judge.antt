-- Which entries may stand in a call sheet, each judged against those before it (document 01, "Call sheet"). Assumes nothing.
use Rattle.std.specs.Prelude.{ℕ, suc, ◌+◌, Bool, true, false, not, ◌&&◌, ◌||◌, List, [], ◌∷◌, ◌++◌, map, length, get_or, leb, eqb}
use Rattle.octets.specs.Choice.{pick, same, every, some_of}
use Rattle.sheet.specs.Table.{row_at, number_lines, seats_line}

-- what a line holds: its number and, on a seat's line, the User ID
pub record Entry : Type 0 where
  pub number : ℕ
  pub name : List ℕ

abbrev pub numbers_in : List Entry → List ℕ
numbers_in es = map (λ (e : Entry). e.number) es

abbrev pub names_in : List Entry → List (List ℕ)
names_in es = map (λ (e : Entry). e.name) es

-- a number stands already on a line of this family, among the numbers of the lines from line k on
unfoldable pub taken : ℕ → ℕ → ℕ → List ℕ → Bool
taken family n k [] = false
taken family n k (m ∷ ms) = (eqb (row_at k).family family && eqb m n) || taken family n (suc k) ms

-- within the line's bounds, and unlike the numbers of its family on the lines before
unfoldable pub good_number : List ℕ → ℕ → Bool
good_number before n =
    let r = row_at (length before) in
    leb r.least n && (leb n r.greatest && not (taken r.family n 0 before))

-- an octet of a User ID: "each 0x21 to 0x7E"
abbrev pub visible : ℕ → Bool
visible c = leb 0x21 c && leb c 0x7E

-- "1 to 60 octets"
abbrev pub longest_name : ℕ
longest_name = 60

-- "User ID (6): 1 to 60 octets, each 0x21 to 0x7E"
unfoldable pub user_id : List ℕ → Bool
user_id name = leb 1 (length name) && (leb (length name) longest_name && every visible name)

-- a User ID that no line before has; on a line with a number alone, nothing
unfoldable pub good_name : List (List ℕ) → List ℕ → Bool
good_name before name =
    pick (row_at (length before)).named
    (user_id name && not (some_of (λ (other : List ℕ). same other name) before))
    (same name [])

-- "of two lines that clash the later is the bad one"
unfoldable pub good : List Entry → Entry → Bool
good before e = good_number (numbers_in before) e.number && good_name (names_in before) e.name

-- each good behind those before it
unfoldable pub in_turn {ℓ} : {A : Type ℓ} → (List A → A → Bool) → List A → List A → Bool
in_turn p before [] = true
in_turn p before (x ∷ xs) = p before x && in_turn p (before ++ (x ∷ [])) xs

-- as many seats as the line seats says: "seats (1 to 8), then that many lines"
unfoldable pub whole : List ℕ → Bool
whole ns = eqb (length ns) (number_lines + get_or ns seats_line 0)

-- the entries of a call sheet
unfoldable pub valid : List Entry → Bool
valid es = in_turn good [] es && whole (numbers_in es)
