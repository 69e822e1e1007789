-- What is claimed of the call sheet beyond its functions, said without the reader. Each has its proof under proofs/.
-- Assumes nothing.
use Rattle.std.specs.Prelude.{◌≡◌, ◌↔◌, ℕ, ◌≤◌, ◌<◌, Ok, Err, List, length, take, T}
use Rattle.sheet.specs.declared.Sheet.{Sheet}
use Rattle.sheet.specs.Value.{entries_of, valid_with}
use Rattle.sheet_text.specs.Text.{longest, text_of}
use Rattle.sheet_text.specs.Reading.{lines, bad_line, read_of, users_in}

-- the text of a value, from the table
abbrev pub value_text : Sheet → List (List ℕ) → List ℕ
value_text s users = text_of (entries_of s users)

-- a text reads to a value, with n octets used
abbrev pub ReadsTo : List ℕ → Sheet → List (List ℕ) → ℕ → Type 0
ReadsTo t s users n = (read_of t ≡ Ok (record { sheet = s; used = n })) × (users_in t ≡ users)

-- Which texts read: a text reads to a value exactly if the value is valid and the text begins with the value's text.
abbrev pub ReadsExactly : Type 0
ReadsExactly =
    (t : List ℕ) (s : Sheet) (users : List (List ℕ)) (n : ℕ)
    → ReadsTo t s users n ↔ (T (valid_with s users) × (n ≡ length (value_text s users)) × (take n t ≡ value_text s users))

-- A value is valid exactly if some text reads to it.
abbrev pub ValidExactly : Type 0
ValidExactly = (s : Sheet) (users : List (List ℕ)) → T (valid_with s users) ↔ ((t : List ℕ) × (n : ℕ) × ReadsTo t s users n)

-- some valid value's text has the first k lines of t as its first k lines
abbrev pub SomeBegins : List ℕ → ℕ → Type 0
SomeBegins t k =
    (s : Sheet) × (users : List (List ℕ)) × T (valid_with s users) × (lines k t ≡ lines k (value_text s users))

-- no valid value's text is the front of t
abbrev pub NoneReads : List ℕ → Type 0
NoneReads t = (s : Sheet) (users : List (List ℕ)) → T (valid_with s users) → take (length (value_text s users)) t ≡ value_text s users → ⊥

-- How much of a text decides: as many octets as the longest sheet has. What they read to, the text reads to, and where they are refused, it is, with
-- the same line.
abbrev pub LongestDecides : Type 0
LongestDecides = (t : List ℕ) (n : ℕ) → longest ≤ n → (read_of (take n t) ≡ read_of t) × (users_in (take n t) ≡ users_in t)

-- Which line is named: a text that no sheet is the front of is refused, with the least k such that no valid value's text has
-- the first k lines of t as its first k lines.
abbrev pub NamedExactly : Type 0
NamedExactly =
    (t : List ℕ) (k : ℕ)
    → (read_of t ≡ Err (bad_line k)) ↔ (NoneReads t × (SomeBegins t k → ⊥) × ((j : ℕ) → j < k → SomeBegins t j))
