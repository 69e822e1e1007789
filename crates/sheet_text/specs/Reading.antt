-- Reading a call sheet (document 01, "Call sheet" and refusal 12): the lines are judged in order, each against the lines
-- before it, and the first bad or missing one is named. Assumes nothing.
use Rattle.std.specs.Prelude.{ℕ, zero, suc, ◌+◌, Bool, ◌&&◌, Result, Ok, Err, List, [], ◌∷◌, ◌++◌, length, drop, eqb, is_ok}
use Rattle.octets.specs.Choice.{pick, begins}
use Rattle.sheet.specs.declared.Refusal.{Refusal}
use Rattle.sheet.specs.declared.Refusal.TheVariants.{Sheet}
use Rattle.sheet.specs.Table.{row_at}
use Rattle.sheet.specs.Judge.{Entry, numbers_in, good, whole}
use Rattle.sheet.specs.Value.{sheet_of, users_of}
use Rattle.sheet_text.specs.declared.Reading.{Reading}
use Rattle.sheet_line.specs.Line.{lf, line_of, entry_in}
use Rattle.sheet_text.specs.Text.{text_of}

-- a sheet's entries, or the number of its first bad or missing line, from 1
pub data Outcome : Type 0 where
  reads : List Entry → Outcome
  refused : ℕ → Outcome

-- the text begins with a good line: that of the entry in it
unfoldable pub good_line : List Entry → List ℕ → Bool
good_line before s =
    let r = row_at (length before) in
    begins (line_of r (entry_in r s)) s && good before (entry_in r s)

-- what is left of a text behind its line
unfoldable pub behind : List Entry → List ℕ → List ℕ
behind before s =
    let r = row_at (length before) in
    drop (length (line_of r (entry_in r s))) s

-- The lines behind those of the entries before: a whole sheet is read; else the next line is good and the reading goes on
-- behind it, or it is named. The first argument bounds how many more lines are read.
unfoldable pub read_by : ℕ → List Entry → List ℕ → Outcome
read_by zero before s = pick (whole (numbers_in before)) (reads before) (refused (length before + 1))
read_by (suc f) before s =
    let more = read_by f (before ++ (entry_in (row_at (length before)) s ∷ [])) (behind before s) in
    pick (whole (numbers_in before)) (reads before) (pick (good_line before s) more (refused (length before + 1)))

-- a text has no more lines than octets, so that the bound is never met
unfoldable pub outcome : List ℕ → Outcome
outcome t = read_by (length t) [] t

-- ---- what reading gives

-- 12, "sheet, with the number of its first bad or missing line, from 1"
abbrev pub bad_line : ℕ → Refusal
bad_line k = Sheet k

-- the value and "how many octets were used"
unfoldable pub reading_of : Outcome → Result Reading Refusal
reading_of (reads es) = Ok (record { sheet = sheet_of es; used = length (text_of es) })
reading_of (refused k) = Err (bad_line k)

-- the User IDs; beside a refusal every octet is zero
unfoldable pub users_from : Outcome → List (List ℕ)
users_from (reads es) = users_of es
users_from (refused k) = users_of []

unfoldable pub read_of : List ℕ → Result Reading Refusal
read_of t = reading_of (outcome t)

unfoldable pub users_in : List ℕ → List (List ℕ)
users_in t = users_from (outcome t)

-- what stands where these were, once the text is read: "refused .. changes no lent octet"
unfoldable pub users_over : List ℕ → List (List ℕ) → List (List ℕ)
users_over t users = pick (is_ok (read_of t)) (users_in t) users

-- ---- the lines of any text

-- a line: what stands up to and with its LF, or what is left without one, even if that is nothing
unfoldable pub first_line : List ℕ → List ℕ
first_line [] = []
first_line (c ∷ cs) = pick (eqb c lf) (c ∷ []) (c ∷ first_line cs)

-- the first k lines
unfoldable pub lines : ℕ → List ℕ → List (List ℕ)
lines zero t = []
lines (suc k) t = first_line t ∷ lines k (drop (length (first_line t)) t)
