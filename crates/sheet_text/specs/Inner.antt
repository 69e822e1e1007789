-- What the inner functions say of the lines that they look at. The public promises rest on these, and nobody need
-- believe them: each is only a step of a proof. Assumes nothing.
use Rattle.std.specs.Prelude.{◌≡◌, ℕ, ◌+◌, ◌-◌, ◌<◌, Bool, true, false, ◌&&◌, Result, Ok, Err, List, IfOk, length, take, drop, T, leb}
use Rattle.octets.specs.Choice.{pick, begins}
use Rattle.sheet.specs.Table.{row_at, number_lines}
use Rattle.sheet.specs.Judge.{good_number}
use Rattle.sheet.specs.Inner.{cap}
use Rattle.sheet.specs.Find.{new_name}
use Rattle.sheet.specs.declared.Refusal.{Refusal}
use Rattle.sheet_line.specs.declared.Line.{Line}
use Rattle.sheet_line.specs.Line.{line_of, entry_in}
use Rattle.sheet_line.specs.Inner.{NameAt}
use Rattle.sheet_text.specs.declared.Reading.{Reading}
use Rattle.sheet_text.specs.Reading.{bad_line, read_of, users_in}

-- line k is good behind lines with these numbers and these User IDs
unfoldable pub good_at : List ℕ → ℕ → ℕ → List ℕ → List (List ℕ) → Bool
good_at t at k numbers users =
    let e = entry_in (row_at k) (drop at t) in
    begins (line_of (row_at k) e) (drop at t)
    && (good_number (take k numbers) e.number && pick (leb number_lines k) (new_name (k - number_lines) users e.name) true)

abbrev pub JudgedIs : List ℕ → ℕ → ℕ → List ℕ → List (List ℕ) → Result Line Refusal → Type 0
JudgedIs t at k numbers users (Ok line) =
    T (good_at t at k numbers users)
    × (line.number ≡ (entry_in (row_at k) (drop at t)).number)
    × (line.number < cap)
    × NameAt t line.name line.end (entry_in (row_at k) (drop at t)).name
    × (line.end + 1 ≡ at + length (line_of (row_at k) (entry_in (row_at k) (drop at t))))
JudgedIs t at k numbers users (Err r) = (good_at t at k numbers users ≡ false) × (r ≡ bad_line (k + 1))

-- what the pass over a text reads, and beside a sheet its User IDs
abbrev pub ScanIs : List ℕ → Result Reading Refusal → List (List ℕ) → Type 0
ScanIs t r now = (r ≡ read_of t) × IfOk r (λ (x : Reading). now ≡ users_in t)
