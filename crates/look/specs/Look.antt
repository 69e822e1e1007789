-- What `mcvlook` prints, from its whole input (document 01, "Bench program"): "Standard input: a sheet, then packets, one a line".
-- Assumes nothing.
use Rattle.std.specs.Prelude.{ℕ, drop, Result, Ok, Err}
use mathlib.Core.List.{List, map, flatten}
use Rattle.sheet.specs.declared.Refusal.{Refusal}
use Rattle.sheet.specs.Refusal.{refusal_line}
use Rattle.sheet_text.specs.declared.Reading.{Reading}
use Rattle.sheet_text.specs.Reading.{read_of}
use Rattle.shown.specs.Line.{line_of, sheet_line}
use Rattle.lines.specs.Lines.{lines_of}

-- of what is read of the sheet; "A refused sheet prints `sheet=LINE` and nothing more"
unfoldable pub look_by : List ℕ → Result Reading Refusal → List ℕ
look_by t (Ok r) = flatten (map (line_of r.sheet) (lines_of (drop r.used t)))
look_by t (Err refusal) = sheet_line (refusal_line refusal)

unfoldable pub look_of : List ℕ → List ℕ
look_of t = look_by t (read_of t)
