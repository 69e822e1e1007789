-- What is claimed of a line beyond the functions. Each has its proof under proofs/. Assumes nothing.
use Rattle.std.specs.Prelude.{◌≡◌, ℕ, ◌≤◌, List, length, T}
use Rattle.sheet.specs.declared.Sheet.{Sheet}
use Rattle.sheet.specs.Value.{valid_alone}
use Rattle.kinds.specs.declared.Numbers.{Numbers}
use Rattle.kinds.specs.Kind.{numbers_of}
use Rattle.shown.specs.Line.{line_of, line_by, line_room}

-- Under a sheet's numbers a line prints what it does under the sheet.
abbrev pub UnderASheet : Type 0
UnderASheet = (s : Sheet) (line : List ℕ) → T (valid_alone s) → line_of s line ≡ line_by (numbers_of s) line

-- the longest line that is printed: kind 1 with two names of 60 octets
abbrev pub most_text : ℕ
most_text = 212

-- A line needs no more than so many octets of a buffer, and no more than ten for each of its own and its LF.
abbrev pub LineFits : Type 0
LineFits = (n : Numbers) (line : List ℕ) → (length (line_by n line) ≤ most_text) × (length (line_by n line) ≤ line_room line)
