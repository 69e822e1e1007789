-- The lines that end in a piece of the input, and what is held of the one that does not. Assumes nothing.
use Rattle.std.specs.Prelude.{ℕ, ◌+◌, ◌*◌, length, take, eqb}
use mathlib.Core.List.{List, [], ◌∷◌, ◌++◌, map, flatten}
use Rattle.octets.specs.Choice.{pick}
use Rattle.octets.specs.Buffer.{padded}
use Rattle.sheet_line.specs.Line.{lf}
use Rattle.kinds.specs.declared.Numbers.{Numbers}
use Rattle.hex_line.specs.Line.{most_digits}
use Rattle.shown.specs.Line.{line_by}
use Rattle.lines.specs.declared.held.Held.{Held}

-- ---- the lines in a piece

-- the lines that an LF ends, where the first of them is begun already
unfoldable pub ended_from : List ℕ → List ℕ → List (List ℕ)
ended_from line [] = []
ended_from line (c ∷ t) = pick (eqb c lf) (line ∷ ended_from [] t) (ended_from (line ++ (c ∷ [])) t)

-- what stands behind the last LF; where there is none, all of it behind the line begun
unfoldable pub left_from : List ℕ → List ℕ → List ℕ
left_from line [] = line
left_from line (c ∷ t) = pick (eqb c lf) (left_from [] t) (left_from (line ++ (c ∷ [])) t)

-- "A last line that is not empty counts"
unfoldable pub last_of : List ℕ → List (List ℕ)
last_of [] = []
last_of (c ∷ line) = (c ∷ line) ∷ []

-- ---- what is printed

-- for the lines that end
unfoldable pub lines_text : Numbers → List ℕ → List ℕ → List ℕ
lines_text n line piece = flatten (map (line_by n) (ended_from line piece))

-- for the last line, where one is begun
unfoldable pub last_line : Numbers → List ℕ → List ℕ
last_line n line = flatten (map (line_by n) (last_of line))

-- the room that is asked for beforehand: no octet of the input makes more than ten of the output
abbrev pub lines_room : List ℕ → List ℕ → ℕ
lines_room line piece = 10 * (length line + length piece)

-- ---- what is held

-- how many octets are held at most: as many as decide a sheet, and more than a packet's line has digits
abbrev pub most_held : ℕ
most_held = 1024

-- a line so far, which one digit more than a packet's line has decides
unfoldable pub kept_of : List ℕ → List ℕ
kept_of line = take (most_digits + 1) line

unfoldable pub held_in : Held → List ℕ
held_in h = take h.len h.octets

unfoldable pub held_of : List ℕ → Held
held_of xs = record { octets = padded most_held 0 xs; len = length xs }
