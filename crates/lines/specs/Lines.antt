-- The lines of a text (document 01, "Bench program": packets "one a line"; "A last line that is not empty counts without its LF").
-- Assumes nothing.
use Rattle.std.specs.Prelude.{ℕ, Bool, not, List, [], ◌∷◌, eqb}
use Rattle.octets.specs.Choice.{pick}
use Rattle.sheet_line.specs.Line.{lf}

-- an octet before the first of the lines, or where there are none, of a line of its own
unfoldable pub before : ℕ → List (List ℕ) → List (List ℕ)
before c [] = (c ∷ []) ∷ []
before c (line ∷ lines) = (c ∷ line) ∷ lines

unfoldable pub lines_of : List ℕ → List (List ℕ)
lines_of [] = []
lines_of (c ∷ t) = pick (eqb c lf) ([] ∷ lines_of t) (before c (lines_of t))

-- an octet of a line, which is no LF
abbrev pub in_line : ℕ → Bool
in_line c = not (eqb c lf)
