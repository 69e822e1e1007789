-- What is claimed of the lines of a text. It has its proof under proofs/. Assumes nothing.
use Rattle.std.specs.Prelude.{◌≡◌, ℕ, Bool, T}
use mathlib.Core.List.{List, [], ◌∷◌, ◌++◌, map, flatten}
use Rattle.octets.specs.Choice.{every}
use Rattle.sheet_line.specs.Line.{lf}
use Rattle.lines.specs.Lines.{in_line, lines_of}
use Rattle.lines.specs.Pieces.{last_of}

-- no LF in it
unfoldable pub one_line : List ℕ → Bool
one_line line = every in_line line

-- each ended by one LF
unfoldable pub with_lfs : List (List ℕ) → List ℕ
with_lfs lines = flatten (map (λ (line : List ℕ). line ++ (lf ∷ [])) lines)

-- a text made of lines with an LF behind each, and of one more without
abbrev pub Lined : List ℕ → List (List ℕ) → List ℕ → Type 0
Lined t ended left = T (every one_line ended) × T (one_line left) × (t ≡ with_lfs ended ++ left)

-- Every text is made so, and its lines are those, the last only where it is not empty.
abbrev pub LinesExactly : Type 0
LinesExactly =
    (t : List ℕ)
    → ((ended : List (List ℕ)) × (left : List ℕ) × Lined t ended left)
    × ((ended : List (List ℕ)) (left : List ℕ) → Lined t ended left → lines_of t ≡ ended ++ last_of left)
