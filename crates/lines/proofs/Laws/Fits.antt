-- Laws of how much room the lines of a piece take: no octet of the input makes more than ten of the output. Assumes nothing.
use mathlib.Core.Bool.{Bool, true, false}
use mathlib.Core.List.{List, [], ◌∷◌, ◌++◌, map, flatten, append-nil}
use Prim.Native.Nat.{ℕ, ◌+◌, ◌*◌, ◌≤◌}
use native.Mathlib.Omega.{arith}
use lib.ListN.{length, length-append}
use lib.Dec.{eqb}
use Rattle.octets.specs.Choice.{pick}
use Rattle.sheet_line.specs.Line.{lf}
use Rattle.kinds.specs.declared.Numbers.{Numbers}
use Rattle.shown.specs.Line.{line_by, line_room}
use Rattle.shown.proofs.Laws.Fits.{line_fits}
use Rattle.lines.specs.Pieces.{ended_from, left_from, last_of, lines_text, last_line, lines_room}

-- the lines that end in a piece, and what is left of the room for those after it
pub lines_fit : (n : Numbers) (line piece : List ℕ)
    → length (lines_text n line piece) + 10 * length (left_from line piece) ≤ lines_room line piece
unfolding lines_text ended_from left_from flatten
lines_fit n line [] = omega arith
lines_fit n line (c ∷ t) = next (eqb c lf) (lines_fit n [] t) (lines_fit n (line ++ (c ∷ [])) t)
  where
    -- with an octet more, which is an LF or is none
    next : (ends : Bool)
        → length (lines_text n [] t) + 10 * length (left_from [] t) ≤ 10 * (0 + length t)
        → length (lines_text n (line ++ (c ∷ [])) t) + 10 * length (left_from (line ++ (c ∷ [])) t) ≤ 10 * (length (line ++ (c ∷ [])) + length t)
        → length (flatten (map (line_by n) (pick ends (line ∷ ended_from [] t) (ended_from (line ++ (c ∷ [])) t))))
        + 10 * length (pick ends (left_from [] t) (left_from (line ++ (c ∷ [])) t))
        ≤ 10 * (length line + length (c ∷ t))
    next true ended more = rw length-append (omega (arith, (line_fits n line).1))
    next false ended more = omega (arith, length-append line (c ∷ []))

-- the last line
pub last_fits : (n : Numbers) (line : List ℕ) → length (last_line n line) ≤ line_room line
unfolding last_line last_of flatten
last_fits n [] = omega arith
last_fits n (c ∷ line) = rw append-nil (line_fits n (c ∷ line)).1
