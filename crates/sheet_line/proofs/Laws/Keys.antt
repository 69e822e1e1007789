-- Laws on the keys of the lines: what holds of every row is one test, computed at each. Assumes nothing.
use mathlib.Core.Bool.{Bool, not}
use Prim.Native.Nat.{ℕ}
use lib.Dec.{T, eqb}
use Rattle.octets.specs.Choice.{every}
use Rattle.sheet.specs.Table.{Row, table, seat_row, row_at}
use Rattle.sheet.proofs.Laws.Rules.{every-row}
use Rattle.sheet_line.specs.Line.{lf}

-- ---- the keys of the definition

-- an octet that ends no line
abbrev pub plain_octet : ℕ → Bool
plain_octet c = not (eqb c lf)

-- no key has an LF
pub key-plain : (k : ℕ) → T (every plain_octet (row_at k).key)
unfolding table seat_row
key-plain k = every-row (λ (r : Row). every plain_octet r.key) tt tt k
