-- `shown::values::values_of` meets its contract, one value after the other. Assumes nothing.
use native.Mathlib.Omega.{arith}
use Rattle.shown.proofs.Laws.Rows.{ten-listed}
use Rattle.shown.proofs.values.values_of.Goals as goal

pub returns : goal.returns
returns c = rw (ten-listed c.args.row (omega arith)) cc
