-- `sheet::numbers::numbers_of` meets its contract: the eleven numbers, and the SSRCs in the place of the zeros behind them. Assumes nothing.
use mathlib.Core.List.{append-nil}
use Rattle.sheet.specs.Value.{numbers_of}
use Rattle.sheet.proofs.numbers.numbers_of.Goals as goal

pub returns : goal.returns
unfolding numbers_of
returns c = rw (c.copy_from_slice-2.ensures.after, c.copy_from_slice.ensures.after, append-nil)
