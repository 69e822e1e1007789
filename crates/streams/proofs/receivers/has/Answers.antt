-- `streams::receivers::has` meets its contract: the bit is the lowest of the byte shifted to it (`shifted`). Assumes nothing.
use native.Mathlib.Omega.{arith}
use Rattle.streams.specs.Record.{watches}
use Rattle.streams.proofs.Laws.Bits.{shifted}
use Rattle.streams.proofs.receivers.has.Goals as goal

pub returns : goal.returns
unfolding watches
returns c = rw (c.unwrap_or.ensures, shifted c.args.byte c.args.seat c.checked_shr.result (omega arith) c.checked_shr.ensures)
