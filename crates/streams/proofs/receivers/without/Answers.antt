-- `streams::receivers::without` meets its contract: the mask clears that bit (`and_clears`). Assumes nothing.
use native.Mathlib.Omega.{arith}
use Rattle.streams.proofs.Laws.Bits.{and_clears}
use Rattle.streams.proofs.receivers.without.Goals as goal

pub returns : goal.returns
returns c = and_clears c.args.byte c.args.seat (omega arith) c.requires
