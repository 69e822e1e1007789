-- `streams::receivers::with` meets its contract: the disjunction sets that bit (`or_sets`). Assumes nothing.
use Rattle.streams.proofs.Laws.Bits.{or_sets}
use Rattle.streams.proofs.receivers.with.Goals as goal

pub returns : goal.returns
returns c = or_sets c.args.byte c.args.seat c.requires
