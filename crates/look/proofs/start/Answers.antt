-- `look::start` meets its contract: the sheet's text, of which nothing came yet. Assumes nothing.
use Rattle.look.specs.Steps.{look_as}
use Rattle.look.proofs.start.Goals as goal

pub returns : goal.returns
unfolding look_as
returns c = rw c.none.ensures
