-- `lines::held::none` meets its contract: nothing, filled up with zeros. Assumes nothing.
use mathlib.Core.Path.{refl}
use Rattle.octets.specs.Buffer.{padded}
use Rattle.lines.specs.Pieces.{held_of}
use Rattle.lines.proofs.held.none.Goals as goal

pub returns : goal.returns
unfolding held_of padded
returns c = refl
