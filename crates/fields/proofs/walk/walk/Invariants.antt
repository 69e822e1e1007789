-- What the loops of `fields::walk::walk` keep: the walk from where it has come to stops where the walk from the start does, and in the
-- inner loop the octets still ahead decide on the padding. Assumes nothing.
use mathlib.Core.Path.{◌≡◌}
use Prim.Native.Nat.{◌-◌}
use lib.ListN.{length, drop}
use Rattle.fields.specs.Walk.{zeros, stop_from}
use Rattle.fields.proofs.walk.walk.Given as goal

abbrev pub invariant-loop-octet : goal.invariant-loop-octet
invariant-loop-octet l = zeros (drop l.octet-index l.octet-items) ≡ zeros l.octet-items

abbrev pub invariant-walk : goal.invariant-walk
invariant-walk l = stop_from l.packet l.at ≡ stop_from l.packet l.from

abbrev pub decreases-walk : goal.decreases-walk
decreases-walk l = length l.packet - l.at
