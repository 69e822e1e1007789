-- `kinds::judge::is_granted` meets its contract. The invariant: the walk goes to the end, and the first Result stands among the fields
-- from the place on.
use mathlib.Core.Path.{◌≡◌}
use Prim.Native.Nat.{◌-◌}
use lib.ListN.{length}
use Rattle.fields.specs.Walk.{fields_of, fields_from, stop_from}
use Rattle.kinds.specs.Judge.{granted}
use Rattle.kinds.proofs.judge.Whole.is_granted.Given as goal

abbrev pub invariant-loop-at : goal.invariant-loop-at
invariant-loop-at l = (stop_from l.packet l.at ≡ length l.packet) × (granted l.packet l.resultid (fields_from l.packet l.at) ≡ granted l.packet l.resultid (fields_of l.packet))

abbrev pub decreases-loop-at : goal.decreases-loop-at
decreases-loop-at l = length l.packet - l.at
