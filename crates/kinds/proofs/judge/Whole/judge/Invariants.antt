-- `kinds::judge::judge` meets its contract. The invariant is `Judging`: no field before the place is at fault, and the places are theirs.
use Prim.Native.Nat.{◌-◌}
use lib.ListN.{length}
use Rattle.kinds.proofs.Laws.Judged.{Judging}
use Rattle.kinds.proofs.judge.Whole.judge.Given as goal

abbrev pub invariant-loop-at : goal.invariant-loop-at
invariant-loop-at l = Judging l.packet l.slots l.places l.at

abbrev pub decreases-loop-at : goal.decreases-loop-at
decreases-loop-at l = length l.packet - l.at
