-- `lines::put_ended` meets its contract. The invariant: the lines in front of what is left are printed, and there is room for those in it.
use Rattle.lines.proofs.Laws.Pieces.{Upto}
use lib.ListN.{length}
use Rattle.lines.proofs.put_ended.Given as goal

abbrev pub invariant-loop-lf : goal.invariant-loop-lf
invariant-loop-lf l = Upto l.numbers l.piece l.initial.out l.at l.left l.end l.out

abbrev pub decreases-loop-lf : goal.decreases-loop-lf
decreases-loop-lf l = length l.left
