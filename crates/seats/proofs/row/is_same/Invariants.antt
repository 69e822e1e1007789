-- `seats::row::is_same` meets its contract. The invariant: the octets so far are the same.
use mathlib.Core.Path.{◌≡◌}
use lib.ListN.{length, take}
use Rattle.octets.specs.Choice.{same}
use Rattle.seats.proofs.row.is_same.Given as goal

abbrev pub invariant-loop-x : goal.invariant-loop-x
invariant-loop-x l = l.alike ≡ same (take (length l.yielded) l.a) (take (length l.yielded) l.b)
