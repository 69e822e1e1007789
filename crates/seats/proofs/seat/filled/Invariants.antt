-- `seats::seat::filled` meets its contract. The invariant: n are those among the octets so far.
use mathlib.Core.Path.{◌≡◌}
use Prim.Native.Nat.{◌≤◌}
use lib.ListN.{take}
use Rattle.seats.specs.Inner.{filled}
use Rattle.seats.proofs.seat.filled.Given as goal

abbrev pub invariant-loop-c : goal.invariant-loop-c
invariant-loop-c l = (l.n ≡ filled (take l.c-index l.row)) × (l.n ≤ l.c-index)
