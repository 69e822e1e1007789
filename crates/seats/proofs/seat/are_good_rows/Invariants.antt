-- `seats::seat::are_good_rows` meets its contract. The invariant: each row before s is good.
use Prim.Native.Nat.{ℕ, ◌<◌}
use lib.Dec.{T}
use Rattle.sheet.specs.Inner.{good_row}
use Rattle.seats.proofs.seat.are_good_rows.Given as goal

abbrev pub invariant-loop-s : goal.invariant-loop-s
invariant-loop-s l = (i : ℕ) → i < l.s → T (good_row l.seats l.users i)
