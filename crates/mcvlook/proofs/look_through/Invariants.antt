-- `mcvlook::look_through` is safe: what a turn has gathered, its second field, stays less than a piece.
use Prim.Native.Nat.{◌<◌}
use Rattle.mcvlook.proofs.look_through.Given as goal

abbrev pub invariant-loop : goal.invariant-loop
invariant-loop l = l.turn.1.0 < 16384
