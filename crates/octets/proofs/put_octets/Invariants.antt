-- `octets::put_octets` meets its contract. The invariant: the first i octets are put.
use mathlib.Core.Path.{◌≡◌}
use lib.ListN.{length, take}
use Rattle.octets.specs.Buffer.{put_at}
use Rattle.octets.proofs.put_octets.Given as goal

abbrev pub invariant-loop-i : goal.invariant-loop-i
invariant-loop-i l = (length l.s ≡ length l.initial.s) × (l.s ≡ put_at l.initial.s l.at (take l.i l.octets))
