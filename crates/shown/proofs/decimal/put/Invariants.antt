-- `shown::decimal::put` meets its contract. The invariant: the digits from i on are put, and what is left has the first i. Assumes nothing.
use mathlib.Core.Path.{◌≡◌}
use Prim.Native.Nat.{◌+◌, ◌-◌, ◌≤◌, ◌<◌}
use lib.ListN.{length, take, drop}
use Rattle.octets.specs.Buffer.{put_at}
use Rattle.octets.specs.Text.{decimal}
use Rattle.shown.proofs.decimal.put.Given as goal

abbrev pub invariant-loop-i : goal.invariant-loop-i
invariant-loop-i l =
    (l.i ≤ length (decimal l.n)) × (length l.out ≡ length l.initial.out) × (l.out ≡ put_at l.initial.out (l.at + l.i) (drop l.i (decimal l.n)))
    × (0 < l.i → decimal l.left ≡ take l.i (decimal l.n))
