-- `plan::sizes::size_of` meets its contract: the size is that of the fields passed, each of which is bounded. Assumes nothing.
use mathlib.Core.Path.{◌≡◌}
use Prim.Native.Nat.{◌*◌, ◌≤◌}
use lib.ListN.{take}
use Rattle.std.specs.Prelude.{sum_by}
use Rattle.plan.specs.Plan.{part_size}
use Rattle.plan.specs.Inner.{size_bound}
use Rattle.plan.proofs.sizes.size_of.Given as goal

abbrev pub invariant-loop-part : goal.invariant-loop-part
invariant-loop-part l = (l.size ≡ sum_by part_size (take l.part-index l.part-items)) × (l.size ≤ l.part-index * size_bound)
