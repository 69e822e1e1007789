-- `shown::values::length_of` meets its contract. The invariant: the sum has the names that are still to come already, and lacks the values
-- from the index on.
use mathlib.Core.Path.{◌≡◌}
use mathlib.Core.List.{map}
use Prim.Native.Nat.{◌+◌, ◌*◌, ◌≤◌}
use lib.ListN.{length}
use Rattle.shown.specs.Inner.{value_said, values_from}
use Rattle.shown.proofs.Laws.Values.{names_from}
use Rattle.shown.proofs.values.length_of.Given as goal

abbrev pub invariant-loop-value : goal.invariant-loop-value
invariant-loop-value l =
    let values = map value_said l.values in
    (l.length + length (values_from l.packet values l.value-index) ≡ length (values_from l.packet values 0) + names_from l.value-index)
    × (l.length ≤ 70 + l.value-index * 4294967295)
