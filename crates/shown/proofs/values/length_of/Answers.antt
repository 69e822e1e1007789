-- `shown::values::length_of` meets its contract. The invariant: the sum has the names that are still to come already, and lacks the values
-- from the index on. Assumes nothing.
use mathlib.Core.Path.{◌≡◌}
use mathlib.Core.List.{map}
use native.Mathlib.Omega.{arith}
use Rattle.shown.specs.Inner.{value_said}
use Rattle.shown.proofs.Laws.Values.{said_at, said-length, length-values_from-next, values_from-none, names_from-next, names_from-all, names_from-none}
use Rattle.shown.proofs.values.length_of.Goals as goal

pub loop-value-init : goal.loop-value-init
loop-value-init c = (rw names_from-all (omega arith), omega arith)

pub loop-value-preserved : goal.loop-value-preserved
loop-value-preserved c =
    let values = c.args.values.now in
    let k = c.loop-value.value-index in
    let names = names_from-next k (omega arith) in
    let text = rw said_at at c.value_length-length.ensures.0 in
    let texts = length-values_from-next c.args.packet.now (map value_said values) (said-length values (omega arith)) k (omega arith) in
    (omega arith, omega arith)

pub returns : goal.returns
returns c =
    let values = c.args.values.now in
    let all : c.loop-value.value-index ≡ 10 = omega arith in
    let i = rw (all, values_from-none c.args.packet.now (map value_said values) (said-length values (omega arith)), names_from-none) at c.loop-value.invariant.0 in
    (omega arith, omega arith)
