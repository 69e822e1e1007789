-- `fields::field::past_field` meets its contract: the walk over the octets up to the field's end comes to that end exactly if the
-- field is right. Assumes nothing.
use mathlib.Core.Path.{sym, ◌∙◌}
use Prim.Native.Nat.{◌+◌}
use native.Mathlib.Omega.{arith}
use Rattle.octets.proofs.Choice.{T_true}
use Rattle.fields.specs.Walk.{to_word, field_right}
use Rattle.fields.proofs.Laws.Walk.{next-size, right_room, wrong-next}
use Rattle.fields.proofs.Laws.Step.{part-right, part-wrong}
use Rattle.fields.proofs.field.past_field.Goals as goal

pub returns-then-packet-at-lt4 : goal.returns-then-packet-at-lt4
returns-then-packet-at-lt4 c = rw (right_room c.args.packet.now c.args.at (omega arith))

pub overflow_add-next : goal.overflow_add-next
unfolding to_word
overflow_add-next c = omega (arith, c.size_of.ensures, c.type_inv.packet (c.args.at + 1))

pub returns-then-packet-next : goal.returns-then-packet-next
returns-then-packet-next c =
    let p = c.args.packet.now in
    let at = c.args.at in
    let next = next-size p at c.size_of.result c.size_of.ensures in
    rw (wrong-next p at (omega arith))

pub returns-then-walk-next : goal.returns-then-walk-next
returns-then-walk-next c =
    let p = c.args.packet.now in
    let at = c.args.at in
    let next = next-size p at c.size_of.result c.size_of.ensures in
    let right = part-right p at _ next (omega arith) (sym c.walk.ensures ∙ c.if-walk-next.true) in
    rw (T_true (field_right p at) right, next)

pub returns-else-walk-next : goal.returns-else-walk-next
returns-else-walk-next c =
    let p = c.args.packet.now in
    let at = c.args.at in
    let next = next-size p at c.size_of.result c.size_of.ensures in
    rw (part-wrong p at _ next (omega arith) (λ e. c.if-walk-next.false (c.walk.ensures ∙ e)))
