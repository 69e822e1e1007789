-- `fields::walk::walk` meets its contract: the walk from where it has come to stops where the walk from the start does, and at a
-- break the field there is wrong. In the inner loop the octets still ahead decide on the padding. Assumes nothing.
use mathlib.Core.Path.{sym, ◌∙◌}
use native.Mathlib.Omega.{arith}
use Rattle.fields.specs.Walk.{to_word}
use Rattle.fields.proofs.Laws.Walk.{next-after, next-size, wrong-id, wrong-next, right_room, zeros-zero, zeros-other, zeros-none, padding-right, padding-wrong, stop_from-right, stop_from-wrong}
use Rattle.fields.proofs.walk.walk.Goals as goal

pub returns-then-packet-lt4 : goal.returns-then-packet-lt4
returns-then-packet-lt4 c =
    let p = c.args.packet.now in
    let from = c.args.from in
    sym (stop_from-wrong p from (right_room p from (omega arith)))

pub slice_bounds-octet-items-count : goal.slice_bounds-octet-items-count
unfolding to_word
slice_bounds-octet-items-count c = omega (arith, c.size_of-size.ensures)

pub slice_bounds-octet-items-start : goal.slice_bounds-octet-items-start
unfolding to_word
slice_bounds-octet-items-start c = omega (arith, c.size_of-size.ensures)

pub loop-octet-preserved : goal.loop-octet-preserved
loop-octet-preserved c =
    sym (zeros-zero _ c.loop-octet.octet-index c.loop-octet-test.true c.if-octet-ne0.false) ∙ c.loop-octet.invariant

pub walk-smaller : goal.walk-smaller
walk-smaller c =
    let p = c.args.packet.now in
    let at = c.walk.at in
    omega (arith, next-size p at c.size_of-size.result c.size_of-size.ensures, next-after p at)

pub walk-preserved : goal.walk-preserved
walk-preserved c =
    let p = c.args.packet.now in
    let at = c.walk.at in
    let next = next-size p at c.size_of-size.result c.size_of-size.ensures in
    let zero = sym c.loop-octet.invariant ∙ zeros-none _ c.loop-octet.octet-index c.loop-octet-test.false in
    let right = padding-right p at c.size_of-size.result next (omega arith) (omega arith) zero in
    rw next (sym (stop_from-right p at right) ∙ c.walk.invariant)

pub returns-after-walk : goal.returns-after-walk
returns-after-walk c =
    let p = c.args.packet.now in
    let at = c.walk.at in
    sym (stop_from-wrong p at (right_room p at (omega arith))) ∙ c.walk.invariant

pub returns-then-packet-at-ge-ID_END : goal.returns-then-packet-at-ge-ID_END
returns-then-packet-at-ge-ID_END c =
    let p = c.args.packet.now in
    let at = c.walk.at in
    sym (stop_from-wrong p at (wrong-id p at (omega arith))) ∙ c.walk.invariant

pub returns-then-packet-at : goal.returns-then-packet-at
returns-then-packet-at c =
    let p = c.args.packet.now in
    let at = c.walk.at in
    let next = next-size p at c.size_of-size.result c.size_of-size.ensures in
    sym (stop_from-wrong p at (wrong-next p at (omega arith))) ∙ c.walk.invariant

pub returns-then-octet-ne0 : goal.returns-then-octet-ne0
returns-then-octet-ne0 c =
    let p = c.args.packet.now in
    let at = c.walk.at in
    let next = next-size p at c.size_of-size.result c.size_of-size.ensures in
    let other = zeros-other _ c.loop-octet.octet-index c.loop-octet-test.true c.if-octet-ne0.true in
    sym (stop_from-wrong p at (padding-wrong p at c.size_of-size.result next (sym c.loop-octet.invariant ∙ other))) ∙ c.walk.invariant
