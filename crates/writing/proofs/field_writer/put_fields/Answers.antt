-- `writing::field_writer::put_fields` meets its contract: with the fields behind those passed put behind them, the buffer is as it is to be. Assumes
-- nothing.
use native.Mathlib.Omega.{arith}
use Rattle.writing.proofs.Laws.Parts.{rest-all, rest-from, rest-none, next-right, next-room, rest-next}
use Rattle.writing.proofs.field_writer.put_fields.Goals as goal

pub loop-part-init : goal.loop-part-init
loop-part-init c = rest-all _ c.args.plan.parts _ c.requires.0 c.requires.1

pub put_part-at-requires : goal.put_part-at-requires
put_part-at-requires c =
    let rest = rest-from c.args.plan.parts c.loop-part.part-index (omega arith) c.loop-part.invariant in
    (next-right rest, next-room rest)

pub loop-part-preserved : goal.loop-part-preserved
loop-part-preserved c =
    let rest = rest-from c.args.plan.parts c.loop-part.part-index (omega arith) c.loop-part.invariant in
    rw c.put_part-at.ensures.1 (rest-next rest c.put_part-at.new.s (omega arith) c.put_part-at.ensures.0)

pub returns : goal.returns
returns c = rest-none c.args.plan.parts c.loop-part.part-index (omega arith) c.loop-part.invariant
