-- `rows::put` meets its contract: the row over the front, where there is room. Assumes nothing.
use Rattle.octets.specs.Buffer.{over}
use Rattle.rows.proofs.Laws.Put.{rowed-gives, rowed-short}
use Rattle.rows.proofs.put.Goals as goal

pub returns-then-out-row : goal.returns-then-out-row
returns-then-out-row c = rowed-short _ _ c.if-out-row.true

pub returns : goal.returns
unfolding over
returns c = rowed-gives c.args.row.now c.args.out.now _ c.if-out-row.false (rw c.copy_from_slice.ensures.after)
