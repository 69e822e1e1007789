-- `shown::text::put` meets its contract: the line of ten values, or the refusal on a line. Assumes nothing.
use Rattle.shown.specs.Line.{text_of}
use Rattle.shown.proofs.Laws.Values.{text_of-row}
use Rattle.shown.proofs.text.put.Goals as goal

pub put_ten-requires : goal.put_ten-requires
put_ten-requires c =
    let row = c.row_of in
    rw (c.values_of.ensures, ← text_of-row c.args.packet.now c.in-Ok.message row.result row.ensures) (rw c.in-Ok.is at c.requires)

pub put_refused-requires : goal.put_refused-requires
unfolding text_of
put_refused-requires c = rw c.number.ensures (rw c.in-Err.is at c.requires)

pub returns-in-Ok : goal.returns-in-Ok
returns-in-Ok c =
    let row = c.row_of in
    rw (c.in-Ok.is, text_of-row c.args.packet.now c.in-Ok.message row.result row.ensures) (rw c.values_of.ensures at c.put_ten.ensures)

pub returns-in-Err : goal.returns-in-Err
unfolding text_of
returns-in-Err c = rw c.in-Err.is (rw c.number.ensures at c.put_refused.ensures)
