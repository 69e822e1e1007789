-- `shown::text::length_of` meets its contract: the ten values and an LF, or the refusal on a line. Assumes nothing.
use native.Mathlib.Omega.{arith}
use Rattle.shown.specs.Line.{text_of}
use Rattle.shown.proofs.Laws.Values.{text_of-row, length-ten_line}
use Rattle.shown.proofs.text.length_of.Goals as goal

pub returns-in-Ok : goal.returns-in-Ok
returns-in-Ok c =
    let row = c.row_of in
    let length = rw c.values_of.ensures at c.length_of.ensures.0 in
    rw (c.in-Ok.is, text_of-row c.args.packet.now c.in-Ok.message row.result row.ensures, length-ten_line) (omega arith)

pub returns-in-Err : goal.returns-in-Err
unfolding text_of
returns-in-Err c = rw c.in-Err.is (rw c.number.ensures at c.refused_length.ensures)
