-- `rows::records::put_record` meets its contract: a record at the front, where there is room. Assumes nothing.
use mathlib.Core.Path.{sym, ◌∙◌}
use native.Mathlib.Omega.{arith}
use Rattle.octets.proofs.Buffer.{over-put_at}
use Rattle.rows.specs.Rows.{record_row}
use Rattle.rows.proofs.Laws.Put.{rowed-gives, rowed-short}
use Rattle.rows.proofs.records.put_record.Goals as goal

pub returns-then-out-lt-RECORD : goal.returns-then-out-lt-RECORD
returns-then-out-lt-RECORD c = rowed-short _ _ (omega arith)

pub returns : goal.returns
returns c =
    let a = c.args in
    rowed-gives (record_row a.own) a.out.now _ (omega arith) (c.put_at.ensures ∙ sym (over-put_at (record_row a.own) a.out.now (omega arith)))
