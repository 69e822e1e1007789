-- `rows::record::record_of` meets its contract: `record_last`. Assumes nothing.
use Rattle.rows.proofs.Laws.Records.{record_last}
use Rattle.rows.proofs.record.record_of.Goals as goal

pub returns : goal.returns
returns c = rw (c.unwrap_or.ensures, ← c.from.ensures) (record_last _ _ _ c.try_from.ensures)
