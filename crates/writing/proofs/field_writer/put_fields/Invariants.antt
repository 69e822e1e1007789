-- `writing::field_writer::put_fields` meets its contract: with the fields behind those passed put behind them, the buffer is as it is to be. Assumes
-- nothing.
use lib.ListN.{drop}
use Rattle.octets.specs.Buffer.{over}
use Rattle.plan.specs.Plan.{parts_octets}
use Rattle.writing.proofs.Laws.Parts.{Rest}
use Rattle.writing.proofs.field_writer.put_fields.Given as goal

abbrev pub invariant-loop-part : goal.invariant-loop-part
invariant-loop-part l = Rest l.names (drop l.part-index l.part-items) l.s l.at (over (parts_octets l.names l.part-items) l.fn.s)
