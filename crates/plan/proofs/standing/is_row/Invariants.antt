-- `plan::standing::is_row` meets its contract: the numbers passed may each stand where they stand. Assumes nothing.
use mathlib.Core.Path.{◌≡◌}
use lib.ListN.{drop}
use Rattle.kinds.specs.Found.{kind_number}
use Rattle.plan.specs.Inner.{span_for, is_message_row}
use Rattle.plan.proofs.Laws.Rows.{stands_from}
use Rattle.plan.proofs.standing.is_row.Given as goal

abbrev pub invariant-loop-i : goal.invariant-loop-i
invariant-loop-i l = is_message_row l.message ≡ stands_from (span_for (kind_number l.row.kind)) l.i (drop l.i l.message)
