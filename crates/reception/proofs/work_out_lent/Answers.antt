-- `reception::work_out_lent` meets its contract: past the checks of the sheet and the stream (`attempt_under`) its tests are those of the
-- definition, and the table's row (`changes_by_table`) is the attempt. Assumes nothing.
use native.Mathlib.Omega.{arith}
use Rattle.sheet.specs.Table.{most_seats}
use Rattle.reception.specs.Steps.{work_of}
use Rattle.streams.proofs.Laws.Rules.{changes_by_table}
use Rattle.reception.proofs.Laws.Checks.{under-admits, attempt_under}
use Rattle.reception.proofs.work_out_lent.Goals as goal

pub returns-then-not-is_legal : goal.returns-then-not-is_legal
unfolding work_of
returns-then-not-is_legal c rs = rw (attempt_under _ _ c.args.event _ c.in_ok-rules.ensures) (grind arith)

pub returns : goal.returns
unfolding work_of most_seats
returns c rs =
    let few = (under-admits _ _ _ c.in_ok-rules.ensures).few in
    rw (attempt_under _ _ c.args.event _ c.in_ok-rules.ensures) (grind (arith, few, changes_by_table, c.change_of-change.ensures))
