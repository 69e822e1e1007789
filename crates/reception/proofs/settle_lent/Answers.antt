-- `reception::settle_lent` meets its contract: past the checks of the sheet and the stream (`reply_under`) its tests are those of the
-- definition, in their order. Assumes nothing.
use native.Mathlib.Omega.{arith}
use Rattle.streams.proofs.Laws.Records.{same-said}
use Rattle.reception.specs.Inner.{settled}
use Rattle.reception.specs.Steps.{attempt_said}
use Rattle.reception.proofs.Laws.Checks.{reply_under, reply_refused}
use Rattle.reception.proofs.settle_lent.Goals as goal

pub returns-in_err-rules : goal.returns-in_err-rules
returns-in_err-rules c = grind (arith, reply_refused _ (attempt_said c.args.attempt) c.args.own _ _ c.in_err-rules.ensures)

pub returns-then-not-is_good : goal.returns-then-not-is_good
unfolding settled
returns-then-not-is_good c = rw (reply_under _ (attempt_said c.args.attempt) _ _ c.in_ok-rules.ensures) (grind arith)

pub returns-then-ne : goal.returns-then-ne
unfolding settled
returns-then-ne c =
    rw (reply_under _ (attempt_said c.args.attempt) _ _ c.in_ok-rules.ensures) (grind (arith, same-said c.args.own c.args.attempt.seen))

pub returns : goal.returns
unfolding settled
returns c = rw (reply_under _ (attempt_said c.args.attempt) _ _ c.in_ok-rules.ensures) (grind (arith, same-said c.args.own c.args.attempt.seen))
