-- `reception::seen_lent` meets its contract: past the checks of the sheet and the stream (`seen_under`) the own record is judged. Assumes nothing.
use Rattle.reception.proofs.Laws.Checks.{seen_under}
use Rattle.reception.proofs.seen_lent.Goals as goal

pub returns-then-not-is_legal : goal.returns-then-not-is_legal
returns-then-not-is_legal c = rw (seen_under _ _ _ _ c.in_ok-rules.ensures, ← c.is_legal.ensures, c.if-not-is_legal.true)

pub returns : goal.returns
returns c = rw (seen_under _ _ _ _ c.in_ok-rules.ensures, ← c.is_legal.ensures, c.if-not-is_legal.false)
