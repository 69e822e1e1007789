-- `rows::answer::row_of` meets its contract: answer by answer. Assumes nothing.
use Rattle.streams.specs.declared.Answer.TheVariants.{GrantedFirst, Granted, GrantedAgain, Rejected, Ended, EndedLast, Opened, EndRequested, Freed, FreedWithAck, ReleasedIdle, ReleasedWatched, ReleasedEnding, Discarded}
use Rattle.rows.specs.Rows.{timers_sum}
use Rattle.rows.proofs.Laws.Answers.{own_row}
use native.Mathlib.Omega.{arith}
use Rattle.rows.proofs.answer.row_of.Goals as goal

pub returns-in-GrantedFirst : goal.returns-in-GrantedFirst
unfolding timers_sum
returns-in-GrantedFirst c = rw c.in-GrantedFirst.is (own_row GrantedFirst tt)

pub returns-in-Granted : goal.returns-in-Granted
unfolding timers_sum
returns-in-Granted c = rw c.in-Granted.is (own_row Granted tt)

pub returns-in-GrantedAgain : goal.returns-in-GrantedAgain
unfolding timers_sum
returns-in-GrantedAgain c = rw c.in-GrantedAgain.is (own_row GrantedAgain tt)

pub returns-in-Rejected : goal.returns-in-Rejected
unfolding timers_sum
returns-in-Rejected c = rw (c.in-Rejected.is, c.from.ensures) (own_row (Rejected c.in-Rejected.cause) (omega arith))

pub returns-in-Ended : goal.returns-in-Ended
unfolding timers_sum
returns-in-Ended c = rw c.in-Ended.is (own_row Ended tt)

pub returns-in-EndedLast : goal.returns-in-EndedLast
unfolding timers_sum
returns-in-EndedLast c = rw c.in-EndedLast.is (own_row EndedLast tt)

pub returns-in-Opened : goal.returns-in-Opened
unfolding timers_sum
returns-in-Opened c = rw c.in-Opened.is (own_row Opened tt)

pub returns-in-EndRequested : goal.returns-in-EndRequested
unfolding timers_sum
returns-in-EndRequested c = rw (c.in-EndRequested.is, c.from-in-EndRequested.ensures) (own_row (EndRequested c.in-EndRequested.cause) (omega arith))

pub returns-in-Freed : goal.returns-in-Freed
unfolding timers_sum
returns-in-Freed c = rw c.in-Freed.is (own_row Freed tt)

pub returns-in-FreedWithAck : goal.returns-in-FreedWithAck
unfolding timers_sum
returns-in-FreedWithAck c = rw c.in-FreedWithAck.is (own_row FreedWithAck tt)

pub returns-in-ReleasedIdle : goal.returns-in-ReleasedIdle
unfolding timers_sum
returns-in-ReleasedIdle c = rw c.in-ReleasedIdle.is (own_row ReleasedIdle tt)

pub returns-in-ReleasedWatched : goal.returns-in-ReleasedWatched
unfolding timers_sum
returns-in-ReleasedWatched c = rw c.in-ReleasedWatched.is (own_row ReleasedWatched tt)

pub returns-in-ReleasedEnding : goal.returns-in-ReleasedEnding
unfolding timers_sum
returns-in-ReleasedEnding c = rw c.in-ReleasedEnding.is (own_row ReleasedEnding tt)

pub returns-in-Discarded : goal.returns-in-Discarded
unfolding timers_sum
returns-in-Discarded c = rw c.in-Discarded.is (own_row Discarded tt)
