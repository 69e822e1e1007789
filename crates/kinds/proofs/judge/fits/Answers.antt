-- `kinds::judge::fits` meets its contract: form by form, since a right field's value ends in the packet (`right-inside`). Assumes nothing.
use Prim.Native.Nat.{◌+◌}
use native.Mathlib.Nat.{add_assoc, add-sub_cancel_left}
use borrow.Author.Tests.{eq-eqb, ne_eqb}
use Rattle.octets.proofs.Big.{big_at-two}
use Rattle.fields.specs.Walk.{field_at, value_of}
use Rattle.kinds.specs.Judge.{fits, number_at}
use Rattle.kinds.proofs.judge.fits.Goals as goal

pub returns-in-UserId : goal.returns-in-UserId
unfolding fits field_at value_of
returns-in-UserId c = rw (c.in-UserId.is, c.is_user_id.ensures, add-sub_cancel_left)

pub returns-in-Number : goal.returns-in-Number
unfolding fits field_at
returns-in-Number c = rw c.in-Number.is

pub returns-in-Cause : goal.returns-in-Cause
unfolding fits field_at
returns-in-Cause c = rw c.in-Cause.is

pub returns-then-len-eq2 : goal.returns-then-len-eq2
unfolding fits field_at number_at
returns-then-len-eq2 c =
    rw (c.in-Result.is, c.u16_of.ensures, ← (big_at-two c.args.packet.now (c.args.at + 2)), eq-eqb _ 2 c.if-len-eq2.true)

pub returns-else-len-eq2 : goal.returns-else-len-eq2
unfolding fits field_at
returns-else-len-eq2 c = rw (c.in-Result.is, ne_eqb _ 2 c.if-len-eq2.false)

pub returns-then-len-eq2-2 : goal.returns-then-len-eq2-2
unfolding fits field_at
returns-then-len-eq2-2 c = rw (c.in-MessageType.is, add_assoc, eq-eqb _ 2 c.if-len-eq2-2.true)

pub returns-else-len-eq2-2 : goal.returns-else-len-eq2-2
unfolding fits field_at
returns-else-len-eq2-2 c = rw (c.in-MessageType.is, ne_eqb _ 2 c.if-len-eq2-2.false)

pub returns-in-Barred : goal.returns-in-Barred
unfolding fits field_at
returns-in-Barred c = rw c.in-Barred.is
