-- `writing::field_writer::put_user` meets its contract: the User ID is put behind the ID octet and the length octet, over a last word of zeros
-- (`puts-user`). Assumes nothing.
use mathlib.Core.Path.{refl}
use native.Mathlib.Omega.{arith}
use lib.ListN.{length-set}
use Rattle.fields.specs.Walk.{to_word}
use Rattle.writing.proofs.Laws.User.{puts-user}
use Rattle.writing.proofs.field_writer.put_user.Goals as goal

pub overflow_sub-at : goal.overflow_sub-at
unfolding to_word
overflow_sub-at c = omega (arith, c.size_of-size.ensures)

pub bounds-s-at : goal.bounds-s-at
unfolding to_word
bounds-s-at c = omega (arith, c.put_u32.auto.s)

pub overflow_cast-s : goal.overflow_cast-s
unfolding to_word
overflow_cast-s c = omega (arith, c.size_of-size.ensures)

pub bounds-s-at-2 : goal.bounds-s-at-2
unfolding to_word
bounds-s-at-2 c = simp length-set (omega (arith, c.put_u32.auto.s))

pub returns : goal.returns
unfolding to_word
returns c =
    let a = c.args in
    rw c.size_of-size.ensures
    (rw (c.put_octets.ensures, c.put_u32.ensures, c.size_of-size.ensures) (puts-user a.s.now a.at a.user.now c.requires.1), refl)
