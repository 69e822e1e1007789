-- `outgoing::answer::message_of` meets its contract: a User ID has few octets (`length-name_of-le`). Assumes nothing.
use native.Mathlib.Omega.{arith}
use Rattle.sheet.proofs.Laws.Rows.{length-name_of-le}
use Rattle.outgoing.proofs.answer.message_of.Goals as goal

pub overflow_cast-len : goal.overflow_cast-len
overflow_cast-len c = omega (arith, c.name_length.ensures, length-name_of-le c.args.name.now)
