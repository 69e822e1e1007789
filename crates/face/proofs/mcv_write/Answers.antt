-- `face::mcv_write` meets its contract: what is told fits 16 bits. Assumes nothing.
use lib.ListN.{length}
use Rattle.sheet.specs.Value.{sheet_in}
use Rattle.packet.specs.Row.{message_in}
use Rattle.face.specs.Calls.{write_says}
use Rattle.face.proofs.Laws.Told.{told-plain}
use Rattle.face.proofs.Laws.Writes.{plain-written}
use Rattle.face.proofs.mcv_write.Goals as goal

pub code-requires : goal.code-requires
unfolding write_says
code-requires c =
    let a = c.args in
    told-plain _ _ _ (plain-written (sheet_in a.sheet.now) (message_in a.message.now) a.names.now (length a.out.now)) c.write.ensures.0
