-- `face::mcv_packet` meets its contract: what is told fits 16 bits. Assumes nothing.
use lib.ListN.{length}
use Rattle.sheet.specs.Value.{sheet_in}
use Rattle.rows.specs.Rows.{answer_in}
use Rattle.face.specs.Calls.{packet_says}
use Rattle.face.proofs.Laws.Told.{told-plain}
use Rattle.face.proofs.Laws.Writes.{plain-sent}
use Rattle.face.proofs.mcv_packet.Goals as goal

pub code-requires : goal.code-requires
unfolding packet_says
code-requires c =
    let a = c.args in
    told-plain _ _ _ (plain-sent (sheet_in a.sheet.now) a.users.now a.stream (answer_in a.answer.now) (length a.out.now)) c.packet_of.ensures.0
