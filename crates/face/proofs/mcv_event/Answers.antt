-- `face::mcv_event` meets its contract: what is told fits 16 bits. Assumes nothing.
use Rattle.face.proofs.Laws.Told.{told-plain}
use Rattle.face.proofs.Laws.Packets.{plain-offered}
use Rattle.face.proofs.mcv_event.Goals as goal

pub code-requires : goal.code-requires
code-requires c = told-plain _ _ _ (plain-offered c.args.sheet.now c.args.users.now c.args.packet.now) c.event_of.ensures.0
