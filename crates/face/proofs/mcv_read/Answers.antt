-- `face::mcv_read` meets its contract: what is told fits 16 bits. Assumes nothing.
use Rattle.face.proofs.Laws.Told.{told-plain}
use Rattle.face.proofs.Laws.Packets.{plain-read}
use Rattle.face.proofs.mcv_read.Goals as goal

pub code-requires : goal.code-requires
code-requires c = told-plain _ _ _ (plain-read c.args.sheet.now c.args.packet.now) c.read.ensures.0
