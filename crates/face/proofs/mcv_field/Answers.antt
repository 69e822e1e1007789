-- `face::mcv_field` meets its contract: what is told fits 16 bits. Assumes nothing.
use Rattle.face.proofs.Laws.Told.{told-plain}
use Rattle.face.proofs.Laws.Fields.{plain-field}
use Rattle.face.proofs.mcv_field.Goals as goal

pub code-requires : goal.code-requires
code-requires c = told-plain _ _ _ (plain-field c.args.packet.now c.args.place) c.field_at.ensures.0
