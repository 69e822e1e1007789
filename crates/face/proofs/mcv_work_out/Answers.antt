-- `face::mcv_work_out` meets its contract: what is told fits 16 bits. Assumes nothing.
use Rattle.face.proofs.Laws.Told.{told-plain}
use Rattle.face.proofs.Laws.Reception.{plain-work}
use Rattle.face.proofs.mcv_work_out.Goals as goal

pub code-requires : goal.code-requires
code-requires c = told-plain _ _ _ (plain-work c.args.sheet.now c.args.seen.now c.args.event.now) c.work_out.ensures.0
