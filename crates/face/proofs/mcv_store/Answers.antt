-- `face::mcv_store` meets its contract: what is told fits 16 bits. Assumes nothing.
use Rattle.face.proofs.Laws.Told.{told-plain}
use Rattle.face.proofs.Laws.Reception.{plain-store}
use Rattle.face.proofs.mcv_store.Goals as goal

pub code-requires : goal.code-requires
code-requires c = told-plain _ _ _ (plain-store c.args.sheet.now c.args.attempt.now c.args.records.now) c.store.ensures.0
