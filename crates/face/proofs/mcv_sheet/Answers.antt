-- `face::mcv_sheet` meets its contract: what is told fits 16 bits. Assumes nothing.
use Rattle.face.proofs.Laws.Told.{told-plain}
use Rattle.face.proofs.Laws.Sheets.{plain-sheet}
use Rattle.face.proofs.mcv_sheet.Goals as goal

pub code-requires : goal.code-requires
code-requires c = told-plain _ _ _ (plain-sheet c.args.text.now) c.read_sheet.ensures.0
