-- `face::mcv_seen` meets its contract: what is told fits 16 bits. Assumes nothing.
use Rattle.sheet.specs.Value.{sheet_in}
use Rattle.rows.specs.Rows.{record_row}
use Rattle.reception.specs.Steps.{read_of}
use Rattle.face.specs.Calls.{seen_says}
use Rattle.face.proofs.Laws.Told.{told-plain}
use Rattle.face.proofs.Laws.Reception.{plain-seen, plain-eight}
use Rattle.face.proofs.mcv_seen.Goals as goal

pub code-requires : goal.code-requires
unfolding seen_says read_of
code-requires c =
    let a = c.args in
    told-plain _ _ _ (plain-eight record_row a.sheet.now a.records.now _ (λ rs. plain-seen (sheet_in a.sheet.now) a.stream _)) c.seen_of.ensures.0
