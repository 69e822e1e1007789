-- `face::mcv_count` meets its contract: what is told fits 16 bits. Assumes nothing.
use mathlib.Core.List.{[], ◌∷◌}
use Prim.Native.Nat.{ℕ}
use Rattle.sheet.specs.Value.{sheet_in}
use Rattle.reception.specs.Steps.{count_of}
use Rattle.face.specs.Calls.{count_says}
use Rattle.face.proofs.Laws.Told.{told-plain}
use Rattle.face.proofs.Laws.Reception.{plain-count, plain-eight}
use Rattle.face.proofs.mcv_count.Goals as goal

pub code-requires : goal.code-requires
unfolding count_says count_of
code-requires c =
    let a = c.args in
    told-plain _ _ _ (plain-eight (λ (n : ℕ). n ∷ []) a.sheet.now a.records.now _ (λ rs. plain-count (sheet_in a.sheet.now) a.stream _)) c.count_of.ensures.0
