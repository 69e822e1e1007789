-- Answers that say the same are the same (document 01: "a definition sets out this paper's number and values for each of its
-- cases"): from what is said the answer is got back. Assumes nothing.
use Rattle.std.specs.Prelude.{◌≡◌, refl, Option, Some, None, Result, Ok, Err}
use Rattle.std.proofs.Common.{sym, ap, ◌∙◌}
use Rattle.sheet.specs.declared.Refusal.{Refusal}
use Rattle.sheet.specs.Refusal.{refusal_by, refusal_back}
use Rattle.fields.specs.declared.field.Field.{Field}
use Rattle.fields.specs.Walk.{Stepped, field, end, refused, step_said}

-- an answer got back
abbrev step_back : Stepped → Result (Option Field) Refusal
step_back (field f) = Ok (Some f)
step_back end = Ok None
step_back (refused number at) = Err (refusal_by number at)

step_back_lem : (s : Result (Option Field) Refusal) → step_back (step_said s) ≡ s
step_back_lem (Ok (Some f)) = refl
step_back_lem (Ok None) = refl
step_back_lem (Err r) = ap Err (refusal_back r)

-- so no two answers to a place say the same
pub step_apart : (x y : Result (Option Field) Refusal) → step_said x ≡ step_said y → x ≡ y
step_apart x y e = sym (step_back_lem x) ∙ ap step_back e ∙ step_back_lem y
