-- What each public function promises, one predicate a function, NAME≡: the equation that its answer meets, for every input.
-- Beside it, NAME-once: no second answer meets it. Assumes nothing.
use Rattle.std.specs.Prelude.{◌≡◌, refl, ℕ, List, [], ◌∷◌, map, Result, Ok, Err}
use Rattle.std.proofs.Common.{sym, ap, ◌∙◌}
use Rattle.octets.specs.Promises.{one_answer, one_value}
use Rattle.sheet.specs.declared.Refusal.{Refusal}
use Rattle.sheet.specs.Refusal.{refusal_by, refusal_back}
use Rattle.kinds.specs.Judge.{Held, absent, given, named}
use Rattle.packet.specs.Row.{message_in}
use Rattle.plan.specs.declared.Part.{Part}
use Rattle.plan.specs.declared.Part.TheVariants.{Absent, Word, Named}
use Rattle.plan.specs.declared.Plan.{Plan}
use Rattle.plan.specs.Plan.{Said, plans, refuses, part_said, planned_said, plan_of, plan_size}

-- ---- answers that say the same are the same: from what is said the answer is got back

abbrev part_back : Held → Part
part_back absent = Absent
part_back (given w) = Word w
part_back (named at len) = Named (record { at = at; len = len })

part_back_lem : (p : Part) → part_back (part_said p) ≡ p
part_back_lem Absent = refl
part_back_lem (Word w) = refl
part_back_lem (Named n) = refl

parts_back_lem : (ps : List Part) → map part_back (map part_said ps) ≡ ps
parts_back_lem [] = refl
parts_back_lem (p ∷ ps) = rw (part_back_lem p, parts_back_lem ps)

abbrev planned_back : Said → Result Plan Refusal
planned_back (plans start letters ssrc parts) = Ok (record { start = start; letters = letters; ssrc = ssrc; parts = map part_back parts })
planned_back (refuses number line) = Err (refusal_by number line)

planned_back_lem : (p : Result Plan Refusal) → planned_back (planned_said p) ≡ p
planned_back_lem (Ok p) = rw (parts_back_lem p.parts)
planned_back_lem (Err r) = rw (refusal_back r)

pub planned_apart : (x y : Result Plan Refusal) → planned_said x ≡ planned_said y → x ≡ y
planned_apart x y e = sym (planned_back_lem x) ∙ ap planned_back e ∙ planned_back_lem y

-- ---- plan_of

-- the plan of the message that a row stands for, under these numbers, or the refusal
abbrev pub plan_of≡ : List ℕ → List ℕ → List ℕ → Result Plan Refusal → Type 0
plan_of≡ numbers message names r = planned_said r ≡ plan_of numbers (message_in message) names

pub plan_of-once : (numbers message names : List ℕ) (x y : Result Plan Refusal)
    → plan_of≡ numbers message names x → plan_of≡ numbers message names y → x ≡ y
plan_of-once numbers message names x y e f = one_answer planned_said planned_apart x y e f

-- ---- sizes::size_of

-- the octets of the fields
abbrev pub size_of≡ : Plan → ℕ → Type 0
size_of≡ plan r = r ≡ plan_size plan

pub size_of-once : (plan : Plan) (x y : ℕ) → size_of≡ plan x → size_of≡ plan y → x ≡ y
size_of-once plan x y e f = one_value x y e f
