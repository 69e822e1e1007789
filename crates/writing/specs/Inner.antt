-- What the inner functions say of what is written. The public promise rests on these, and nobody need believe them: each is only a step
-- of a proof. Assumes nothing.
use Rattle.std.specs.Prelude.{ℕ, List, length, Result}
use Rattle.std.proofs.Math.Option.{some}
use Rattle.sheet.specs.declared.Refusal.{Refusal}
use Rattle.plan.specs.declared.Plan.{Plan}
use Rattle.plan.specs.Plan.{plan_packet}
use Rattle.writing.specs.Writing.{room_for, Answered}

-- what is answered of a plan, and what the buffer holds
abbrev pub PlanWritten : List ℕ → Plan → List ℕ → Result ℕ Refusal → List ℕ → Type 0
PlanWritten names p out r now = Answered (room_for (length out) (some (plan_packet names p))) out r now
