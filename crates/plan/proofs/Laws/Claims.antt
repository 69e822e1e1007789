-- The claims on plans. Assumes nothing.
use mathlib.Core.Path.{◌≡◌, refl, sym, ap, ◌∙◌}
use mathlib.Core.Logic.{⊎_elim}
use mathlib.Core.Bool.{◌&&◌}
use mathlib.Core.List.{List}
use mathlib.Core.Option.{Option, none, some, some-injective, none-ne-some}
use Prim.Native.Nat.{ℕ}
use lib.Dec.{T}
use Rattle.std.specs.Prelude.{Ok}
use Rattle.octets.proofs.Choice.{pick-cases, T_true, T-and-left, T-and-right, decide}
use Rattle.sheet.specs.declared.Sheet.{Sheet}
use Rattle.sheet.specs.Value.{sheet_from}
use Rattle.kinds.specs.Kind.{numbers_of}
use Rattle.packet.specs.Message.{message_said}
use Rattle.packet.specs.Row.{message_in}
use Rattle.plan.specs.declared.Plan.{Plan}
use Rattle.packet.specs.Meaning.{Meaning, meaning}
use Rattle.plan.specs.Packet.{packet_for, fits, fitting}
use Rattle.plan.specs.Plan.{Said, refuses, plan_said, plan_by, where_packet, plan_of, plan_right, plan_packet}
use Rattle.plan.specs.Inner.{plan_for, planned, is_message_row, numbers_fit, message_from}
use Rattle.plan.specs.Promises.{planned_apart}
use Rattle.plan.specs.Claims.{PlansThePacket, TakesItsSize}
use Rattle.plan.proofs.Laws.Fitting.{fitting-fits}
use Rattle.plan.proofs.Laws.Parts.{plan-length}
use Rattle.plan.proofs.Laws.Packets.{packet-within}
use Rattle.plan.proofs.Laws.Rows.{row_is}
use Rattle.plan.proofs.Laws.Unwritable.{misfit-row}
use Rattle.plan.proofs.Laws.From.{from-said}
use Rattle.plan.proofs.Laws.Plans.{planned-is, plan-said}

-- ---- the plan is the packet

-- a plan that has a packet is right, and it is that packet
laid_out : (names : List ℕ) (plan : Plan) (p : List ℕ) → planned names plan ≡ some p → T (plan_right names plan) × (p ≡ plan_packet names plan)
unfolding planned
laid_out names plan p e =
    pick-cases (λ (o : Option (List ℕ)). o ≡ some p → T (plan_right names plan) × (p ≡ plan_packet names plan))
    (plan_right names plan) (some (plan_packet names plan)) none
    (λ t q. (t, sym (some-injective (plan_packet names plan) p q)))
    (λ f q. absurd (none-ne-some p q))
    e

-- a refusal is no plan
pub refuses-plan : (number line : ℕ) (plan : Plan) → plan_said plan ≡ refuses number line → ⊥
refuses-plan number line plan e = cc

-- two plans that are said alike are the same
plan-apart : (x y : Plan) → plan_said x ≡ plan_said y → x ≡ y
plan-apart x y e = cc (planned_apart (Ok x) (Ok y) e)

-- a row with a packet stands for a message, whose numbers fit ..
pub row-message : (s : Sheet) (row names p : List ℕ) → packet_for s (meaning names (message_in row)) ≡ some p → message_in row ≡ message_said (message_from row)
row-message s row names p r =
    ⊎_elim
    (λ t.
    row_is row (T_true (is_message_row row) (T-and-left (is_message_row row) (numbers_fit row) t))
    ∙ sym (from-said row (T-and-right (is_message_row row) (numbers_fit row) t)))
    (λ e. absurd (none-ne-some p (sym (misfit-row row e s names) ∙ r)))
    (decide (is_message_row row && numbers_fit row))

-- .. and therefore go into their octets
plan-laid : (s : Sheet) → T (fits (numbers_of s)) → (row names p : List ℕ) (plan : Plan)
    → packet_for s (meaning names (message_in row)) ≡ some p → plan_said plan ≡ plan_by s (message_in row)
    → T (plan_right names plan) × (p ≡ plan_packet names plan)
plan-laid s t row names p plan r e =
    let m = message_from row in
    let is = row-message s row names p r in
    let packet : packet_for s (meaning names (message_said m)) ≡ some p = rw is at r in
    let same = plan-apart plan (plan_for s m) (e ∙ ap (plan_by s) is ∙ sym (plan-said s m)) in
    laid_out names plan p (rw same (planned-is s t m names (packet-within s m names p packet) ∙ packet))

pub plans_the_packet : PlansThePacket
unfolding plan_of
plans_the_packet ns row names plan e =
    pick-cases (λ (x : Said). plan_said plan ≡ x → Laid (packet_for s message)) (fitting ns) (where_packet (packet_for s message) (plan_by s (message_in row))) (refuses 12 0)
    (λ t q. by t (packet_for s message) refl q)
    (λ f q. absurd (refuses-plan 12 0 plan q))
    e
  where
    s : Sheet
    s = sheet_from ns

    message : Option Meaning
    message = meaning names (message_in row)

    Laid : Option (List ℕ) → Type 0
    Laid o = T (fitting ns) × T (plan_right names plan) × (o ≡ some (plan_packet names plan))

    by : T (fitting ns) → (o : Option (List ℕ)) → packet_for s message ≡ o → plan_said plan ≡ where_packet o (plan_by s (message_in row)) → Laid o
    by t none r q = absurd (refuses-plan 5 0 plan q)
    by t (some p) r q = let l = plan-laid s (fitting-fits ns t) row names p plan r q in (t, l.0, ap some l.1)

-- ---- its size

pub takes_its_size : TakesItsSize
takes_its_size names plan t = plan-length names plan t
