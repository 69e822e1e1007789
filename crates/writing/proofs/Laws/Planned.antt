-- What is planned of a message is written: its packet, where there is room, or the refusal. Assumes nothing.
use mathlib.Core.Path.{◌≡◌, refl, sym, ap, ◌∙◌}
use mathlib.Core.Logic.{⊎_elim}
use mathlib.Core.List.{List}
use mathlib.Core.Option.{Option, none, some}
use Prim.Native.Nat.{ℕ}
use lib.ListN.{length}
use lib.Dec.{T}
use Rattle.octets.proofs.Choice.{T_true, decide}
use Rattle.sheet.specs.declared.Sheet.{Sheet}
use Rattle.sheet.specs.Value.{sheet_from}
use Rattle.packet.specs.Row.{message_in}
use Rattle.plan.specs.declared.Plan.{Plan}
use Rattle.packet.specs.Meaning.{Meaning, meaning}
use Rattle.plan.specs.Packet.{packet_for, fitting}
use Rattle.plan.specs.Plan.{Said, refuses, plan_said, plan_by, where_packet, plan_of, plan_right, plan_packet}
use Rattle.plan.specs.Inner.{plan_for, message_from}
use Rattle.plan.proofs.Laws.Plans.{plan-said}
use Rattle.plan.proofs.Laws.Claims.{refuses-plan, row-message, plans_the_packet}
use Rattle.writing.specs.Writing.{Made, refused, room_for, write_by, refused_with, told, after}

module _ (ns row names : List ℕ) (room : ℕ) where
  -- a plan's packet
  pub writes-plan : (plan : Plan) → plan_said plan ≡ plan_of ns (message_in row) names
      → write_by ns (message_in row) names room ≡ room_for room (some (plan_packet names plan))
  unfolding write_by
  writes-plan plan e =
      let p = plans_the_packet ns row names plan e in
      rw (T_true (fitting ns) p.0, p.2)

  -- a refusal, which names no line
  pub writes-none : (number line : ℕ) → refuses number line ≡ plan_of ns (message_in row) names
      → (write_by ns (message_in row) names room ≡ refused number) × (line ≡ 0)
  unfolding write_by plan_of room_for
  writes-none number line e =
      ⊎_elim
      (λ t. let h = T_true (fitting ns) t in rw h (by (packet_for s message) refl (rw h at e)))
      (λ f. rw f (cc (rw f at e), cc (rw f at e)))
      (decide (fitting ns))
    where
      s : Sheet
      s = sheet_from ns

      message : Option Meaning
      message = meaning names (message_in row)

      by : (o : Option (List ℕ)) → packet_for s message ≡ o → refuses number line ≡ where_packet o (plan_by s (message_in row))
          → (room_for room o ≡ refused number) × (line ≡ 0)
      by none r q = (cc, cc)
      by (some p) r q =
          let m = message_from row in
          absurd (refuses-plan number line (plan_for s m) (plan-said s m ∙ ap (plan_by s) (sym (row-message s row names p r)) ∙ sym q))

module _ (ns row names out : List ℕ) where
  abbrev planned : Said
  planned = plan_of ns (message_in row) names

  abbrev wanted : Made
  wanted = write_by ns (message_in row) names (length out)

  -- a plan of the message is right
  pub plan-right : (plan : Plan) → plan_said plan ≡ planned → T (plan_right names plan)
  plan-right plan e = (plans_the_packet ns row names plan e).1

  -- so that its packet is what is to be written
  pub plan-written : (plan : Plan) → plan_said plan ≡ planned → wanted ≡ room_for (length out) (some (plan_packet names plan))
  plan-written plan e = writes-plan ns row names (length out) plan e

  -- and where there is none, its refusal is the answer
  pub none-told : (number line : ℕ) → refuses number line ≡ planned → refused_with number line ≡ told wanted
  unfolding told
  none-told number line e = let none = writes-none ns row names (length out) number line e in rw (none.0, none.1)

  pub none-after : (number line : ℕ) → refuses number line ≡ planned → out ≡ after wanted out
  unfolding after
  none-after number line e = rw (writes-none ns row names (length out) number line e).0

pub ruleset answers = (plan-right, plan-written, none-told, none-after)
