-- What each check before the plan says of it: whether the numbers fit, then whether the row stands for a message, and then whether its names are right,
-- which is whether its meaning has a packet (`planned-is`). Assumes nothing.
use mathlib.Core.Path.{◌≡◌, sym, ap, ◌∙◌}
use mathlib.Core.Bool.{true, false, ◌&&◌, and-false}
use mathlib.Core.List.{List}
use mathlib.Core.Option.{none, some}
use Prim.Native.Nat.{ℕ, ◌<◌, ◌^◌}
use lib.Dec.{T}
use lib.ListN.{length, get_or}
use Rattle.std.specs.Prelude.{None}
use Rattle.octets.specs.Choice.{pick}
use Rattle.octets.proofs.Choice.{T_true, true-T, T-and-left, T-and-right}
use Rattle.sheet.specs.Value.{sheet_from}
use Rattle.packet.specs.Meaning.{meaning}
use Rattle.packet.specs.Message.{message_said}
use Rattle.packet.specs.Row.{message_in}
use Rattle.plan.specs.Packet.{fitting, packet_for}
use Rattle.plan.specs.Plan.{refuses, plan_said, plan_by, plan_of, plan_packet}
use Rattle.plan.specs.Inner.{kind_with_number, is_message_row, numbers_fit, message_from, names_right, plan_for, planned}
use Rattle.plan.proofs.Laws.Fitting.{other-not-fitting, fitting-fits}
use Rattle.plan.proofs.Laws.Rows.{row_is, other_length, kind-told, no_kind-misfit}
use Rattle.plan.proofs.Laws.Unwritable.{misfit-row}
use Rattle.plan.proofs.Laws.From.{fit-kind, from-said, from-width, from-right}
use Rattle.plan.proofs.Laws.Plans.{planned-is, plan-said}

module _ (ns row names : List ℕ) where
  -- numbers that do not fit have no plan, nor have too many or too few
  pub unfit : fitting ns ≡ false → plan_of ns (message_in row) names ≡ refuses 12 0
  unfolding plan_of
  unfit f = rw f

  pub uncounted : (length ns ≡ 19 → ⊥) → plan_of ns (message_in row) names ≡ refuses 12 0
  uncounted n = unfit (other-not-fitting ns n)

  module _ (f : fitting ns ≡ true) where
    -- nor has a row that stands for no message whose numbers fit
    pub misfit : (is_message_row row && numbers_fit row) ≡ false → plan_of ns (message_in row) names ≡ refuses 5 0
    unfolding plan_of
    misfit m = rw (f, misfit-row row m (sheet_from ns) names)

    pub unkind : kind_with_number (get_or row 0 0) ≡ None → plan_of ns (message_in row) names ≡ refuses 5 0
    unkind e = misfit (rw (no_kind-misfit row e) (and-false (is_message_row row)))

    pub mislong : (length row ≡ 12 → ⊥) → plan_of ns (message_in row) names ≡ refuses 5 0
    mislong n = misfit (rw (other_length row n))

    module _ (m : (is_message_row row && numbers_fit row) ≡ true) (h : get_or row 1 0 < 256 ^ 4) where
      own : T (is_message_row row)
      own = T-and-left (is_message_row row) (numbers_fit row) (true-T (is_message_row row && numbers_fit row) m)

      pub narrow : T (numbers_fit row)
      narrow = T-and-right (is_message_row row) (numbers_fit row) (true-T (is_message_row row && numbers_fit row) m)

      is : message_in row ≡ message_said (message_from row)
      is = row_is row (T_true (is_message_row row) own) ∙ sym (from-said row narrow)

      -- one that does has a meaning with a packet just if its names are right, which is its plan
      means : packet_for (sheet_from ns) (meaning names (message_in row))
          ≡ pick (names_right names row) (some (plan_packet names (plan_for (sheet_from ns) (message_from row)))) none
      unfolding planned
      means =
          let kind = fit-kind row narrow in
          rw (is, ← from-right ns names row kind.0 kind.1)
          (sym (planned-is (sheet_from ns) (fitting-fits ns (true-T (fitting ns) f)) (message_from row) names (from-width row narrow h)))

      pub misnamed : names_right names row ≡ false → plan_of ns (message_in row) names ≡ refuses 5 0
      unfolding plan_of
      misnamed w = rw (f, means, w)

      pub well : names_right names row ≡ true → plan_of ns (message_in row) names ≡ plan_said (plan_for (sheet_from ns) (message_from row))
      unfolding plan_of
      well w = rw (f, means, w) (ap (plan_by (sheet_from ns)) is ∙ sym (plan-said (sheet_from ns) (message_from row)))

pub ruleset checks = (unfit, uncounted, misfit, unkind, mislong, kind-told, misnamed, well)
