-- The message that a row stands for: where its numbers fit, it says what they say (`from-said`), they are no wider than its types (`from-width`), and its plan is
-- right just if the row's names are (`from-right`). Assumes nothing.
use mathlib.Core.Path.{◌≡◌, refl, sym}
use Prim.Native.Nat.{ℕ, zero, suc, ◌+◌, ◌*◌, ◌^◌, ◌≤◌, ◌<◌}
use mathlib.Core.Bool.{Bool, true, false, ◌&&◌, and-true}
use mathlib.Core.List.{List, [], ◌∷◌, map}
use native.Mathlib.Omega.{arith}
use lib.ListN.{get_or}
use Rattle.std.specs.Prelude.{Some, None}
use lib.Dec.{T, eqb, leb, ltb, leb→le, ltb→lt, lt→ltb, eqb→eq}
use borrow.Author.Tests.{le-ltb, ne_eqb}
use Rattle.octets.specs.Choice.{pick}
use Rattle.octets.proofs.Choice.{T_and, T-and-left, T-and-right, false-T, pick-cases}
use Rattle.sheet.specs.Value.{sheet_by, sheet_from}
use Rattle.kinds.specs.Judge.{absent, given}
use Rattle.kinds.specs.Reading.{reads}
use Rattle.packet.specs.Message.{indicator_said, result_said, cause_said, message_said}
use Rattle.packet.specs.declared.Verdict.{Verdict}
use Rattle.packet.specs.declared.Verdict.TheVariants.{Granted, Rejected}
use Rattle.packet.specs.Row.{no_number, columns, held_in, numbers_say}
use Rattle.plan.specs.declared.Part.TheVariants.{Absent}
use Rattle.plan.specs.Packet.{within}
use Rattle.plan.specs.Plan.{part_right, plan_right}
use Rattle.plan.specs.Inner.{number_part, optional_part, named_part, indicator_part, result_part, cause_part, letters_for, parts_for, plan_with, plan_for, number_from, indicator_fits, cause_fits, numbers_fit, indicator_from, verdict_from, message_as, message_from, indicator_within, verdict_within, in_width, name_right_at, names_right}
use Rattle.plan.proofs.Laws.Fitting.{kind-small, id-small}
use Rattle.plan.proofs.Laws.Rows.{fits, by_kind, number-given, fits-request, fits-response, fits-end-request, fits-end, fits-ack}

-- ---- an Indicator

indicator-said : (n : ℕ) → indicator_said (indicator_from n) ≡ number_from n
indicator-said n = by (eqb n no_number)
  where
    by : (b : Bool) → indicator_said (pick b None (Some n)) ≡ pick b absent (given n)
    by true = refl
    by false = refl

indicator-width : (n : ℕ) → T (indicator_fits n) → T (indicator_within (indicator_from n))
unfolding indicator_fits
indicator-width n = by (eqb n no_number)
  where
    by : (b : Bool) → T (pick b true (ltb n 65536)) → T (indicator_within (pick b None (Some n)))
    by true t = tt
    by false t = t

-- its field
indicator-part : (n : ℕ) → optional_part 13 n ≡ indicator_part (indicator_from n)
indicator-part n = by (eqb n no_number)
  where
    by : (b : Bool) → pick b Absent (number_part 13 n) ≡ indicator_part (pick b None (Some n))
    by true = refl
    by false = refl

-- ---- a verdict

-- a Result that is neither 0 nor 1 does not fit
no_verdict : (n cause : ℕ) → T (ltb (suc (suc n)) 2 && cause_fits (eqb (suc (suc n)) 1) cause) → ⊥
no_verdict n cause t =
    false-T (ltb (suc (suc n)) 2) (le-ltb (suc (suc n)) 2 (omega arith)) (T-and-left (ltb (suc (suc n)) 2) (cause_fits (eqb (suc (suc n)) 1) cause) t)

result-said : (result cause : ℕ) → T (ltb result 2 && cause_fits (eqb result 1) cause) → result_said (verdict_from result cause) ≡ number_from result
result-said zero cause t = refl
result-said (suc zero) cause t = refl
result-said (suc (suc n)) cause t = absurd (no_verdict n cause t)

cause-said : (result cause : ℕ) → T (ltb result 2 && cause_fits (eqb result 1) cause) → cause_said (verdict_from result cause) ≡ number_from cause
unfolding cause_fits
cause-said zero cause t = sym (number-given cause (ltb→lt cause 65536 t))
cause-said (suc zero) cause t = rw (eqb→eq cause no_number t)
cause-said (suc (suc n)) cause t = absurd (no_verdict n cause t)

verdict_width : (result cause : ℕ) → T (ltb result 2 && cause_fits (eqb result 1) cause) → T (verdict_within (verdict_from result cause))
unfolding cause_fits
verdict_width zero cause t = t
verdict_width (suc zero) cause t = tt
verdict_width (suc (suc n)) cause t = absurd (no_verdict n cause t)

-- its fields
result-part : (id result cause : ℕ) → T (ltb result 2 && cause_fits (eqb result 1) cause) → number_part id result ≡ result_part id (verdict_from result cause)
result-part id zero cause t = refl
result-part id (suc zero) cause t = refl
result-part id (suc (suc n)) cause t = absurd (no_verdict n cause t)

cause-part : (result cause : ℕ) → T (ltb result 2 && cause_fits (eqb result 1) cause) → optional_part 2 cause ≡ cause_part (verdict_from result cause)
unfolding cause_fits
cause-part zero cause t = let h = ltb→lt cause 65536 t in rw (ne_eqb cause no_number (λ e. omega arith))
cause-part (suc zero) cause t = rw (eqb→eq cause no_number t)
cause-part (suc (suc n)) cause t = absurd (no_verdict n cause t)

-- its cause is none or one of 16 bits
pub cause-optional : (result cause : ℕ) → T (ltb result 2 && cause_fits (eqb result 1) cause) → T (indicator_fits cause)
unfolding cause_fits indicator_fits
cause-optional zero cause t = pick-cases (λ (b : Bool). T b) (eqb cause no_number) true (ltb cause 65536) (λ u. tt) (λ f. t)
cause-optional (suc zero) cause t = rw (eqb→eq cause no_number t) tt
cause-optional (suc (suc n)) cause t = absurd (no_verdict n cause t)

-- ---- a message

module _ (row : List ℕ) (t : T (numbers_fit row)) where
  abbrev at : ℕ → ℕ
  at k = get_or row k 0

  -- what fits in the row's kind fits
  pub fit : (b : Bool) → numbers_fit row ≡ b → T b
  fit b e = rw e at t

  -- of a response
  pub fit-verdict : at 0 ≡ 2 → T (ltb (at 7) 2 && cause_fits (eqb (at 7) 1) (at 8)) × T (indicator_fits (at 9))
  fit-verdict e =
      let all = fit _ (fits-response row e) in
      let rest = T-and-right (ltb (at 7) 2) _ all in
      (T_and (ltb (at 7) 2) _ (T-and-left (ltb (at 7) 2) _ all) (T-and-left (cause_fits (eqb (at 7) 1) (at 8)) _ rest), T-and-right (cause_fits (eqb (at 7) 1) (at 8)) _ rest)

  -- one of the seven kinds
  pub fit-kind : (1 ≤ at 0) × (at 0 ≤ 7)
  unfolding numbers_fit
  fit-kind =
      (leb→le 1 (at 0) (T-and-left (leb 1 (at 0)) _ t), leb→le (at 0) 7 (T-and-left (leb (at 0) 7) _ (T-and-right (leb 1 (at 0)) _ t)))

  -- it says what the row's numbers say
  pub from-said : message_said (message_from row) ≡ numbers_say row
  unfolding message_from numbers_say message_as columns held_in
  from-said =
      by_kind
      (λ (kind : ℕ). at 0 ≡ kind → message_said (message_as kind row) ≡ reads kind (at 1) (eqb (at 2) 1) (map (held_in row) (columns kind)))
      (λ e. absurd (omega (arith, fit-kind)))
      (λ e. rw (indicator-said (at 9)))
      (λ e.
      let v = (fit-verdict e).0 in
      rw (result-said (at 7) (at 8) v, cause-said (at 7) (at 8) v, indicator-said (at 9)))
      (λ e. rw (indicator-said (at 9)))
      (λ e. refl)
      (λ e. rw (indicator-said (at 9), number-given (at 8) (ltb→lt (at 8) 65536 (T-and-left (ltb (at 8) 65536) _ (fit _ (fits-end row e))))))
      (λ e. refl)
      (λ e.
      let both = fit _ (fits-ack row e) in
      let about = ltb→lt (at 11) 256 (T-and-right (ltb (at 10) 65536) _ both) in
      rw (number-given (at 10) (ltb→lt (at 10) 65536 (T-and-left (ltb (at 10) 65536) _ both)), number-given (at 11) (omega arith)))
      (λ n e. absurd (omega (arith, fit-kind)))
      (at 0)
      refl

  -- its numbers are no wider than its types
  pub from-width : at 1 < 256 ^ 4 → T (in_width (message_from row))
  unfolding message_from message_as in_width
  from-width h =
      let ssrc = lt→ltb (at 1) (256 ^ 4) h in
      by_kind (λ (kind : ℕ). at 0 ≡ kind → T (in_width (message_as kind row)))
      (λ e. ssrc)
      (λ e. T_and (within 4 (at 1)) _ ssrc (indicator-width (at 9) (fit _ (fits-request row e))))
      (λ e.
      let both = fit-verdict e in
      T_and (within 4 (at 1)) _ ssrc (T_and (verdict_within (verdict_from (at 7) (at 8))) _ (verdict_width (at 7) (at 8) both.0) (indicator-width (at 9) both.1)))
      (λ e. T_and (within 4 (at 1)) _ ssrc (indicator-width (at 9) (fit _ (fits-end-request row e))))
      (λ e. ssrc)
      (λ e.
      let both = fit _ (fits-end row e) in
      T_and (within 4 (at 1)) _ ssrc (T_and (within 2 (at 8)) _ (T-and-left (ltb (at 8) 65536) _ both) (indicator-width (at 9) (T-and-right (ltb (at 8) 65536) _ both))))
      (λ e. ssrc)
      (λ e. T_and (within 4 (at 1)) _ ssrc (fit _ (fits-ack row e)))
      (λ n e. ssrc)
      (at 0)
      refl

-- ---- its fields

module _ (id : ℕ) (row : List ℕ) where
  abbrev held : ℕ → ℕ
  held k = get_or row k 0

  pub parts-request : held 0 ≡ 1 → parts_for id (message_from row) ≡ named_part row 3 ∷ named_part row 5 ∷ optional_part 13 (held 9) ∷ []
  unfolding message_from message_as
  parts-request e = rw (e, indicator-part (held 9))

  pub parts-response : held 0 ≡ 2 → T (numbers_fit row)
      → parts_for id (message_from row) ≡ number_part id (held 7) ∷ optional_part 2 (held 8) ∷ optional_part 13 (held 9) ∷ []
  unfolding message_from message_as
  parts-response e t =
      let v = (fit-verdict row t e).0 in
      rw (e, result-part id (held 7) (held 8) v, cause-part (held 7) (held 8) v, indicator-part (held 9))

  pub parts-end-request : held 0 ≡ 3 → parts_for id (message_from row) ≡ named_part row 5 ∷ optional_part 13 (held 9) ∷ Absent ∷ []
  unfolding message_from message_as
  parts-end-request e = rw (e, indicator-part (held 9))

  pub parts-end-response : held 0 ≡ 4 → parts_for id (message_from row) ≡ named_part row 5 ∷ Absent ∷ Absent ∷ []
  unfolding message_from message_as
  parts-end-response e = rw e

  pub parts-end : held 0 ≡ 5 → parts_for id (message_from row) ≡ number_part 2 (held 8) ∷ optional_part 13 (held 9) ∷ Absent ∷ []
  unfolding message_from message_as
  parts-end e = rw (e, indicator-part (held 9))

  pub parts-transmission-response : held 0 ≡ 6 → parts_for id (message_from row) ≡ Absent ∷ Absent ∷ Absent ∷ []
  unfolding message_from message_as
  parts-transmission-response e = rw e

  pub parts-ack : held 0 ≡ 7 → parts_for id (message_from row) ≡ number_part 10 (held 10) ∷ number_part 12 (held 11 * 256) ∷ Absent ∷ []
  unfolding message_from message_as
  parts-ack e = rw e

-- ---- its plan

-- the header by the row's numbers, and by the number of its kind on the sheet
pub from-plan : (ns row : List ℕ) → 1 ≤ get_or row 0 0 → get_or row 0 0 ≤ 7
    → plan_for (sheet_from ns) (message_from row)
    ≡ plan_with (record { ssrc = get_or row 1 0; ack = eqb (get_or row 2 0) 1 }) (letters_for (get_or row 0 0)) (get_or ns (1 + get_or row 0 0) 0)
    (parts_for (get_or ns 9 0) (message_from row))
unfolding message_from message_as sheet_from sheet_by
from-plan ns row above below =
    by_kind
    (λ (kind : ℕ).
    1 ≤ kind → kind ≤ 7
    → plan_for (sheet_from ns) (message_as kind row)
    ≡ plan_with (record { ssrc = get_or row 1 0; ack = eqb (get_or row 2 0) 1 }) (letters_for kind) (get_or ns (1 + kind) 0) (parts_for (get_or ns 9 0) (message_as kind row)))
    (λ h l. absurd (omega arith))
    (λ h l. refl)
    (λ h l. refl)
    (λ h l. refl)
    (λ h l. refl)
    (λ h l. refl)
    (λ h l. refl)
    (λ h l. refl)
    (λ n h l. absurd (omega arith))
    (get_or row 0 0)
    above
    below

-- ---- its names

-- of a part that is no name, nothing is asked
right-indicator : (names : List ℕ) (n : ℕ) → part_right names (indicator_part (indicator_from n)) ≡ true
right-indicator names n = by (eqb n no_number)
  where
    by : (b : Bool) → part_right names (indicator_part (pick b None (Some n))) ≡ true
    by true = refl
    by false = refl

right_verdict : (names : List ℕ) (id : ℕ) (v : Verdict) → (part_right names (result_part id v) ≡ true) × (part_right names (cause_part v) ≡ true)
right_verdict names id Granted = (refl, refl)
right_verdict names id (Rejected cause) = (refl, refl)

-- so the plan is right just if the row's names are
pub from-right : (ns names row : List ℕ) → 1 ≤ get_or row 0 0 → get_or row 0 0 ≤ 7
    → plan_right names (plan_for (sheet_from ns) (message_from row)) ≡ names_right names row
unfolding message_from message_as names_right name_right_at
from-right ns names row above below =
    let at : ℕ → ℕ = λ k. get_or row k 0 in
    let kept = right-indicator names (at 9) in
    by_kind (λ (kind : ℕ). at 0 ≡ kind → 1 ≤ kind → kind ≤ 7 → plan_right names (plan_for (sheet_from ns) (message_as kind row)) ≡ names_right names row)
    (λ e h l. absurd (omega arith))
    (λ e h l. rw (e, kept) (simp and-true))
    (λ e h l. let v = right_verdict names (sheet_from ns).resultid (verdict_from (at 7) (at 8)) in rw (e, v.0, v.1, kept))
    (λ e h l. rw (e, kept) (simp and-true))
    (λ e h l. rw e (simp and-true))
    (λ e h l. rw (e, kept))
    (λ e h l. rw e)
    (λ e h l. rw e)
    (λ n e h l. absurd (omega arith))
    (at 0)
    refl
    above
    below

pub ruleset parts =
    (fits, fit, fit-verdict, cause-optional, parts-request, parts-response, parts-end-request, parts-end-response, parts-end, parts-transmission-response, parts-ack)

pub ruleset plans = (from-plan, fit-kind, kind-small, id-small)
