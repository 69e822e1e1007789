-- Messages that no packet of any sheet reads to: a number that is too wide or absent where the kind must have one, a Reject Cause beside Result 1, a
-- Result that is neither 0 nor 1, and a kind that is none of the seven. Assumes nothing.
use mathlib.Core.Path.{◌≡◌, refl, sym, ◌∙◌}
use mathlib.Core.Logic.{◌⊎◌, inl, inr, ⊎_elim}
use Prim.Native.Nat.{ℕ, zero, suc, ◌≤◌, ◌<◌}
use mathlib.Core.Bool.{Bool, true, false, ◌&&◌, and-false}
use mathlib.Core.List.{List, [], ◌∷◌, map}
use native.Mathlib.Omega.{arith}
use lib.ListN.{get_or}
use lib.Dec.{eqb, ltb, eqb→eq}
use borrow.Author.Tests.{le-ltb, lt-leb, ltb-false, ne_eqb, eqb-false}
use Rattle.octets.proofs.Choice.{T_true, false-T, pick-cases}
use Rattle.kinds.specs.declared.kind.Form.{Form}
use Rattle.kinds.specs.declared.kind.Form.TheVariants.{Number, Cause, Result, MessageType}
use Rattle.kinds.specs.Judge.{Held, absent, given}
use Rattle.kinds.specs.Kind.{Row, always, unless_granted, kinds, may_lack, may_have, is_result, grants, row, indicator}
use Rattle.kinds.specs.Reading.{reads, refused}
use Rattle.packet.specs.Row.{no_number, columns, held_in, numbers_say, message_in}
use Rattle.packet.specs.Meaning.{numeral, value_in, meaning}
use Rattle.plan.specs.Packet.{holds, is_nothing, takes, takes_all, is_one, writable, kind_with, packet_of, packet_for}
use Rattle.plan.specs.Inner.{is_message_row, number_from, indicator_fits, cause_fits, numbers_fit, Unwritable}
use Rattle.plan.proofs.Laws.Rows.{by_kind, fits-request, fits-response, fits-end-request, fits-end-response, fits-end, fits-transmission-response, fits-ack}

-- a number that a row does not take
untaken : (grant : Bool) (r : Row) (names : List ℕ) (n : ℕ) → (n ≡ no_number → may_lack grant r.need ≡ false) → holds r.form (numeral n) ≡ false
    → takes grant r (value_in names (number_from n)) ≡ false
unfolding takes value_in is_nothing
untaken grant r names n l h =
    pick-cases (λ (v : Held). takes grant r (value_in names v) ≡ false) (eqb n no_number) absent (given n) (λ t. l (eqb→eq n no_number t))
    (λ f. rw (h, and-false (may_have grant r.need)))

-- nor may it be absent
untaken-always : (grant : Bool) (id : ℕ) (form : Form) (names : List ℕ) (n : ℕ) → holds form (numeral n) ≡ false
    → takes grant (row id form always) (value_in names (number_from n)) ≡ false
unfolding may_lack
untaken-always grant id form names n h = untaken grant (row id form always) names n (λ e. refl) h

-- an Indicator that is none of 16 bits
untaken-indicator : (grant : Bool) (names : List ℕ) (n : ℕ) → indicator_fits n ≡ false → takes grant indicator (value_in names (number_from n)) ≡ false
unfolding indicator_fits holds
untaken-indicator grant names n =
    pick-cases (λ (b : Bool). b ≡ false → takes grant indicator (value_in names (number_from n)) ≡ false) (eqb n no_number) true (ltb n 65536)
    (λ t e. absurd (false-T true e tt))
    (λ f e. untaken grant indicator names n (λ x. absurd (eqb-false n no_number f x)) e)

module _ (ssrc : ℕ) (ack : Bool) where
  -- an Indicator that is too wide, in each kind that may have one
  wide-request : (user source : Held) (i : ℕ) → indicator_fits i ≡ false → Unwritable (reads 1 ssrc ack (user ∷ source ∷ number_from i ∷ []))
  unfolding packet_for packet_of meaning kind_with kinds writable takes_all
  wide-request user source i e s names = rw (untaken-indicator, and-false, and-false, and-false)

  wide-response : (result cause : Held) (i : ℕ) → indicator_fits i ≡ false → Unwritable (reads 2 ssrc ack (result ∷ cause ∷ number_from i ∷ []))
  unfolding packet_for packet_of meaning kind_with kinds writable takes_all
  wide-response result cause i e s names = rw (untaken-indicator, and-false, and-false, and-false)

  wide-end-request : (transmitter : Held) (i : ℕ) → indicator_fits i ≡ false → Unwritable (reads 3 ssrc ack (transmitter ∷ number_from i ∷ []))
  unfolding packet_for packet_of meaning kind_with kinds writable takes_all
  wide-end-request transmitter i e s names = rw (untaken-indicator, and-false, and-false)

  wide-end : (cause : Held) (i : ℕ) → indicator_fits i ≡ false → Unwritable (reads 5 ssrc ack (cause ∷ number_from i ∷ []))
  unfolding packet_for packet_of meaning kind_with kinds writable takes_all
  wide-end cause i e s names = rw (untaken-indicator, and-false, and-false)

  -- a cause that is absent or too wide
  no-cause : (cause : ℕ) (i : Held) → 65536 ≤ cause → Unwritable (reads 5 ssrc ack (number_from cause ∷ i ∷ []))
  unfolding packet_for packet_of meaning kind_with kinds writable takes_all holds
  no-cause cause i h s names =
      let no : holds Cause (numeral cause) ≡ false = le-ltb cause 65536 h in
      rw (untaken-always, and-false)

  no-cause-beside-0 : (cause : ℕ) (i : Held) → 65536 ≤ cause → Unwritable (reads 2 ssrc ack (number_from 0 ∷ number_from cause ∷ i ∷ []))
  unfolding packet_for packet_of meaning kind_with kinds writable takes_all may_lack holds grants is_result is_one value_in
  no-cause-beside-0 cause i h s names =
      rw (untaken false (row 2 Cause unless_granted) names cause (λ e. refl) (le-ltb cause 65536 h), and-false, and-false)

  -- a cause beside Result 1
  cause-beside-1 : (cause : ℕ) (i : Held) → (cause ≡ no_number → ⊥) → Unwritable (reads 2 ssrc ack (number_from 1 ∷ number_from cause ∷ i ∷ []))
  unfolding packet_for packet_of meaning kind_with kinds writable takes_all takes is_nothing may_have grants is_result is_one value_in
  cause-beside-1 cause i h s names = rw (ne_eqb cause no_number h, and-false, and-false)

  -- a Result that is neither
  no_result : (result : ℕ) (cause i : Held) → 1 < result → Unwritable (reads 2 ssrc ack (number_from result ∷ cause ∷ i ∷ []))
  unfolding packet_for packet_of meaning kind_with kinds writable takes_all holds
  no_result result cause i h s names =
      let no : holds Result (numeral result) ≡ false = lt-leb result 1 h in
      rw (untaken-always, and-false)

  -- a Source and a Message Type that are absent or too wide
  no_source : (source : ℕ) (about : Held) → 65536 ≤ source → Unwritable (reads 7 ssrc ack (number_from source ∷ about ∷ []))
  unfolding packet_for packet_of meaning kind_with kinds writable takes_all holds
  no_source source about h s names =
      let no : holds Number (numeral source) ≡ false = le-ltb source 65536 h in
      rw (untaken-always, and-false)

  no-about : (source : Held) (about : ℕ) → 256 ≤ about → Unwritable (reads 7 ssrc ack (source ∷ number_from about ∷ []))
  unfolding packet_for packet_of meaning kind_with kinds writable takes_all holds
  no-about source about h s names =
      let no : holds MessageType (numeral about) ≡ false = le-ltb about 256 h in
      rw (untaken-always, and-false, and-false)

  -- no kind of the seven
  no_kind : (kind : ℕ) (values : List Held) → ((k : ℕ) → 1 ≤ k → k ≤ 7 → k ≡ kind → ⊥) → Unwritable (reads kind ssrc ack values)
  unfolding packet_for packet_of meaning kind_with kinds
  no_kind kind values other s names =
      let no : (k : ℕ) → 1 ≤ k → k ≤ 7 → eqb k kind ≡ false = λ k l m. ne_eqb k kind (other k l m) in
      rw (
        no 1 (omega arith) (omega arith),
        no 2 (omega arith) (omega arith),
        no 3 (omega arith) (omega arith),
        no 4 (omega arith) (omega arith),
        no 5 (omega arith) (omega arith),
        no 6 (omega arith) (omega arith),
        no 7 (omega arith) (omega arith),
      )

-- a refusal is no message
refusal-unwritable : (number at : ℕ) → Unwritable (refused number at)
unfolding packet_for meaning
refusal-unwritable number at s names = refl

-- ---- numbers that do not fit

-- one of two tests fails
either : (a b : Bool) → (a && b) ≡ false → (a ≡ false) ⊎ (b ≡ false)
either true b e = inr e
either false b e = inl refl

-- a response's
misfit_response : (ssrc : ℕ) (ack : Bool) (result cause i : ℕ) → (ltb result 2 && (cause_fits (eqb result 1) cause && indicator_fits i)) ≡ false
    → Unwritable (reads 2 ssrc ack (number_from result ∷ number_from cause ∷ number_from i ∷ []))
unfolding cause_fits
misfit_response ssrc ack zero cause i e =
    ⊎_elim (λ f. no-cause-beside-0 ssrc ack cause (number_from i) (ltb-false cause 65536 f)) (λ f. wide-response ssrc ack (number_from 0) (number_from cause) i f)
    (either (ltb cause 65536) (indicator_fits i) e)
misfit_response ssrc ack (suc zero) cause i e =
    ⊎_elim (λ f. cause-beside-1 ssrc ack cause (number_from i) (eqb-false cause no_number f)) (λ f. wide-response ssrc ack (number_from 1) (number_from cause) i f)
    (either (eqb cause no_number) (indicator_fits i) e)
misfit_response ssrc ack (suc (suc n)) cause i e = no_result ssrc ack (suc (suc n)) (number_from cause) (number_from i) (omega arith)

-- those of each kind
misfit_numbers : (row : List ℕ) → numbers_fit row ≡ false → Unwritable (numbers_say row)
unfolding numbers_say columns held_in
misfit_numbers row e =
    let at : ℕ → ℕ = λ k. get_or row k 0 in
    let ssrc = at 1 in
    let ack = eqb (at 2) 1 in
    let fits : (b : Bool) → numbers_fit row ≡ b → b ≡ false = λ b f. sym f ∙ e in
    by_kind (λ (kind : ℕ). at 0 ≡ kind → Unwritable (reads kind ssrc ack (map (held_in row) (columns kind))))
    (λ z. no_kind ssrc ack 0 [] (λ k l m e. omega arith))
    (λ k. wide-request ssrc ack _ _ (at 9) (fits _ (fits-request row k)))
    (λ k. misfit_response ssrc ack (at 7) (at 8) (at 9) (fits _ (fits-response row k)))
    (λ k. wide-end-request ssrc ack _ (at 9) (fits _ (fits-end-request row k)))
    (λ k. absurd (false-T true (fits true (fits-end-response row k)) tt))
    (λ k. ⊎_elim (λ f. no-cause ssrc ack (at 8) (number_from (at 9)) (ltb-false (at 8) 65536 f)) (λ f. wide-end ssrc ack (number_from (at 8)) (at 9) f)
    (either _ _ (fits _ (fits-end row k))))
    (λ k. absurd (false-T true (fits true (fits-transmission-response row k)) tt))
    (λ k. ⊎_elim (λ f. no_source ssrc ack (at 10) (number_from (at 11)) (ltb-false (at 10) 65536 f)) (λ f. no-about ssrc ack (number_from (at 10)) (at 11) (ltb-false (at 11) 256 f))
    (either _ _ (fits _ (fits-ack row k))))
    (λ n z. no_kind ssrc ack _ [] (λ k l m e. omega arith))
    (at 0)
    refl

-- a row that stands for no message whose numbers fit
pub misfit-row : (row : List ℕ) → (is_message_row row && numbers_fit row) ≡ false → Unwritable (message_in row)
unfolding is_message_row message_in
misfit-row row e =
    pick-cases Unwritable (is_message_row row) (numbers_say row) (refused 5 0) (λ t. misfit_numbers row (rw (T_true (is_message_row row) t) at e))
    (λ f. refusal-unwritable 5 0)
