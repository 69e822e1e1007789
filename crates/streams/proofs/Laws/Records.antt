-- Laws of seats and of records: a seat on the sheet has a bit; two records are the same exactly if they are equal; what a legal one has.
-- Assumes nothing.
use mathlib.Core.Path.{◌≡◌, refl, sym, ap, ap₂, ◌∙◌}
use mathlib.Core.Bool.{false, ◌&&◌}
use denote.Enum.Bare.{sameb}
use Prim.Native.Nat.{ℕ, ◌^◌, ◌<◌, ◌≤◌}
use native.Mathlib.Omega.{arith}
use lib.Pow.{pow_pos}
use lib.Dec.{T, ltb→lt, eqb, eqb→eq, eqb_refl}
use Rattle.octets.specs.Choice.{pick}
use Rattle.octets.proofs.Choice.{T_false, T_and, T-and-left, T-and-right}
use Rattle.streams.specs.declared.Phase.{Phase}
use Rattle.streams.specs.declared.Phase.TheVariants.{Free, Idle, Watched, Ending}
use Rattle.streams.specs.contracts.Phase.{the_type}
use Rattle.streams.specs.declared.Record.{Record}
use Rattle.streams.specs.declared.stream.Rules.{Rules}
use Rattle.streams.specs.Record.{on_sheet, free, idle, ending, phase_number, is, same_record, good_receivers, legal_in, legal}
use Rattle.streams.specs.Claims.{SameExactly}

-- a seat among at most eight has a bit in the byte
pub on_below : (q : Rules) (r : ℕ) → T (on_sheet q r) → q.seats ≤ 8 → r < 8
on_below q r t h = omega (arith, ltb→lt r q.seats t)

-- the phase of a number
abbrev phase_back : ℕ → Phase
phase_back n = pick (eqb n 0) Free (pick (eqb n 1) Idle (pick (eqb n 2) Watched Ending))

-- a phase is got back from its number
phase-back : (p : Phase) → phase_back (phase_number p) ≡ p
phase-back Free = refl
phase-back Idle = refl
phase-back Watched = refl
phase-back Ending = refl

-- phases of one number are equal
phase_equal : (p q : Phase) → phase_number p ≡ phase_number q → p ≡ q
phase_equal p q e = sym (phase-back p) ∙ ap phase_back e ∙ phase-back q

-- records that are the same are equal
pub same-equal : (x y : Record) → T (same_record x y) → x ≡ y
unfolding same_record
same-equal x y t =
    ap₂ (λ (p : Phase) (b : ℕ). record { phase = p; receivers = b })
    (phase_equal x.phase y.phase (eqb→eq _ _ (T-and-left (is y.phase x) _ t)))
    (eqb→eq _ _ (T-and-right (is y.phase x) (eqb x.receivers y.receivers) t))

-- equal records are the same
pub equal-same : (x y : Record) → x ≡ y → T (same_record x y)
unfolding same_record
equal-same x y e = rw e (T_and (is y.phase y) _ (eqb_refl (phase_number y.phase)) (eqb_refl y.receivers))

-- other records are not
pub other-not-same : (x y : Record) → (x ≡ y → ⊥) → same_record x y ≡ false
other-not-same x y n = T_false (same_record x y) (λ t. n (same-equal x y t))

-- the same record has the same byte
pub same-receivers : (x y : Record) → T (same_record x y) → x.receivers ≡ y.receivers
same-receivers x y t = rw (same-equal x y t)

-- a byte 0 is below every power of two
none_below : (n b : ℕ) → b ≡ 0 → b < 2 ^ n
none_below n b e = omega (arith, pow_pos n)

-- what is legal in a phase has no bit of a seat not on the sheet
legal-in-below : (p : Phase) (q : Rules) (s : ℕ) (x : Record) → T (legal_in p q s x) → x.receivers < 2 ^ q.seats
unfolding legal_in good_receivers
legal-in-below Free q s x t = none_below q.seats x.receivers (same-receivers x free t)
legal-in-below Idle q s x t = none_below q.seats x.receivers (same-receivers x idle t)
legal-in-below Watched q s x t = ltb→lt x.receivers (2 ^ q.seats) (search (T-and-left, T-and-right))
legal-in-below Ending q s x t = none_below q.seats x.receivers (same-receivers x ending t)

-- a legal record has no bit of a seat not on the sheet, whatever its phase
pub legal-below : (q : Rules) (s : ℕ) (x : Record) → T (legal q s x) → x.receivers < 2 ^ q.seats
unfolding legal
legal-below q s x t = legal-in-below x.phase q s x t

-- the derived `==` says whether they are the same ..
phases-said : (p q : Phase) → sameb the_type p q ≡ eqb (phase_number p) (phase_number q)
phases-said Free Free = refl
phases-said Free q = refl
phases-said Idle Idle = refl
phases-said Idle q = refl
phases-said Watched Watched = refl
phases-said Watched q = refl
phases-said Ending Ending = refl
phases-said Ending q = refl

pub same-said : (x y : Record) → (sameb the_type x.phase y.phase && eqb x.receivers y.receivers) ≡ same_record x y
unfolding same_record
same-said x y = rw (phases-said x.phase y.phase)

-- .. and two records are the same exactly if they are equal
pub same_exactly_lem : SameExactly
same_exactly_lem x y = (same-equal x y, equal-same x y)
