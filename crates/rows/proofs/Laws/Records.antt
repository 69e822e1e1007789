-- Laws of octets that stand for stream records: phase and receivers of each. Assumes nothing.
use mathlib.Core.Path.{◌≡◌, refl, sym, ap, ◌∙◌}
use mathlib.Core.Logic.{◌⊎◌, inl, inr, ⊎_elim}
use mathlib.Core.Bool.{true, false, ◌&&◌}
use mathlib.Core.List.{List, [], ◌∷◌, ◌++◌}
use mathlib.Core.Option.{Option, none, some, none-ne-some, some-injective}
use Prim.Native.Nat.{ℕ, zero, suc, ◌+◌, ◌*◌, ◌≤◌, ◌<◌}
use native.Mathlib.Nat.{mul-suc}
use native.Mathlib.Omega.{arith}
use lib.ListN.{length, get_or, set, drop}
use lib.Seq.{drop-cons}
use lib.Dec.{leb, ltb, eqb, eqb→eq}
use borrow.Author.Tests.{leb-true, le-leb, lt-leb, lt-ltb, eq-eqb, ne_eqb}
use Rattle.std.specs.Prelude.{Result, Some, None}
use Rattle.std.specs.Prelude.{Option as Given}
use Rattle.std.specs.Result.{result_ok, result_unwrap_or}
use Rattle.octets.proofs.Choice.{T_true, false-T, le-or-lt, below, pick-cases}
use Rattle.octets.specs.Buffer.{put_at}
use Rattle.octets.proofs.First.{first-all}
use Rattle.streams.specs.declared.Phase.{Phase}
use Rattle.streams.specs.declared.Phase.TheVariants.{Free, Idle, Watched, Ending}
use Rattle.streams.specs.declared.Record.{Record}
use Rattle.streams.specs.Record.{phase_number, phase_of, free, own}
use Rattle.rows.specs.Rows.{is_some, both, record_row, records_row, phase_in, record_of, record_in, records_from, records_in, record_by, records_by}
use Rattle.rows.specs.Held.{given, recording_said}
use Rattle.rows.specs.Inner.{record_held}
use Rattle.rows.proofs.Laws.Put.{put_two}
use Rattle.rows.proofs.Laws.Held.{given-none, held-nothing}

-- ---- what there is

pub is-some : {A : Type 0} (o : Option A) → is_some o ≡ true → (x : A) × (o ≡ some x)
is-some none e = let z : ◌≡◌ {A = ℕ} 0 1 = cc in absurd (omega arith)
is-some (some x) e = (x, refl)

pub is-none : {A : Type 0} (o : Option A) → is_some o ≡ false → o ≡ none
is-none none e = refl
is-none (some x) e = absurd (false-T true e tt)

-- or there is nothing
pub option_cases : {A : Type 0} (o : Option A) → (o ≡ none) ⊎ ((x : A) × (o ≡ some x))
option_cases none = inl refl
option_cases (some x) = inr (x, refl)

-- there are both where there is each
is-both : {A B C : Type 0} (f : A → B → C) (a : Option A) (b : Option B) → is_some (both f a b) ≡ (is_some a && is_some b)
is-both f none b = refl
is-both f (some x) none = refl
is-both f (some x) (some y) = refl

both_some : {A B C : Type 0} (f : A → B → C) (a : Option A) (b : Option B) (z : C) → both f a b ≡ some z
    → (x : A) × (y : B) × (a ≡ some x) × (b ≡ some y) × (f x y ≡ z)
both_some f none b z e = absurd (none-ne-some z e)
both_some f (some x) none z e = absurd (none-ne-some z e)
both_some f (some x) (some y) z e = (x, y, refl, refl, some-injective _ _ e)

-- ---- phases

-- a number above 3 is no phase's
phase-above : (n : ℕ) → 3 < n → phase_in n ≡ none
unfolding phase_in
phase-above n h = rw (ne_eqb 0 n (λ e. omega arith), ne_eqb 1 n (λ e. omega arith), ne_eqb 2 n (λ e. omega arith), ne_eqb 3 n (λ e. omega arith))

pub phase_in_range : (n : ℕ) → is_some (phase_in n) ≡ leb n 3
phase_in_range n =
    ⊎_elim (λ h. T_true _ (below 4 (λ k. is_some (phase_in k)) (unfold phase_in in tt) n (omega arith)) ∙ sym (le-leb n 3 h))
    (λ h. rw (phase-above n h, lt-leb n 3 h))
    (le-or-lt n 3)

-- a phase stands at its own number ..
phase_in_lem : (p : Phase) → phase_in (phase_number p) ≡ some p
unfolding phase_in
phase_in_lem Free = refl
phase_in_lem Idle = refl
phase_in_lem Watched = refl
phase_in_lem Ending = refl

-- .. and at no other
phase-number : (n : ℕ) (p : Phase) → phase_in n ≡ some p → phase_number p ≡ n
unfolding phase_in
phase-number n p e =
    eqb→eq _ _ (first-all (λ q. eqb (phase_number q) n) p (λ q. Unit {0}) (Free ∷ Idle ∷ Watched ∷ Ending ∷ []) (tt, (tt, (tt, (tt, tt)))) e).1

-- the code has the phase of a number
pub phase-given : (n : ℕ) (r : Result Phase Unit) (o : Given Phase) → r ≡ phase_of n → o ≡ result_ok r → o ≡ given (phase_in n)
phase-given zero r o e f = rw (f, e, phase_in_lem Free)
phase-given (suc zero) r o e f = rw (f, e, phase_in_lem Idle)
phase-given (suc (suc zero)) r o e f = rw (f, e, phase_in_lem Watched)
phase-given (suc (suc (suc zero))) r o e f = rw (f, e, phase_in_lem Ending)
phase-given (suc (suc (suc (suc n)))) r o e f = rw (f, e) (given-none (phase-above (suc (suc (suc (suc n)))) (omega arith)))

-- ---- one record

-- the record with a phase stands at the phase's number
pub record_in_lem : (n b : ℕ) (p : Phase) → n ≡ phase_number p → record_in n b ≡ some (record_of b p)
record_in_lem n b p e = rw (e, phase_in_lem p)

-- there is one where there is the phase
pub is-record : (n b : ℕ) → is_some (record_in n b) ≡ is_some (phase_in n)
is-record n b = ⊎_elim (λ e. rw e) (λ s. rw s.1) (option_cases (phase_in n))

-- its octets are those that it stands for
pub record-row : (n b : ℕ) (x : Record) → record_in n b ≡ some x → record_row x ≡ n ∷ b ∷ []
record-row n b x e =
    ⊎_elim (λ h. absurd (none-ne-some x (rw h at e)))
    (λ s. rw (← some-injective (record_of b s.0) x (rw s.1 at e), phase-number n s.0 s.1))
    (option_cases (phase_in n))

-- by a number that is a phase's there is this record
pub record_known : (n b : ℕ) → n ≤ 3 → record_in n b ≡ some (record_by n b)
unfolding record_by
record_known zero b h = record_in_lem 0 b Free refl
record_known (suc zero) b h = record_in_lem 1 b Idle refl
record_known (suc (suc zero)) b h = record_in_lem 2 b Watched refl
record_known (suc (suc (suc zero))) b h = record_in_lem 3 b Ending refl
record_known (suc (suc (suc (suc n)))) b h = absurd (omega arith)

-- which any other number is taken for: the last one
pub record_last : (n b : ℕ) (r : Result Phase Unit) → r ≡ phase_of n → record_of b (result_unwrap_or r Ending) ≡ record_by n b
unfolding record_by
record_last zero b r e = rw e
record_last (suc zero) b r e = rw e
record_last (suc (suc zero)) b r e = rw e
record_last (suc (suc (suc zero))) b r e = rw e
record_last (suc (suc (suc (suc n)))) b r e = rw e

-- of two numbers there is one where the first is a phase and the second fits an octet
pub record-held : (n b k : ℕ) (p : Phase) → phase_in n ≡ some p → (b < 256) × (k ≡ b) → Some (record_of k p) ≡ given (record_held n b)
record-held n b k p e fits = rw (lt-ltb b 256 fits.0, e, fits.1)

pub record-unheld : (n b : ℕ) → phase_in n ≡ none → None ≡ given (record_held n b)
record-unheld n b e = given-none (held-nothing (ltb b 256) (record_in n b) (rw e))

record-by : (n b : ℕ) (x : Record) → record_in n b ≡ some x → record_by n b ≡ x
record-by n b x e =
    let phase : n ≤ 3 = leb-true n 3 (sym (phase_in_range n) ∙ (sym (is-record n b) ∙ ap is_some e)) in
    some-injective _ _ (sym (record_known n b phase) ∙ e)

-- ---- several records

pub length-row : (rs : List Record) → length (records_row rs) ≡ 2 * length rs
unfolding records_row
length-row [] = refl
length-row (x ∷ rs) = rw (mul-suc 2 (length rs)) (omega (arith, length-row rs))

-- one record more at the front
pub from_cons : (p b : ℕ) (octets : List ℕ) → is_some (records_from (p ∷ b ∷ octets)) ≡ (is_some (phase_in p) && is_some (records_from octets))
unfolding records_from
from_cons p b octets = rw (is-both _ (record_in p b) (records_from octets), is-record p b)

-- and from a place on
pub from_step : (octets : List ℕ) (at : ℕ) → at + 1 < length octets
    → is_some (records_from (drop at octets)) ≡ (is_some (phase_in (get_or octets at 0)) && is_some (records_from (drop (at + 2) octets)))
from_step octets at h =
    let next : at + 2 ≡ suc (suc at) = omega arith in
    rw (next, drop-cons octets at 0 (omega arith), drop-cons octets (suc at) 0 (omega arith)) (from_cons _ _ _)

-- the octets of records are those that they stand for
from_row : (octets : List ℕ) (rs : List Record) → records_from octets ≡ some rs → records_row rs ≡ octets
unfolding records_from records_row
from_row [] rs e = rw (← some-injective [] rs e)
from_row (p ∷ []) rs e = absurd (none-ne-some rs e)
from_row (p ∷ b ∷ octets) rs e =
    let s = both_some (λ x xs. x ∷ xs) (record_in p b) (records_from octets) rs e in
    rw (← s.4, from_row octets s.1 s.3) (ap (λ (l : List ℕ). l ++ octets) (record-row p b s.0 s.2))

-- and are those that are made of them
from-by : (octets : List ℕ) (rs : List Record) → records_from octets ≡ some rs → records_by octets ≡ rs
unfolding records_from records_by
from-by [] rs e = some-injective [] rs e
from-by (p ∷ []) rs e = absurd (none-ne-some rs e)
from-by (p ∷ b ∷ octets) rs e =
    let s = both_some (λ x xs. x ∷ xs) (record_in p b) (records_from octets) rs e in
    rw (record-by p b s.0 s.2, from-by octets s.1 s.3) s.4

-- ---- so many records

pub records-counted : (n : ℕ) (octets : List ℕ) → length octets ≡ 2 * n → records_in n octets ≡ records_from octets
unfolding records_in
records-counted n octets e = rw (eq-eqb (length octets) (2 * n) e)

pub records_other : (n : ℕ) (octets : List ℕ) → (length octets ≡ 2 * n → ⊥) → records_in n octets ≡ none
unfolding records_in
records_other n octets h = rw (ne_eqb (length octets) (2 * n) h)

-- where there are any, there are so many
count_of : (n : ℕ) (octets : List ℕ) → is_some (records_in n octets) ≡ true → length octets ≡ 2 * n
unfolding records_in
count_of n octets =
    pick-cases (λ o. is_some o ≡ true → length octets ≡ 2 * n) (eqb (length octets) (2 * n)) (records_from octets) none
    (λ t e. eqb→eq _ _ t)
    (λ f e. let z : ◌≡◌ {A = ℕ} 0 1 = cc in absurd (omega arith))

pub records-right : (n : ℕ) (octets : List ℕ) (rs : List Record) → records_in n octets ≡ some rs
    → (length octets ≡ 2 * n) × (length rs ≡ n) × (records_row rs ≡ octets)
records-right n octets rs e =
    let long = count_of n octets (ap is_some e) in
    let row = from_row octets rs (sym (records-counted n octets long) ∙ e) in
    (long, omega (arith, length-row rs, ap length row), row)

pub records-eight : (octets : List ℕ) (rs : List Record) → records_in 8 octets ≡ some rs
    → (length octets ≡ 16) × (length rs ≡ 8) × (records_row rs ≡ octets)
records-eight octets rs e = records-right 8 octets rs e

-- two octets are a record where the two numbers are
said-both : (o : Option Record) → recording_said (given o) ≡ both (λ x xs. x ∷ xs) o (some [])
said-both none = refl
said-both (some x) = refl

pub one_record : (octets : List ℕ) → length octets ≡ 2 → get_or octets 1 0 < 256
    → recording_said (given (record_held (get_or octets 0 0) (get_or octets 1 0))) ≡ records_in 1 octets
one_record [] l h = absurd (omega arith)
one_record (p ∷ []) l h = absurd (omega arith)
one_record (p ∷ b ∷ []) l h = rw (lt-ltb b 256 h, records-counted 1 (p ∷ b ∷ []) refl) (unfold records_from in said-both (record_in p b))
one_record (p ∷ b ∷ q ∷ octets) l h = absurd (omega arith)

-- ---- the record of a stream, for who has asked whether octets are records

-- it has its own two octets ..
pub own_at : (octets : List ℕ) (s : ℕ) → 2 * s + 1 < length octets
    → own (records_by octets) s ≡ record_by (get_or octets (2 * s) 0) (get_or octets (2 * s + 1) 0)
unfolding records_by
own_at [] s h = absurd (omega arith)
own_at (p ∷ []) s h = absurd (omega arith)
own_at (p ∷ b ∷ octets) zero h = refl
own_at (p ∷ b ∷ octets) (suc s) h =
    let phase : 2 * suc s ≡ suc (suc (2 * s)) = omega arith in
    let byte : 2 * suc s + 1 ≡ suc (suc (2 * s + 1)) = omega arith in
    rw (byte, phase) (own_at octets s (omega arith))

-- .. or is a free one where they end before it
pub own-past : (octets : List ℕ) (s : ℕ) → length octets < 2 * s + 2 → own (records_by octets) s ≡ free
unfolding records_by
own-past [] s h = refl
own-past (p ∷ []) s h = refl
own-past (p ∷ b ∷ octets) zero h = absurd (omega arith)
own-past (p ∷ b ∷ octets) (suc s) h = own-past octets s (omega arith)

-- of octets that are records, it is the stream's own
pub own-known : (n : ℕ) (octets : List ℕ) (rs : List Record) (s : ℕ) → records_in n octets ≡ some rs → own (records_by octets) s ≡ own rs s
own-known n octets rs s e =
    ap (λ (l : List Record). own l s) (from-by octets rs (sym (records-counted n octets (records-right n octets rs e).0) ∙ e))

-- ---- a record in the place of another

pub row-set : (rs : List Record) (s : ℕ) (x : Record) → s < length rs
    → records_row (set rs s x) ≡ set (set (records_row rs) (2 * s) (phase_number x.phase)) (2 * s + 1) x.receivers
unfolding records_row
row-set [] s x h = absurd (omega arith)
row-set (y ∷ rs) zero x h = refl
row-set (y ∷ rs) (suc s) x h =
    let phase : 2 * suc s ≡ suc (suc (2 * s)) = omega arith in
    let byte : 2 * suc s + 1 ≡ suc (suc (2 * s + 1)) = omega arith in
    rw (byte, phase) (ap (λ (l : List ℕ). record_row y ++ l) (row-set rs s x (omega arith)))

-- where the octets do not end before it
pub place_set : (octets : List ℕ) (s : ℕ) (x : Record) → 2 * s + 1 < length octets
    → put_at octets (2 * s) (record_row x) ≡ set (set octets (2 * s) (phase_number x.phase)) (2 * s + 1) x.receivers
place_set octets s x h = sym (put_two octets (2 * s) (phase_number x.phase) x.receivers h)
