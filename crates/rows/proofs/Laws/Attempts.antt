-- Laws of attempts and their rows: what numbers that stand for an attempt have of it, and the attempt that is made of them. Assumes nothing.
use mathlib.Core.Path.{◌≡◌, refl, sym, ap, ◌∙◌}
use mathlib.Core.Bool.{Bool, true, false, ◌&&◌}
use mathlib.Core.List.{List, ◌∷◌}
use mathlib.Core.Option.{Option, none, some, none-ne-some, some-injective}
use Prim.Native.Nat.{ℕ, ◌-◌, ◌<◌, ◌≤◌}
use native.Mathlib.Omega.{arith}
use borrow.Author.Tests.{le-ltb, lt-ltb}
use lib.ListN.{length, get_or, take, drop, length-drop}
use lib.Seq.{take_all}
use lib.Dec.{ltb}
use Rattle.octets.specs.Choice.{pick}
use Rattle.octets.proofs.Lists.{listed, listed-drop}
use Rattle.streams.specs.declared.Record.{Record}
use Rattle.streams.specs.declared.Answer.{Answer}
use Rattle.streams.specs.Record.{phase_number}
use Rattle.streams.specs.Answer.{answer_said}
use Rattle.reception.specs.declared.Attempt.{Attempt}
use Rattle.reception.specs.Steps.{Try, attempt_said}
use Rattle.rows.specs.Rows.{both, record_in, answer_row, answer_in, try_row, try_of, try_in}
use Rattle.rows.specs.Held.{octets_at, try_held}
use Rattle.rows.specs.Inner.{record_held}
use Rattle.rows.proofs.Laws.Held.{held-nothing}
use Rattle.rows.proofs.Laws.Answers.{answer_uncounted, answer-length}

-- ---- the parts of an attempt

-- what numbers have of the attempt that they stand for
pub record Tried (row : List ℕ) (a : Try) : Type 0 where
  pub stream : a.stream ≡ get_or row 0 0
  pub seen : record_in (get_or row 1 0) (get_or row 2 0) ≡ some a.seen
  pub wanted : record_in (get_or row 3 0) (get_or row 4 0) ≡ some a.wanted
  pub answer : Answer
  pub answered : answer_in (drop 5 row) ≡ some answer
  pub reply : a.reply ≡ answer_said answer

-- so it is of whatever the attempt is made of
parts : (s : ℕ) (seen wanted : Option Record) (answer : Option Answer) (a : Try)
    → both (λ (f : Answer → Try) (x : Answer). f x) (both (try_of s) seen wanted) answer ≡ some a
    → (a.stream ≡ s) × (seen ≡ some a.seen) × (wanted ≡ some a.wanted) × (x : Answer) × (answer ≡ some x) × (a.reply ≡ answer_said x)
parts s none wanted answer a e = absurd (none-ne-some a e)
parts s (some x) none answer a e = absurd (none-ne-some a e)
parts s (some x) (some y) none a e = absurd (none-ne-some a e)
parts s (some x) (some y) (some z) a e =
    let whole : try_of s x y z ≡ a = some-injective _ _ e in (
      ap (λ (t : Try). t.stream) (sym whole),
      ap (λ (t : Try). some t.seen) whole,
      ap (λ (t : Try). some t.wanted) whole,
      z,
      refl,
      ap (λ (t : Try). t.reply) (sym whole),
    )

pub tried : (row : List ℕ) (a : Try) → try_in row ≡ some a → Tried row a
unfolding try_in
tried row a p =
    let at : ℕ → ℕ = λ k. get_or row k 0 in
    let all = parts (at 0) (record_in (at 1) (at 2)) (record_in (at 3) (at 4)) (answer_in (drop 5 row)) a p in
    record { stream = all.0; seen = all.1; wanted = all.2; answer = all.3; answered = all.4; reply = all.5 }

-- what is left of a row is the part from there to its end
pub part_end : (n : ℕ) (row : List ℕ) → take (length row - n) (drop n row) ≡ drop n row
part_end n row = take_all (length row - n) (drop n row) (omega (arith, length-drop n row))

-- no two are there where the second is not
both_none : {A B C : Type 0} (f : A → B → C) (a : Option A) → both f a none ≡ none
both_none f none = refl
both_none f (some x) = refl

-- numbers that are not eleven have no answer behind the first five
pub attempt_uncounted : (row : List ℕ) → (length row ≡ 11 → ⊥) → try_held row ≡ none
unfolding try_in try_held
attempt_uncounted row h =
    held-nothing (octets_at _ row) _ (rw (answer_uncounted (drop 5 row) (λ e. h (omega (arith, e, length-drop 5 row)))) (both_none _ _))

-- ---- the attempt that is made of them

-- three tests that all have to hold, two of which are on records
parts-held : (x y : Bool) (f : Record → Record → Answer → Try) (seen wanted : Option Record) (answer : Option Answer)
    → pick (x && (y && true)) (both (λ (g : Answer → Try) (a : Answer). g a) (both f seen wanted) answer) none
    ≡ both (λ (g : Answer → Try) (a : Answer). g a) (both f (pick x seen none) (pick y wanted none)) answer
parts-held true true f seen wanted answer = refl
parts-held true false f none wanted answer = refl
parts-held true false f (some x) wanted answer = refl
parts-held false y f seen wanted answer = refl

-- where the stream fits an octet it is made of the stream, two records that do, and the answer
pub attempt-held : (row : List ℕ) → get_or row 0 0 < 256
    → try_held row ≡ both (λ (g : Answer → Try) (a : Answer). g a)
    (both (try_of (get_or row 0 0)) (record_held (get_or row 1 0) (get_or row 2 0)) (record_held (get_or row 3 0) (get_or row 4 0)))
    (answer_in (drop 5 row))
unfolding try_in try_held octets_at
attempt-held row h =
    let at : ℕ → ℕ = λ k. get_or row k 0 in
    rw (lt-ltb (at 0) 256 h)
    (parts-held (ltb (at 2) 256) (ltb (at 4) 256) (try_of (at 0)) (record_in (at 1) (at 2)) (record_in (at 3) (at 4)) (answer_in (drop 5 row)))

-- and where it does not, there is none
pub stream-unheld : (row : List ℕ) → 256 ≤ get_or row 0 0 → try_held row ≡ none
unfolding try_held octets_at
stream-unheld row h = rw (le-ltb (get_or row 0 0) 256 h)

-- no records or no answer, no attempt
module _ (row : List ℕ) (h : get_or row 0 0 < 256) where
  pub seen-unheld : record_held (get_or row 1 0) (get_or row 2 0) ≡ none → try_held row ≡ none
  seen-unheld e = attempt-held row h ∙ rw e

  pub wanted-unheld : record_held (get_or row 3 0) (get_or row 4 0) ≡ none → try_held row ≡ none
  wanted-unheld e = attempt-held row h ∙ rw (e, both_none (try_of (get_or row 0 0)) (record_held (get_or row 1 0) (get_or row 2 0)))

  pub answer-unheld : answer_in (drop 5 row) ≡ none → try_held row ≡ none
  answer-unheld e =
      attempt-held row h
      ∙ rw e (both_none _ (both (try_of (get_or row 0 0)) (record_held (get_or row 1 0) (get_or row 2 0)) (record_held (get_or row 3 0) (get_or row 4 0))))

  -- the attempt with the parts
  pub attempt-made : (s : ℕ) (seen wanted : Record) (answer : Answer) → s ≡ get_or row 0 0
      → record_held (get_or row 1 0) (get_or row 2 0) ≡ some seen → record_held (get_or row 3 0) (get_or row 4 0) ≡ some wanted
      → answer_in (drop 5 row) ≡ some answer
      → some (attempt_said (record { stream = s; seen = seen; wanted = wanted; answer = answer })) ≡ try_held row
  attempt-made s seen wanted answer e f g k = sym (attempt-held row h ∙ rw (f, g, k, e))

-- ---- an attempt as a row

-- by the rows of its parts
pub try-row : (a : Attempt) (s p b w d : ℕ) (own : List ℕ)
    → s ≡ a.stream → p ≡ phase_number a.seen.phase → b ≡ a.seen.receivers → w ≡ phase_number a.wanted.phase → d ≡ a.wanted.receivers
    → own ≡ answer_row a.answer → s ∷ p ∷ b ∷ w ∷ d ∷ listed 6 0 own ≡ try_row (attempt_said a)
try-row a s p b w d own e f g h k m =
    rw (e, f, g, h, k)
    (ap (λ (l : List ℕ). a.stream ∷ phase_number a.seen.phase ∷ a.seen.receivers ∷ phase_number a.wanted.phase ∷ a.wanted.receivers ∷ l)
    (listed-drop 6 0 own (ap length m ∙ answer-length a.answer) ∙ m))
