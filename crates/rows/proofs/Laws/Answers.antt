-- Laws of answers and their rows: the likely answer of an answer's row is that answer, so numbers stand for their likely answer or for none.
-- Assumes nothing.
use mathlib.Core.Path.{◌≡◌, refl, sym, ap, ◌∙◌, subst}
use mathlib.Core.Bool.{Bool, true, false}
use mathlib.Core.List.{List, [], ◌∷◌}
use mathlib.Core.Option.{Option, none, some}
use Prim.Native.Nat.{ℕ, ◌<◌, ◌%◌}
use native.Mathlib.Omega.{arith}
use borrow.Author.Tests.{lt-ltb}
use lib.ListN.{length, get_or, drop}
use lib.Dec.{T, ltb, ltb→lt}
use Rattle.std.specs.Prelude.{Some, None}
use Rattle.octets.specs.Choice.{pick, same, All, some_of}
use Rattle.octets.proofs.Choice.{NoneFrom, T-or-left, same_refl, pick-cases}
use Rattle.streams.specs.declared.Answer.{Answer}
use Rattle.streams.specs.declared.Answer.TheVariants.{GrantedFirst, Granted, GrantedAgain, Rejected, Ended, EndedLast, Opened, EndRequested, Freed, FreedWithAck, ReleasedIdle, ReleasedWatched, ReleasedEnding, Discarded}
use Rattle.streams.specs.Answer.{Sent, reply, done_by, message_of, timers_of}
use Rattle.rows.specs.Rows.{timers_sum, reply_row, answer_row, answers_for, answer_in}
use Rattle.rows.specs.Held.{given}
use Rattle.rows.specs.Promises.{row_of≡}
use Rattle.rows.specs.Claims.{Narrow}
use Rattle.rows.specs.Inner.{likely_answers, likely_answer}
use Rattle.rows.proofs.Laws.Whose.{all_get_or, all_weaker, get_or-rest, whose-none, whose-some}
use Rattle.rows.proofs.Laws.Held.{given-none}

-- the likely answer by the numbers
abbrev pub likely_in : List ℕ → Answer
likely_in row = likely_answer (get_or row 0 0) (get_or row 1 0) (get_or row 3 0 % 65536) (get_or row 4 0) (get_or row 5 0)

-- ---- causes of 16 bits

abbrev pub NarrowAnswer : Answer → Type 0
NarrowAnswer a = Narrow (message_of a)

narrow-pick : (b : Bool) (x y : Answer) → NarrowAnswer x → NarrowAnswer y → NarrowAnswer (pick b x y)
narrow-pick true x y h k = h
narrow-pick false x y h k = k

-- a likely answer has such a cause
likely-narrow : (done kind cause stops starts : ℕ) → cause < 65536 → NarrowAnswer (likely_answer done kind cause stops starts)
likely-narrow done kind cause stops starts h =
    let each : All NarrowAnswer (likely_answers kind cause stops starts) = search (narrow-pick) in
    all_get_or NarrowAnswer (likely_answers kind cause stops starts) Discarded each tt done

-- ---- an answer's own row

narrow-mod : (c : ℕ) → c < 65536 → c % 65536 ≡ c
narrow-mod c h = omega arith

-- its likely answer is the answer
pub likely-own : (a : Answer) → NarrowAnswer a → likely_in (answer_row a) ≡ a
unfolding timers_sum
likely-own (Rejected c) h = rw (narrow-mod c h)
likely-own (EndRequested c) h = rw (narrow-mod c h)
likely-own GrantedFirst h = refl
likely-own Granted h = refl
likely-own GrantedAgain h = refl
likely-own Ended h = refl
likely-own EndedLast h = refl
likely-own Opened h = refl
likely-own Freed h = refl
likely-own FreedWithAck h = refl
likely-own ReleasedIdle h = refl
likely-own ReleasedWatched h = refl
likely-own ReleasedEnding h = refl
likely-own Discarded h = refl

-- all answers of a row have such a cause
pub narrow-each : (c : ℕ) → All NarrowAnswer (answers_for c)
unfolding answers_for
narrow-each c =
    let last : All NarrowAnswer (pick (ltb c 65536) (Rejected c ∷ EndRequested c ∷ []) []) =
    pick-cases (All NarrowAnswer) (ltb c 65536) (Rejected c ∷ EndRequested c ∷ []) [] (λ t. (ltb→lt c 65536 t, (ltb→lt c 65536 t, tt))) (λ f. tt) in
    (tt, (tt, (tt, (tt, (tt, (tt, (tt, (tt, (tt, (tt, (tt, (tt, last))))))))))))

-- so it is for them
likely-each : (c : ℕ) → All (λ a. likely_in (answer_row a) ≡ a) (answers_for c)
likely-each c = all_weaker NarrowAnswer (λ a. likely_in (answer_row a) ≡ a) likely-own (answers_for c) (narrow-each c)

-- and the answer is among them
among : (a : Answer) → NarrowAnswer a → T (some_of (λ b. same (answer_row b) (answer_row a)) (answers_for (get_or (answer_row a) 3 0)))
unfolding answers_for timers_sum
among (Rejected c) h = let row = answer_row (Rejected c) in rw (lt-ltb c 65536 h) (T-or-left (same row row) false (same_refl row))
among (EndRequested c) h = let row = answer_row (EndRequested c) in rw (lt-ltb c 65536 h) (T-or-left (same row row) false (same_refl row))
among GrantedFirst h = tt
among Granted h = tt
among GrantedAgain h = tt
among Ended h = tt
among EndedLast h = tt
among Opened h = tt
among Freed h = tt
among FreedWithAck h = tt
among ReleasedIdle h = tt
among ReleasedWatched h = tt
among ReleasedEnding h = tt
among Discarded h = tt

-- ---- numbers as an answer

-- they stand for their likely answer where they are its row
pub answer-known : (row : List ℕ) → answer_row (likely_in row) ≡ row → answer_in row ≡ some (likely_in row)
unfolding answer_in
answer-known row e =
    let narrow = likely-narrow (get_or row 0 0) (get_or row 1 0) (get_or row 3 0 % 65536) (get_or row 4 0) (get_or row 5 0) (omega arith) in
    whose-some answer_row likely_in row (answers_for (get_or row 3 0)) (likely-each (get_or row 3 0))
    (subst (λ (l : List ℕ). T (some_of (λ b. same (answer_row b) l) (answers_for (get_or l 3 0)))) e (among (likely_in row) narrow))

-- and for none where they are not
pub answer-none : (row : List ℕ) → (answer_row (likely_in row) ≡ row → ⊥) → answer_in row ≡ none
unfolding answer_in
answer-none row n = whose-none answer_row likely_in row (answers_for (get_or row 3 0)) (likely-each (get_or row 3 0)) n

-- an answer's own row stands for it
pub own-answer : (a : Answer) → NarrowAnswer a → answer_in (answer_row a) ≡ some a
own-answer a h = let own = likely-own a h in answer-known (answer_row a) (ap answer_row own) ∙ ap some own

pub own_row : (a : Answer) → NarrowAnswer a → row_of≡ a (answer_row a)
own_row a h = (refl, own-answer a h)

-- an answer's row has six numbers
pub answer-length : (a : Answer) → length (answer_row a) ≡ 6
answer-length a = with-sent (message_of a)
  where
    with-sent : (sends : Option Sent) → length (reply_row (reply (done_by a) sends (timers_of a))) ≡ 6
    with-sent none = refl
    with-sent (some m) = refl

-- so any other count of numbers is no answer's
pub answer_uncounted : (row : List ℕ) → (length row ≡ 6 → ⊥) → answer_in row ≡ none
answer_uncounted row n = answer-none row (λ e. n (ap length (sym e) ∙ answer-length (likely_in row)))

-- by the likely answer: where its row is the numbers, there it is
pub answer-found : (row own : List ℕ) (a : Answer) → a ≡ likely_in row → own ≡ answer_row a → row ≡ own → Some a ≡ given (answer_in row)
answer-found row own a made is same =
    let known = answer-known row (sym (ap answer_row made) ∙ sym is ∙ sym same) in
    rw (known, made)

-- and where it is not, there is none
pub answer-other : (row own : List ℕ) (a : Answer) → a ≡ likely_in row → own ≡ answer_row a → (row ≡ own → ⊥) → None ≡ given (answer_in row)
answer-other row own a made is other = given-none (answer-none row (λ same. other (sym same ∙ sym (ap answer_row made) ∙ sym is)))

-- any other number than 1 to 7 is likely that of an event discarded
pub likely_rest : (done kind cause stops starts : ℕ) → NoneFrom 1 7 done → likely_answer done kind cause stops starts ≡ Discarded
likely_rest done kind cause stops starts t = get_or-rest Discarded (drop 1 (likely_answers kind cause stops starts)) done t
