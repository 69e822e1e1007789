-- The claims of specs/Claims.antt, each by its laws. Assumes nothing.
use mathlib.Core.Path.{◌≡◌, refl, sym, ap, ◌∙◌, subst}
use mathlib.Core.List.{List, [], ◌∷◌, ◌++◌}
use mathlib.Core.Option.{some}
use Prim.Native.Nat.{ℕ, ◌*◌, ◌≤◌}
use native.Mathlib.Omega.{arith}
use lib.ListN.{length, get_or, drop, length-drop, take-append-drop}
use Rattle.octets.specs.Choice.{same}
use Rattle.octets.proofs.Choice.{same-eq}
use Rattle.octets.proofs.Lists.{listed, listed-take}
use Rattle.octets.proofs.First.{first-all}
use Rattle.streams.specs.declared.Record.{Record}
use Rattle.streams.specs.declared.Answer.{Answer}
use Rattle.streams.specs.Record.{phase_number}
use Rattle.streams.specs.Answer.{Reply, message_of, answer_said}
use Rattle.reception.specs.Steps.{Try}
use Rattle.rows.specs.Rows.{records_row, records_from, event_row, event_in, reply_row, answer_row, answers_for, answer_in, try_row, try_in}
use Rattle.rows.specs.Claims.{RecordsStand, EventsStand, Narrow, AnswersStand, AttemptsStand}
use Rattle.rows.proofs.Laws.Records.{record_in_lem, record-row, length-row, records-counted, records-right}
use Rattle.rows.proofs.Laws.Events.{event-known, event-row}
use Rattle.rows.proofs.Laws.Events.{likely-own as event-own}
use Rattle.rows.proofs.Laws.Answers.{narrow-each, own-answer, answer-length}
use Rattle.rows.proofs.Laws.Attempts.{tried}

-- ---- records

-- records stand at their own octets
from-own : (rs : List Record) → records_from (records_row rs) ≡ some rs
unfolding records_from records_row
from-own [] = refl
from-own (x ∷ rs) = rw (record_in_lem (phase_number x.phase) x.receivers x.phase refl, from-own rs)

pub records_stand : RecordsStand
records_stand n octets rs = (
  λ e. let r = records-right n octets rs e in (r.1, r.2),
  λ w.
      let long : length octets ≡ 2 * n = omega (arith, ap length w.1, length-row rs) in
      records-counted n octets long ∙ ap records_from (sym w.1) ∙ from-own rs,
)

-- ---- events

pub events_stand : EventsStand
events_stand row e =
    let own = event-own e.stream e.what in (
      event-row row e,
      λ q. subst (λ (r : List ℕ). event_in r ≡ some e) q (event-known (event_row e) (ap event_row own) ∙ ap some own),
    )

-- ---- answers

pub answers_stand : AnswersStand
unfolding answer_in
answers_stand row a = (
  λ e.
      let cause = get_or row 3 0 in
      let first = first-all (λ b. same (answer_row b) row) a (λ b. Narrow (message_of b)) (answers_for cause) (narrow-each cause) e in
      (first.0, same-eq (answer_row a) row first.1),
  λ w. subst (λ (r : List ℕ). answer_in r ≡ some a) w.1 (own-answer a w.0),
)

-- ---- attempts

-- the first five numbers and those behind them are the row
five : (row : List ℕ) → 5 ≤ length row → listed 5 0 row ++ drop 5 row ≡ row
five row h = ap (λ (l : List ℕ). l ++ drop 5 row) (listed-take 5 0 row h) ∙ take-append-drop 5 row

-- a row is another where each part is
laid : {s n : ℕ} {x y z k l m : List ℕ} → s ≡ n → x ≡ k → y ≡ l → z ≡ m → s ∷ (x ++ (y ++ z)) ≡ n ∷ (k ++ (l ++ m))
laid e f g h = cc

-- numbers that stand for an attempt are its row, and its answer is one with a narrow cause
attempt-row : (row : List ℕ) (t : Try) → try_in row ≡ some t
    → ((a : Answer) × Narrow (message_of a) × (t.reply ≡ answer_said a)) × (try_row t ≡ row)
attempt-row row t e =
    let at : ℕ → ℕ = λ k. get_or row k 0 in
    let p = tried row t e in
    let answer = (answers_stand (drop 5 row) p.answer).0 p.answered in
    let long : 5 ≤ length row = omega (arith, ap length answer.1, answer-length p.answer, length-drop 5 row) in (
      (p.answer, answer.0, p.reply),
      laid p.stream (record-row (at 1) (at 2) t.seen p.seen) (record-row (at 3) (at 4) t.wanted p.wanted)
          (ap reply_row p.reply ∙ answer.1)
          ∙ five row long,
    )

-- an attempt with such an answer stands at its own row
attempt-in : (t : Try) (a : Answer) → Narrow (message_of a) → t.reply ≡ answer_said a → try_in (try_row t) ≡ some t
unfolding try_in
attempt-in t a narrow e =
    let known : answer_in (reply_row t.reply) ≡ some a =
    ap (λ (r : Reply). answer_in (reply_row r)) e ∙ (answers_stand (answer_row a) a).1 (narrow, refl) in
    rw (
      record_in_lem (phase_number t.seen.phase) t.seen.receivers t.seen.phase refl,
      record_in_lem (phase_number t.wanted.phase) t.wanted.receivers t.wanted.phase refl,
      known,
      ← e,
    )

pub attempts_stand : AttemptsStand
attempts_stand row t = (
  attempt-row row t,
  λ w. subst (λ (r : List ℕ). try_in r ≡ some t) w.1 (attempt-in t w.0.0 w.0.1 w.0.2),
)
