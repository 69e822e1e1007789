-- What the steps do to the eight records: reading and working out change nothing, what is worked out from a legal record is legal, the store
-- rule, that every schedule keeps them legal, and what an undisturbed event does. Assumes nothing.
use mathlib.Core.Path.{◌≡◌, refl}
use mathlib.Core.Logic.{⊎_elim}
use mathlib.Core.List.{List, [], ◌∷◌}
use Prim.Native.Nat.{ℕ, ◌<◌}
use native.Mathlib.Omega.{arith}
use lib.ListN.{length, set, length-set, length-replicate, get_or-replicate}
use lib.Seq.{get_or-set_same, get_or-set_other}
use lib.Dec.{T, eqb, eqb→eq}
use borrow.Author.Tests.{eqb-false}
use Rattle.octets.proofs.Choice.{T_true, decide, pick_same}
use Rattle.sheet.specs.declared.Sheet.{Sheet}
use Rattle.sheet.specs.Table.{most_seats}
use Rattle.sheet.specs.Value.{valid_alone}
use Rattle.streams.specs.declared.Record.{Record}
use Rattle.streams.specs.Record.{rules_of, on_sheet, free, same_record, legal_in, legal, own}
use Rattle.streams.specs.Answer.{discarded, Reply}
use Rattle.streams.specs.Table.{rule_for, sender_on}
use Rattle.streams.proofs.Laws.Records.{equal-same, other-not-same}
use Rattle.streams.proofs.Laws.Rules.{rule_discards, rule-plain, rule-legal}
use Rattle.reception.specs.Steps.{Said, gives, refuses, check, Try, try_of, seen_of, read_of, attempt_of, work_of, reply_of, stored, store_of}
use Rattle.reception.specs.Schedule.{Step, reads, works_out, stores, State, after, start, run}
use Rattle.reception.specs.Claims.{Legal, StartsLegal, ReadRule, WorkRule, WorksOutLegal, DiscardKeeps, Storable, StoreRule, RefusedKeeps, StaysLegal, Undisturbed}
use Rattle.reception.proofs.Laws.Steps.{on-sheet-below, attempt-gives, reply-gives}

-- ---- the records after one was set

-- the one that was set
pub own-set : (rs : List Record) (s : ℕ) (x : Record) → s < length rs → own (set rs s x) s ≡ x
own-set rs s x h = get_or-set_same rs s x free h

-- another
pub own-set-other : (rs : List Record) (s k : ℕ) (x : Record) → (k ≡ s → ⊥) → own (set rs s x) k ≡ own rs k
own-set-other rs s k x n = get_or-set_other rs s k x free n

-- the one of a seat on the sheet
own-set-on : (s : Sheet) (rs : List Record) (k : ℕ) (x : Record) → length rs ≡ most_seats → T (valid_alone s) → T (on_sheet (rules_of s) k)
    → own (set rs k x) k ≡ x
unfolding most_seats
own-set-on s rs k x e v t = own-set rs k x (omega (arith, on-sheet-below s k v t))

-- ---- the records after a store

-- another than the stream's
stored_other : (a : Try) (rs : List Record) (said : Said Reply) (k : ℕ) → (k ≡ a.stream → ⊥) → own (stored a rs said) k ≡ own rs k
unfolding stored
stored_other a rs (gives reply) k n = own-set-other rs a.stream k a.wanted n
stored_other a rs (refuses number at) k n = refl

-- they are as many as before
length-stored : (a : Try) (rs : List Record) (said : Said Reply) → length (stored a rs said) ≡ length rs
unfolding stored
length-stored a rs (gives reply) = length-set rs a.stream a.wanted
length-stored a rs (refuses number at) = refl

-- ---- reading and working out

-- a legal record of a stream on a valid sheet is given
legal-given : (s : Sheet) (stream : ℕ) (x : Record) → T (valid_alone s) → T (on_sheet (rules_of s) stream) → T (legal (rules_of s) stream x)
    → seen_of s stream x ≡ gives x
unfolding seen_of
legal-given s stream x v on l =
    let q = rules_of s in
    rw (T_true (valid_alone s) v, T_true (on_sheet q stream) on, T_true (legal q stream x) l)

pub read_rule : ReadRule
unfolding read_of
read_rule s stream rs = (refl, legal-given s stream (own rs stream))

pub work_rule : WorkRule
unfolding work_of
work_rule s x e rs = refl

-- working out from a legal record gives a legal record
pub works_out_legal : WorksOutLegal
works_out_legal s x e a p =
    let g = attempt-gives s x e a p in
    rw (← g.same) (rule-legal (rules_of s) e.stream x e.what g.is-legal g.sender)

-- a discarded event keeps the record, and has no message and no timer
pub discard_keeps : DiscardKeeps
discard_keeps s x e a p d =
    let g = attempt-gives s x e a p in
    let w : (rule_for (rules_of s) e.stream x e.what).reply.done ≡ discarded = cc g.same in
    let plain = (rule-plain (rules_of s) e.stream x e.what).0 w in
    rw (← g.same) (record { same = rule_discards (rules_of s) e.stream x e.what w; silent = plain.0; still = plain.1 })

-- ---- the store rule

module _ (s : Sheet) (a : Try) (rs : List Record) (h : Storable s a rs) where
  -- what is left to check is that the record equals the one seen
  reply-checks : reply_of s a (own rs a.stream) ≡ check (same_record (own rs a.stream) a.seen) 10 (gives a.reply)
  unfolding reply_of
  reply-checks =
      let q = rules_of s in
      let good = legal q a.stream in
      rw (
        T_true (valid_alone s) h.sheet,
        T_true (on_sheet q a.stream) h.stream,
        T_true (good (own rs a.stream)) h.own_legal,
        T_true (good a.seen) h.seen_legal,
        T_true (good a.wanted) h.wanted_legal,
      )

  -- where it does, the store gives the answer
  reply-fresh : own rs a.stream ≡ a.seen → reply_of s a (own rs a.stream) ≡ gives a.reply
  reply-fresh e = rw (reply-checks, T_true (same_record (own rs a.stream) a.seen) (equal-same (own rs a.stream) a.seen e))

  -- where it does not, it is stale
  reply-stale : (own rs a.stream ≡ a.seen → ⊥) → reply_of s a (own rs a.stream) ≡ refuses 10 0
  reply-stale n = rw (reply-checks, other-not-same (own rs a.stream) a.seen n)

pub store_rule : StoreRule
unfolding store_of stored
store_rule s a rs h =
    let x = own rs a.stream in
    record {
      exactly = ((λ e. (reply-gives s a x a.reply e).seen), reply-fresh s a rs h);
      wanted = λ e. rw (reply-fresh s a rs h e) (own-set-on s rs a.stream a.wanted h.eight h.sheet h.stream);
      others = stored_other a rs (reply_of s a x);
      eight = rw length-stored h.eight;
      stale = λ n. rw (reply-stale s a rs h n);
    }

pub refused_keeps : RefusedKeeps
unfolding store_of stored
refused_keeps s a rs number at e = rw e

-- ---- legal records

pub starts_legal : StartsLegal
unfolding legal legal_in same_record
starts_legal s =
    record {
      eight = length-replicate most_seats free;
      each = λ k l. rw (get_or-replicate most_seats k free free l) (rw pick_same tt);
    }

-- a seat on the sheet has a legal one
pub legal-own : (s : Sheet) (rs : List Record) (k : ℕ) → T (valid_alone s) → T (on_sheet (rules_of s) k) → Legal s rs → T (legal (rules_of s) k (own rs k))
unfolding most_seats
legal-own s rs k v on h = rw (T_true (on_sheet (rules_of s) k) on) at (h.each k (omega (arith, on-sheet-below s k v on)))

-- a store keeps them legal
stored-legal : (s : Sheet) (a : Try) (rs : List Record) (said : Said Reply) → reply_of s a (own rs a.stream) ≡ said
    → Legal s rs → Legal s (stored a rs said)
unfolding stored
stored-legal s a rs (gives reply) e h =
    let here = a.stream in
    let t = reply-gives s a (own rs here) reply e in
    let set_here = own-set-on s rs here a.wanted h.eight t.valid t.on in
    record {
      eight = rw length-set h.eight;
      each = λ k l.
          ⊎_elim (λ same. rw (eqb→eq k here same, T_true (on_sheet (rules_of s) here) t.on, set_here) t.wanted_legal)
          (λ other. rw (own-set-other rs here k a.wanted (eqb-false k here other)) (h.each k l))
          (decide (eqb k here));
    }
stored-legal s a rs (refuses number at) e h = h

-- one step keeps them legal
pub after-legal : (s : Sheet) (x : Step) (m : State) → Legal s m.records → Legal s (after s x m).records
unfolding after read_of work_of store_of
after-legal s (reads by stream) m h = h
after-legal s (works_out by x e) m h = h
after-legal s (stores by a e) m h = stored-legal s a m.records _ refl h

-- all steps do
run-legal : (s : Sheet) (steps : List Step) (m : State) → Legal s m.records → Legal s (run s steps m).records
unfolding run
run-legal s [] m h = h
run-legal s (x ∷ xs) m h = run-legal s xs (after s x m) (after-legal s x m h)

pub stays_legal : StaysLegal
stays_legal s rs steps h = run-legal s steps (start rs) h

-- ---- undisturbed

pub undisturbed : Undisturbed
unfolding attempt_of store_of stored
undisturbed s rs e v h on sender =
    let q = rules_of s in
    let x = own rs e.stream in
    let a = try_of (rules_of s) x e in
    let l = legal-own s rs e.stream v on h in
    let storable : Storable s a rs =
    record {
      sheet = v;
      eight = h.eight;
      stream = on;
      own_legal = l;
      seen_legal = l;
      wanted_legal = rule-legal q e.stream x e.what l sender;
    } in (
      a,
      rw (T_true (valid_alone s) v, T_true (on_sheet q e.stream) on, T_true (sender_on q e.what) sender, T_true (legal q e.stream x) l),
      rw (reply-fresh s a rs storable refl),
    )
