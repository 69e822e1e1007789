-- Demand 3's last sentence: a stream's count is what the history of its taken events says. Every step keeps each stream's record the one
-- that the taken events of the stream tell. Assumes nothing.
use mathlib.Core.Path.{◌≡◌, refl, sym, ap, ◌∙◌, subst, fun_ext}
use mathlib.Core.Logic.{⊎_elim}
use mathlib.Core.Bool.{Bool, true, false, not, ◌&&◌, ◌||◌, and-true, or-false, or_comm, and-or_distrib_right}
use mathlib.Core.List.{List, [], ◌∷◌, ◌++◌, append-nil, append_assoc}
use Prim.Native.Nat.{ℕ, zero, suc, ◌/◌, ◌%◌, ◌^◌, ◌<◌}
use native.Mathlib.Nat.{lt_of_lt_of_le, le_of_suc-le-suc, not-suc-le-zero, pow-succ', pow-le-pow_right, mod-one, mod-lt, mod-eq_of_lt}
use native.Mathlib.Numerals.{add-one}
use native.Mathlib.Omega.{arith}
use lib.ListN.{length, drop, set, replicate, length-append, length-set, length-replicate}
use lib.Seq.{drop-append_seam}
use lib.Arith.{mod-mul}
use lib.Pow.{pow_pos}
use lib.Count.{ones, ones_cat}
use lib.Dec.{eqb, eqb→eq, eqb_refl}
use borrow.Author.Tests.{eqb-false}
use Rattle.octets.specs.Choice.{pick, some_of, keep, All}
use Rattle.octets.proofs.Choice.{T_true, decide, some-of-append}
use Rattle.octets.proofs.Keep.{keep_append, keep-snoc-true, keep-snoc-false}
use Rattle.sheet.specs.declared.Sheet.{Sheet}
use Rattle.sheet.specs.Table.{most_seats}
use Rattle.sheet.specs.Value.{valid_alone}
use Rattle.streams.specs.declared.Record.{Record}
use Rattle.streams.specs.declared.Event.{Event}
use Rattle.streams.specs.Record.{rules_of, on_sheet, watches, free, count, legal, own, all_free}
use Rattle.streams.specs.Answer.{Reply}
use Rattle.streams.specs.Table.{Answered, grants_at, undoes_at}
use Rattle.streams.proofs.Laws.Bits.{watches-none}
use Rattle.streams.proofs.Laws.Records.{legal-below}
use Rattle.streams.proofs.Laws.Rules.{rule-legal, rule-bits}
use Rattle.reception.specs.Steps.{Said, gives, refuses, Try, try_of, seen_of, read_of, work_of, attempt_of, reply_of, stored, store_of, counted, count_of}
use Rattle.reception.specs.Schedule.{Step, reads, works_out, stores, WorkedOut, State, after, if_took, taken_at, start, run, taken}
use Rattle.reception.specs.History.{of_stream, places, lasts, shown, shown_count}
use Rattle.reception.specs.Claims.{CountFromHistory, CountTold}
use Rattle.reception.proofs.Laws.Steps.{seats-le-8, on-sheet-below, WorkRight, attempt-gives, reply-gives}
use Rattle.reception.proofs.Laws.Stores.{own-set, own-set-other, starts_legal, legal-own, stays_legal}
use Rattle.reception.proofs.Laws.Serial.{serial_order}

-- ---- the number of ones

-- a digit that is 1 is kept
one_kept : (d n : ℕ) → d < 2 → length (pick (eqb d 1) (n ∷ []) []) ≡ ones d
unfolding ones
one_kept zero n h = refl
one_kept (suc zero) n h = refl
one_kept (suc (suc d)) n h = absurd (omega arith)

-- the ones of the low n bits are the places of those that are set
length-kept : (b n : ℕ) → length (keep (watches b) (places n)) ≡ ones (b % 2 ^ n)
unfolding places ones watches
length-kept b zero = rw mod-one
length-kept b (suc n) =
    let digit = b / 2 ^ n % 2 in
    let low = mod-lt b (pow_pos n) in
    rw (keep_append, length-append, length-kept b n, pow-succ', mod-mul b {m = 2} (omega arith) (pow_pos n), ones_cat n digit (b % 2 ^ n) low)
    (omega (arith, one_kept digit n (omega arith)))

-- the ones are the places of the bits that are set
ones_keep : (n b : ℕ) → b < 2 ^ n → ones b ≡ length (keep (watches b) (places n))
ones_keep n b h = rw (length-kept b n, mod-eq_of_lt h)

-- ---- one event more

-- a test that is, at each place below n, another test and c: at some place it is the other test at some place and c
some-place : (p q : ℕ → Bool) (c : Bool) (n : ℕ) → ((i : ℕ) → i < n → p i ≡ (q i && c)) → some_of p (places n) ≡ (some_of q (places n) && c)
unfolding places
some-place p q c zero h = refl
some-place p q c (suc n) h =
    rw (some-of-append p (places n) (n ∷ []), some-of-append q (places n) (n ∷ []), some-place p q c n (λ i l. h i (omega arith)), h n (omega arith))
    (simp (or-false, and-or_distrib_right))

-- a test and not one of two others: the test, not the one and not the other
and-not-or : (a b c : Bool) → (a && not (b || c)) ≡ (a && not b && not c)
and-not-or true true c = refl
and-not-or true false c = refl
and-not-or false b c = refl

-- with one event more, an earlier grant still lasts if it lasted before and that event does not end it
lasts-snoc : (r : ℕ) (ts : List Answered) (t : Answered) (i : ℕ) → i < length ts
    → lasts r (drop i (ts ++ (t ∷ []))) ≡ (lasts r (drop i ts) && not (undoes_at r t))
unfolding lasts
lasts-snoc r [] t i h = absurd (not-suc-le-zero h)
lasts-snoc r (x ∷ ts) t zero h =
    rw (some-of-append (undoes_at r) ts (t ∷ []), or-false) (and-not-or (grants_at r x) (some_of (undoes_at r) ts) (undoes_at r t))
lasts-snoc r (x ∷ ts) t (suc i) h = lasts-snoc r ts t i (le_of_suc-le-suc h)

-- one event more: it grants, or the history showed the seat before and it does not end
pub shown-snoc : (r : ℕ) (ts : List Answered) (t : Answered) → shown r (ts ++ (t ∷ [])) ≡ (grants_at r t || (shown r ts && not (undoes_at r t)))
unfolding shown places lasts
shown-snoc r ts t =
    let lastsAt : List Answered → ℕ → Bool = λ (us : List Answered) (i : ℕ). lasts r (drop i us) in
    let more = ts ++ (t ∷ []) in
    rw (length-append, add-one, some-of-append (lastsAt more) (places (length ts)), drop-append_seam, and-true, or-false)
    (rw (some-place (lastsAt more) (lastsAt ts) (not (undoes_at r t)) (length ts) (lasts-snoc r ts t))
    (or_comm (shown r ts && not (undoes_at r t)) (grants_at r t)))

-- ---- a record that the taken events of its stream tell

-- a byte of eight bits, each set exactly if the history shows its seat
record Told (x : Record) (ts : List Answered) : Type 0 where
  below : x.receivers < 2 ^ most_seats
  bits : (r : ℕ) → watches x.receivers r ≡ shown r ts

-- its count is the history's
told-count : {x : Record} {ts : List Answered} → Told x ts → count x ≡ shown_count ts
unfolding count shown_count
told-count {x} h =
    ones_keep most_seats x.receivers h.below ∙ ap (λ (p : ℕ → Bool). length (keep p (places most_seats))) (fun_ext h.bits)

-- no event tells a free one
told_free : Told free []
unfolding shown places most_seats
told_free = record { below = omega arith; bits = watches-none }

-- ---- eight records that the taken events tell

record Tells (rs : List Record) (ts : List Answered) : Type 0 where
  eight : length rs ≡ most_seats
  each : (k : ℕ) → Told (own rs k) (of_stream k ts)

-- each of free records is free
own-free : (n k : ℕ) → own (replicate n free) k ≡ free
own-free zero k = refl
own-free (suc n) zero = refl
own-free (suc n) (suc k) = own-free n k

-- no event tells eight free ones
tells-free : Tells all_free []
unfolding of_stream
tells-free = record { eight = length-replicate most_seats free; each = λ k. rw own-free told_free }

-- an event worked out on the record x
module _ (s : Sheet) (x : Record) (e : Event) (a : Try) (w : WorkRight s x e a) where
  -- the events of the stream tell the record wanted, if those before told x
  wanted-told : (ts : List Answered) → Told x ts → Told (try_of (rules_of s) x e).wanted (ts ++ (record { event = e; reply = (try_of (rules_of s) x e).reply } ∷ []))
  unfolding most_seats
  wanted-told ts h =
      let q = rules_of s in
      let l = legal-below q e.stream (try_of (rules_of s) x e).wanted (rule-legal q e.stream x e.what w.is-legal w.sender) in
      record {
        below = lt_of_lt_of_le l (pow-le-pow_right (omega arith) (seats-le-8 s w.valid));
        bits = λ r. rw (shown-snoc, ← h.bits r) (rule-bits q e.stream x e.what w.is-legal w.sender r);
      }

  -- so all events tell the eight with the record wanted in its place, if x stood there
  wanted-tells : (rs : List Record) (ts : List Answered) → own rs e.stream ≡ x → Tells rs ts
      → Tells (set rs e.stream (try_of (rules_of s) x e).wanted) (ts ++ (record { event = e; reply = (try_of (rules_of s) x e).reply } ∷ []))
  unfolding of_stream most_seats
  wanted-tells rs ts seen h = record { eight = length-set rs i y ∙ h.eight; each = each }
    where
      i : ℕ
      i = e.stream

      y : Record
      y = (try_of (rules_of s) x e).wanted

      t : Answered
      t = record { event = e; reply = (try_of (rules_of s) x e).reply }

      of : ℕ → Answered → Bool
      of k u = eqb u.event.stream k

      here : Told (own (set rs i y) i) (of_stream i (ts ++ (t ∷ [])))
      here =
          rw (own-set rs i y (omega (arith, h.eight, on-sheet-below s i w.valid w.on)), keep-snoc-true (of i) ts t (T_true _ (eqb_refl i)))
          (wanted-told (of_stream i ts) (rw seen at (h.each i)))

      each : (k : ℕ) → Told (own (set rs i y) k) (of_stream k (ts ++ (t ∷ [])))
      each k =
          ⊎_elim
          (λ same. subst (λ (j : ℕ). Told (own (set rs i y) j) (of_stream j (ts ++ (t ∷ [])))) (eqb→eq i k same) here)
          (λ other. rw (own-set-other rs i k y (λ p. eqb-false i k other (sym p)), keep-snoc-false (of k) ts t other) (h.each k))
          (decide (eqb i k))

-- ---- steps keep that

-- a store, whatever it says
store_tells : (s : Sheet) (a : Try) (x : Record) (e : Event) (rs : List Record) (ts : List Answered) (said : Said Reply)
    → attempt_of s x e ≡ gives a → reply_of s a (own rs a.stream) ≡ said → Tells rs ts → Tells (stored a rs said) (ts ++ if_took e said)
unfolding stored if_took
store_tells s a x e rs ts (gives reply) worked took h =
    let w = attempt-gives s x e a worked in
    let t = reply-gives s a (own rs a.stream) reply took in
    rw (← t.same, ← w.same) (wanted-tells s x e a w rs ts (rw (← w.same) at t.seen) h)
store_tells s a x e rs ts (refuses number at) worked took h = rw append-nil h

-- any step
after-tells : (s : Sheet) (x : Step) (m : State) (ts : List Answered) → WorkedOut s x → Tells m.records ts
    → Tells (after s x m).records (ts ++ taken_at s x m)
unfolding after taken_at read_of work_of store_of
after-tells s (reads q stream) m ts w h = rw append-nil h
after-tells s (works_out q x e) m ts w h = rw append-nil h
after-tells s (stores q a e) m ts w h =
    store_tells s a w.0 e m.records ts (reply_of s a (own m.records a.stream)) w.1 refl h

-- a schedule
run-tells : (s : Sheet) (steps : List Step) (m : State) (ts : List Answered) → All (WorkedOut s) steps → Tells m.records ts
    → Tells (run s steps m).records (ts ++ taken s steps m)
unfolding run taken
run-tells s [] m ts w h = rw append-nil h
run-tells s (x ∷ xs) m ts w h =
    rw (← append_assoc) (run-tells s xs (after s x m) (ts ++ taken_at s x m) w.1 (after-tells s x m ts w.0 h))

-- a stream's count is what the history of its taken events says, from all streams free
pub count_from_history : CountFromHistory
count_from_history s steps stream h =
    told-count ((run-tells s steps (start all_free) [] h tells-free).each stream)
    ∙ ap (λ (ts : List Answered). shown_count (of_stream stream ts)) (serial_order s all_free steps h).1

-- and that is the count that is told
pub count_told : CountTold
unfolding count_of counted seen_of
count_told s steps stream h v on =
    let q = rules_of s in
    let rs = (run s steps (start all_free)).records in
    let l = legal-own s rs stream v on (stays_legal s all_free steps (starts_legal s)) in
    rw (T_true (valid_alone s) v, T_true (on_sheet q stream) on, T_true (legal q stream (own rs stream)) l) (ap gives (count_from_history s steps stream h))
