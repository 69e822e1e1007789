-- Rows of which nothing is made, as a number fits no octet: they stand for an event or an attempt that is on no sheet, or for none. Assumes nothing.
use mathlib.Core.Path.{◌≡◌, refl, sym, ap, ◌∙◌, subst}
use mathlib.Core.Logic.{⊎_elim}
use mathlib.Core.Bool.{true, false, and-false}
use mathlib.Core.List.{List, [], ◌∷◌}
use mathlib.Core.Option.{Option, none, some}
use Prim.Native.Nat.{ℕ, ◌≤◌, ◌^◌}
use native.Mathlib.Nat.{pow-le-pow_right}
use native.Mathlib.Omega.{arith}
use borrow.Author.Tests.{le-ltb, lt-ltb, ne_eqb}
use lib.ListN.{get_or}
use Rattle.std.specs.Prelude.{Some, None}
use Rattle.std.specs.Prelude.{Option as Given}
use Rattle.octets.proofs.Choice.{false-T, le-or-lt}
use Rattle.streams.specs.declared.Phase.{Phase}
use Rattle.streams.specs.declared.Phase.TheVariants.{Free, Idle, Watched, Ending}
use Rattle.streams.specs.declared.Record.{Record}
use Rattle.streams.specs.declared.Event.{Event}
use Rattle.streams.specs.declared.What.{What}
use Rattle.streams.specs.declared.What.TheVariants.{Request, End, Open, T11, EndResponse, Release}
use Rattle.streams.specs.declared.stream.Rules.{Rules}
use Rattle.streams.specs.Record.{on_sheet, same_record, good_receivers, legal_in, legal}
use Rattle.streams.specs.Table.{sender_on}
use Rattle.reception.specs.declared.Attempt.{Attempt}
use Rattle.reception.specs.Steps.{Try, attempt_said}
use Rattle.rows.specs.Rows.{record_in, what_row, event_in, try_in}
use Rattle.rows.specs.Held.{octets_at, event_held, try_held, trying_said}
use Rattle.rows.specs.Promises.{event_in≡, attempt_in≡}
use Rattle.rows.proofs.Laws.Records.{record-row}
use Rattle.rows.proofs.Laws.Held.{held-some, held_none, given_some, given_none}
use Rattle.rows.proofs.Laws.Events.{what-stream, event-row}
use Rattle.rows.proofs.Laws.Attempts.{tried}
use Rattle.face.specs.Inner.{Nowhere, EventingIs, NeverLegal, TryingIs}

-- ---- seats that fit no octet

-- no seat of a sheet has such a number
off-sheet : (q : Rules) (r : ℕ) → q.seats ≤ 8 → 256 ≤ r → on_sheet q r ≡ false
off-sheet q r h l = le-ltb r q.seats (omega arith)

-- nor is such a sender on one
off_sender : (q : Rules) (s : ℕ) (w : What) → q.seats ≤ 8 → 256 ≤ get_or (what_row s w) 2 0 → sender_on q w ≡ false
unfolding what_row
off_sender q s (Request r) h l = off-sheet q r h l
off_sender q s (End r) h l = off-sheet q r h l
off_sender q s Open h l = absurd (omega arith)
off_sender q s T11 h l = absurd (omega arith)
off_sender q s (EndResponse asked) h l = absurd (omega arith)
off_sender q s Release h l = absurd (omega arith)

-- an event with such a stream is nowhere ..
stream-nowhere : (row : List ℕ) → 256 ≤ get_or row 1 0 → (e : Event) → event_in row ≡ some e → Nowhere e
stream-nowhere row l e p q h =
    let at : e.stream ≡ get_or row 1 0 = sym (what-stream e.stream e.what) ∙ ap (λ (r : List ℕ). get_or r 1 0) (event-row row e p) in
    rw (off-sheet q e.stream h (omega arith))

-- .. and so is one with such a sender
sender-nowhere : (row : List ℕ) → 256 ≤ get_or row 2 0 → (e : Event) → event_in row ≡ some e → Nowhere e
sender-nowhere row l e p q h =
    rw (off_sender q e.stream e.what h (rw (event-row row e p) l)) (and-false (on_sheet q e.stream))

-- what is made of a row is its event, and nothing is made only of one that is nowhere
eventing_is : (row : List ℕ) → EventingIs row (event_held row)
unfolding event_held octets_at
eventing_is row = by (event_held row) refl
  where
    by : (r : Option Event) → r ≡ event_held row → EventingIs row r
    by (some e) p = held-some (octets_at (1 ∷ 2 ∷ []) row) (event_in row) e p
    by none p = λ e q.
        let n = held_none (octets_at (1 ∷ 2 ∷ []) row) (event_in row) e p q in
        ⊎_elim (λ l. stream-nowhere row l e q)
        (λ s. ⊎_elim (λ l. sender-nowhere row l e q)
        (λ b. absurd (false-T true (rw (lt-ltb (get_or row 1 0) 256 s, lt-ltb (get_or row 2 0) 256 b) at n) tt))
        (le-or-lt 256 (get_or row 2 0)))
        (le-or-lt 256 (get_or row 1 0))

pub eventing-some : (row : List ℕ) (r : Given Event) (e : Event) → event_in≡ row r → r ≡ Some e → event_in row ≡ some e
eventing-some row r e made is = subst (EventingIs row) (given_some _ _ (sym made ∙ is)) (eventing_is row)

pub eventing-none : (row : List ℕ) (r : Given Event) → event_in≡ row r → r ≡ None → (e : Event) → event_in row ≡ some e → Nowhere e
eventing-none row r made is = subst (EventingIs row) (given_none _ (sym made ∙ is)) (eventing_is row)

-- ---- receivers that fit no octet

-- receivers that fit none are legal in no phase
wide_illegal : (q : Rules) (s : ℕ) (x : Record) → q.seats ≤ 8 → 256 ≤ x.receivers → legal q s x ≡ false
unfolding legal legal_in same_record good_receivers
wide_illegal q s x h l = in-phase x.phase
  where
    in-phase : (p : Phase) → legal_in p q s x ≡ false
    in-phase Watched =
        let all : 2 ^ q.seats ≤ 2 ^ 8 = pow-le-pow_right (omega arith) h in
        rw (le-ltb x.receivers (2 ^ q.seats) (omega arith), and-false, and-false)
    in-phase Free = rw (ne_eqb x.receivers 0 (λ e. omega arith), and-false)
    in-phase Idle = rw (ne_eqb x.receivers 0 (λ e. omega arith), and-false)
    in-phase Ending = rw (ne_eqb x.receivers 0 (λ e. omega arith), and-false)

-- nor is the record that numbers with such receivers stand for
wide_record : (q : Rules) (s p b : ℕ) (x : Record) → q.seats ≤ 8 → record_in p b ≡ some x → 256 ≤ b → legal q s x ≡ false
wide_record q s p b x h e l =
    wide_illegal q s x h (rw (ap (λ (row : List ℕ). get_or row 1 0) (record-row p b x e)) l)

-- what is made of a row is its attempt, and nothing is made only of one that is never legal
trying_is : (row : List ℕ) → TryingIs row (try_held row)
unfolding try_held octets_at
trying_is row = by (try_held row) refl
  where
    by : (r : Option Try) → r ≡ try_held row → TryingIs row r
    by (some a) p = held-some (octets_at (0 ∷ 2 ∷ 4 ∷ []) row) (try_in row) a p
    by none p = λ a e q h.
        let at : ℕ → ℕ = λ k. get_or row k 0 in
        let n = held_none (octets_at (0 ∷ 2 ∷ 4 ∷ []) row) (try_in row) a p e in
        let t = tried row a e in
        ⊎_elim (λ l. rw (off-sheet q a.stream h (rw t.stream l)))
        (λ s. ⊎_elim (λ l. rw (wide_record q a.stream (at 1) (at 2) a.seen h t.seen l) (and-false (on_sheet q a.stream)))
        (λ u. ⊎_elim (λ l. rw (wide_record q a.stream (at 3) (at 4) a.wanted h t.wanted l, and-false) (and-false (on_sheet q a.stream)))
        (λ v. absurd (false-T true (rw (lt-ltb (at 0) 256 s, lt-ltb (at 2) 256 u, lt-ltb (at 4) 256 v) at n) tt))
        (le-or-lt 256 (at 4)))
        (le-or-lt 256 (at 2)))
        (le-or-lt 256 (at 0))

pub trying-some : (row : List ℕ) (r : Given Attempt) (a : Attempt) → attempt_in≡ row r → r ≡ Some a → try_in row ≡ some (attempt_said a)
trying-some row r a made is = subst (TryingIs row) (sym made ∙ ap trying_said is) (trying_is row)

pub trying-none : (row : List ℕ) (r : Given Attempt) → attempt_in≡ row r → r ≡ None → (t : Try) → try_in row ≡ some t → NeverLegal t
trying-none row r made is = subst (TryingIs row) (sym made ∙ ap trying_said is) (trying_is row)
