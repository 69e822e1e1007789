-- The claims of specs/Claims.antt on events. Reading alone gives 1 to 5 and 12, so that any other answer is that of a message which was
-- read (`event-heard`); what is answered to a message says what holds of it (`heard-meets`), and what holds of it says the answer. Assumes nothing.
use mathlib.Core.Path.{◌≡◌, refl, sym, ap, ◌∙◌, subst}
use mathlib.Core.Logic.{◌↔◌, inl, inr}
use mathlib.Core.Bool.{Bool, true, not, ◌||◌}
use mathlib.Core.List.{List}
use mathlib.Core.Option.{Option, none, some, none-ne-some, some-injective}
use Prim.Native.Nat.{ℕ, ◌≤◌}
use native.Mathlib.Omega.{arith}
use lib.Dec.{T, T_not, leb, leb→le, eqb, eqb→eq}
use borrow.Author.Tests.{ne_eqb, eqb-false}
use Rattle.octets.specs.Choice.{pick, same}
use Rattle.octets.proofs.Choice.{T_true, T_false, false-T, pick-cases, same-eq, eq-same}
use Rattle.sheet.specs.declared.Sheet.{Sheet}
use Rattle.sheet.specs.Value.{valid_with, valid_alone}
use Rattle.sheet.specs.Find.{seat_of_ssrc}
use Rattle.fields.specs.Header.{size_right, head_right}
use Rattle.fields.specs.Walk.{fields_of, whole}
use Rattle.kinds.specs.declared.kind.Slot.{Slot}
use Rattle.kinds.specs.Judge.{fault_of}
use Rattle.kinds.specs.Kind.{Kind, kind_of, numbers_of}
use Rattle.kinds.specs.Reading.{Outcome, reads, refused, slots_in, message_of, read_as, read_by, read_of}
use Rattle.packet.specs.Meaning.{Meaning, meaning}
use Rattle.streams.specs.declared.Event.{Event}
use Rattle.streams.specs.declared.What.{What}
use Rattle.streams.specs.declared.What.TheVariants.{Request, End, Open, T11, EndResponse, Release}
use Rattle.reception.specs.Steps.{Said, gives, refuses}
use Rattle.sheet.specs.Find.{user_of}
use Rattle.incoming.specs.Event.{senders_of, seated, name_in, on_stream, request_by, end_response_on, heard, event_from, event_of}
use Rattle.sheet.specs.Find.{HasSsrc, HasUser}
use Rattle.incoming.specs.Claims.{Says, Makes, NoEvent, NoSender, Unseated, EventExactly, EightExactly, SixExactly, SevenExactly, ReadingRefused}
use Rattle.incoming.proofs.Laws.Heard.{event-invalid}
use Rattle.sheet.proofs.Laws.Seats.{Finds, finds-none, ssrc-found, user-found}

-- ---- a message that was read

-- what reading refuses with: 12, and 1 to 5
abbrev early : ℕ → Bool
early number = leb number 5 || eqb number 12

-- an outcome of reading
abbrev is_reading : Outcome → Bool
is_reading (reads kind ssrc ack held) = true
is_reading (refused number at) = early number

-- so it does
reading_early : (s : Sheet) (p : List ℕ) → T (is_reading (read_of s p))
unfolding read_of read_by read_as message_of
reading_early s p =
    checked (valid_alone s) 12 _ tt (checked (size_right p) 1 _ tt (checked (head_right p) 2 _ tt (by_kind (kind_of (numbers_of s) p))))
  where
    checked : (b : Bool) (number : ℕ) (next : Outcome) → T (early number) → T (is_reading next) → T (is_reading (pick b next (refused number 0)))
    checked b number next t u = pick-cases (λ o. T (is_reading o)) b next (refused number 0) (λ _. u) (λ _. t)

    by-fault : (kind : ℕ) (slots : List Slot) (o : Option ℕ) → T (is_reading (message_of p kind slots o))
    by-fault kind slots none = tt
    by-fault kind slots (some at) = tt

    by_kind : (o : Option Kind) → T (is_reading (read_as (numbers_of s) p o))
    by_kind none = tt
    by_kind (some k) =
        let slots = slots_in (numbers_of s) p k in
        let fault = fault_of p slots (fields_of p) in
        checked (whole p) 4 (message_of p k.kind slots fault) tt (by-fault k.kind slots fault)

-- an answer that is not reading's
abbrev is_heard : Said Event → Bool
is_heard (gives e) = true
is_heard (refuses number at) = not (early number)

-- one that is none of 1 to 5
abbrev is_late : Said Event → Bool
is_late (gives e) = true
is_late (refuses number at) = leb 6 number

-- ---- a seat that was looked for

-- one that has it was found, or there is none
by-seat : (P : Said Event → Type 0) {Has : ℕ → Type 0} (number : ℕ) (o : Option ℕ) (next : ℕ → Said Event) → Finds o Has
    → (((r : ℕ) → Has r → ⊥) → P (refuses number 0)) → ((r : ℕ) → Has r → P (next r)) → P (seated number o next)
by-seat P number none next f nobody somebody = nobody (λ r h. none-ne-some r ((f r).1 h))
by-seat P number (some r) next f nobody somebody = somebody r ((f r).0 refl)

-- ---- what is answered

module _ (s : Sheet) (users : List (List ℕ)) (v : T (valid_with s users)) where
  -- what is answered to a message
  abbrev answered : Meaning → Said Event
  answered m = heard (senders_of s) users m

  -- any other answer than reading's is that to a message which was read
  event-heard : (p : List ℕ) (w : Said Event) → T (is_heard w) → (event_of s users p ≡ w) ↔ ((m : Meaning) × Says s p m × (answered m ≡ w))
  unfolding event_of event_from meaning
  event-heard p w t = rw (T_true (valid_with s users) v) (by (read_of s p) (reading_early s p))
    where
      by : (o : Outcome) → T (is_reading o)
          → (event_from (senders_of s) users p o ≡ w) ↔ ((m : Meaning) × (meaning p o ≡ some m) × (answered m ≡ w))
      by (reads kind ssrc ack held) u = (λ e. (_, refl, e), λ x. ap answered (some-injective _ x.0 x.1) ∙ x.2)
      by (refused number at) u = (
        (λ e. absurd (T_not (early number) (subst (λ (z : Said Event). T (is_heard z)) (sym e) t) u)),
        λ x. absurd (none-ne-some x.0 x.1),
      )

  -- ---- the cases

  module _ (name : List ℕ) (what : What) where
    -- the stream of a seat with this name
    on-stream : (stream : ℕ) → HasUser s users name stream → on_stream s.seats users name what ≡ gives (record { stream = stream; what = what })
    unfolding on_stream
    on-stream stream h = rw ((user-found s users v name stream).1 h)

    -- no seat has it
    on_none : ((r : ℕ) → HasUser s users name r → ⊥) → on_stream s.seats users name what ≡ refuses 7 0
    unfolding on_stream
    on_none n = rw (finds-none _ (user-found s users v name) n)

  module _ (m : Meaning) where
    -- the names in the message
    abbrev first : List ℕ
    first = name_in 0 m.values

    abbrev second : List ℕ
    second = name_in 1 m.values

    -- a message of one of three kinds, by a sender who has no seat or has seat r; or one that makes no event
    by_kind : (P : Said Event → Type 0)
        → ((NoEvent m → ⊥) → ((r : ℕ) → HasSsrc s m.ssrc r → ⊥) → P (refuses 6 0))
        → (m.kind ≡ 1 → (r : ℕ) → HasSsrc s m.ssrc r → P (request_by s.seats users first second r))
        → (m.kind ≡ 3 → (r : ℕ) → HasSsrc s m.ssrc r → P (on_stream s.seats users first (End r)))
        → (m.kind ≡ 6 → (r : ℕ) → HasSsrc s m.ssrc r → P (end_response_on m.ack r))
        → (NoEvent m → P (refuses 8 0))
        → P (answered m)
    unfolding heard
    by_kind P nobody one three six other =
        let seat = seat_of_ssrc s.seats s.ssrcs m.ssrc in
        let sender : (next : ℕ → Said Event) → (NoEvent m → ⊥) → ((r : ℕ) → HasSsrc s m.ssrc r → P (next r)) → P (seated 6 seat next) =
        λ next n f. by-seat P 6 seat next (ssrc-found s users v m.ssrc) (nobody n) f in
        pick-cases P (eqb m.kind 1) _ _ (λ t. let e = eqb→eq m.kind 1 t in sender _ (λ n. n.0 e) (one e))
        (λ a. pick-cases P (eqb m.kind 3) _ _ (λ t. let e = eqb→eq m.kind 3 t in sender _ (λ n. n.1 e) (three e))
        (λ b. pick-cases P (eqb m.kind 6) _ _ (λ t. let e = eqb→eq m.kind 6 t in sender _ (λ n. n.2 e) (six e))
        (λ c. other (eqb-false m.kind 1 a, eqb-false m.kind 3 b, eqb-false m.kind 6 c))))

    -- ---- what is answered says what holds of the message

    -- what holds of a message that is so answered
    abbrev Meets : Said Event → Type 0
    Meets (gives e) = Makes s users m e.stream e.what
    Meets (refuses number at) = pick (eqb number 8) (NoEvent m) (pick (eqb number 6) (NoSender s users m) (Unseated s users m))

    -- and so of each message by its own answer
    heard-meets : Meets (answered m)
    unfolding request_by on_stream
    heard-meets =
        by_kind Meets
        (λ kinds nobody. (kinds, inl nobody))
        (λ one r h.
        pick-cases Meets (same (user_of users r) first) _ _
        (λ t.
        let u : HasUser s users first r = (h.0, same-eq (user_of users r) first t) in
        by-seat Meets 7 _ _ (user-found s users v second) (λ none. inl (one, (r, h, u), none)) (λ stream k. (one, h, u, k)))
        (λ f. ((λ n. n.0 one), inr (r, one, h, λ u. false-T _ f (eq-same _ first u.1)))))
        (λ three r h. by-seat Meets 7 _ _ (user-found s users v first) (λ none. inr (three, (r, h), none)) (λ stream k. (three, h, k)))
        (λ six r h. (six, h, refl))
        (λ other. other)

    -- no message is answered with 1 to 5
    heard-late : T (is_late (answered m))
    unfolding request_by on_stream
    heard-late =
        let Late : Said Event → Type 0 = λ w. T (is_late w) in
        by_kind Late
        (λ kinds nobody. tt)
        (λ one r h.
        pick-cases Late (same (user_of users r) first) _ _
        (λ t. by-seat Late 7 _ _ (user-found s users v second) (λ none. tt) (λ stream k. tt))
        (λ f. tt))
        (λ three r h. by-seat Late 7 _ _ (user-found s users v first) (λ none. tt) (λ stream k. tt))
        (λ six r h. tt)
        (λ other. tt)

    -- ---- what holds of the message says what is answered

    -- a request by a seat, its own User ID in it, goes to the stream of the second name
    request-heard : (r : ℕ) → m.kind ≡ 1 → HasSsrc s m.ssrc r → HasUser s users first r
        → answered m ≡ on_stream s.seats users second (Request r)
    unfolding heard request_by
    request-heard r one h u =
        rw (one, (ssrc-found s users v m.ssrc r).1 h, T_true (same (user_of users r) first) (eq-same (user_of users r) first u.1))

    -- an end by a seat goes to that of the first
    end-heard : (r : ℕ) → m.kind ≡ 3 → HasSsrc s m.ssrc r → answered m ≡ on_stream s.seats users first (End r)
    unfolding heard
    end-heard r three h = rw (three, (ssrc-found s users v m.ssrc r).1 h)

    -- a message that makes an event is answered with it
    makes-heard : (stream : ℕ) (what : What) → Makes s users m stream what → answered m ≡ gives (record { stream = stream; what = what })
    unfolding heard
    makes-heard stream (Request r) x = request-heard r x.0 x.1 x.2 ∙ on-stream second (Request r) stream x.3
    makes-heard stream (End r) x = end-heard r x.0 x.1 ∙ on-stream first (End r) stream x.2
    makes-heard stream (EndResponse asked) x = rw (x.0, (ssrc-found s users v m.ssrc stream).1 x.1, x.2)
    makes-heard stream Open x = absurd x
    makes-heard stream T11 x = absurd x
    makes-heard stream Release x = absurd x

    -- one of a kind that makes none, with 8
    eight-heard : NoEvent m → answered m ≡ refuses 8 0
    unfolding heard
    eight-heard n = rw (ne_eqb m.kind 1 n.0, ne_eqb m.kind 3 n.1, ne_eqb m.kind 6 n.2)

    -- one from nobody on the sheet, or in another's name, with 6
    six-heard : NoSender s users m → answered m ≡ refuses 6 0
    unfolding heard request_by
    six-heard (kinds, inl nobody) =
        by_kind (λ w. w ≡ refuses 6 0)
        (λ _ _. refl)
        (λ one r h. absurd (nobody r h))
        (λ three r h. absurd (nobody r h))
        (λ six r h. absurd (nobody r h))
        (λ other. absurd (kinds other))
    six-heard (kinds, inr x) =
        let own = user_of users x.0 in
        rw (x.1, (ssrc-found s users v m.ssrc x.0).1 x.2, T_false (same own first) (λ t. x.3 (x.2.0, same-eq own first t)))

    -- one to the stream of a user who has no seat, with 7
    seven-heard : Unseated s users m → answered m ≡ refuses 7 0
    seven-heard (inl x) = request-heard x.1.0 x.0 x.1.1 x.1.2 ∙ on_none second (Request x.1.0) x.2
    seven-heard (inr x) = end-heard x.1.0 x.0 x.1.1 ∙ on_none first (End x.1.0) x.2

  -- ---- the claims

  -- what is answered to a packet says what holds of its message, and the other way round
  told-exactly : (p : List ℕ) (w : Said Event) → T (is_heard w) → ((m : Meaning) → Meets m w → answered m ≡ w)
      → (event_of s users p ≡ w) ↔ ((m : Meaning) × Says s p m × Meets m w)
  told-exactly p w t back = (
    (λ e. let x = (event-heard p w t).0 e in (x.0, x.1, subst (Meets x.0) x.2 (heard-meets x.0))),
    λ x. (event-heard p w t).1 (x.0, x.1, back x.0 x.2),
  )

-- which packets make which events
pub event_exactly : EventExactly
event_exactly s users p e v = told-exactly s users v p (gives e) tt (λ m. makes-heard s users v m e.stream e.what)

-- which are refused with 8
pub eight_exactly : EightExactly
eight_exactly s users p v = told-exactly s users v p (refuses 8 0) tt (eight-heard s users v)

-- with 6
pub six_exactly : SixExactly
six_exactly s users p v = told-exactly s users v p (refuses 6 0) tt (six-heard s users v)

-- with 7
pub seven_exactly : SevenExactly
seven_exactly s users p v = told-exactly s users v p (refuses 7 0) tt (seven-heard s users v)

-- which with 12 or 1 to 5
pub reading_refused : ReadingRefused
unfolding event_of event_from
reading_refused s users p = (event-invalid s users p, λ v number at few. rw (T_true (valid_with s users) v) (by v number at few (read_of s p)))
  where
    by : T (valid_with s users) → (number at : ℕ) → number ≤ 5 → (o : Outcome)
        → (event_from (senders_of s) users p o ≡ refuses number at) ↔ (o ≡ refused number at)
    by v number at few (reads kind ssrc ack held) = (
      (λ e.
          let late : T (is_late (refuses number at)) = subst (λ (w : Said Event). T (is_late w)) e (heard-late s users v _) in
          absurd (omega (arith, leb→le 6 number late))),
      λ e. let z : ◌≡◌ {A = ℕ} 0 1 = cc in absurd (omega arith),
    )
    by v number at few (refused n a) = (λ e. cc, λ e. cc)
