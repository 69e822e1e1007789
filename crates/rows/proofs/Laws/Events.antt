-- Laws of events and their rows: the likely event of an event's row is that event, so numbers stand for their likely event or for none. Assumes nothing.
use mathlib.Core.Path.{◌≡◌, refl, sym, ap, ◌∙◌, subst}
use mathlib.Core.Bool.{Bool, true, false, ◌||◌, and-false}
use mathlib.Core.List.{List, map}
use mathlib.Core.Option.{none, some}
use Prim.Native.Nat.{ℕ, ◌<◌, ◌≤◌}
use borrow.Author.Tests.{le-ltb, lt-ltb}
use lib.ListN.{length, get_or, drop}
use lib.Dec.{T, eqb}
use Rattle.std.specs.Prelude.{Some, None}
use Rattle.octets.specs.Choice.{same, All, some_of}
use Rattle.octets.proofs.Choice.{NoneFrom, T-or-left, T-or-right, same_refl}
use Rattle.streams.specs.declared.Event.{Event}
use Rattle.streams.specs.declared.What.{What}
use Rattle.streams.specs.declared.What.TheVariants.{Request, End, Open, T11, EndResponse, Release}
use Rattle.rows.specs.Rows.{what_row, event_row, events_by, event_on, event_in}
use Rattle.rows.specs.Held.{given, octets_at, event_held}
use Rattle.rows.specs.Inner.{likely_whats, likely_what}
use Rattle.rows.proofs.Laws.Whose.{get_or-rest, whose-none, whose-some, whose-row}
use Rattle.rows.proofs.Laws.Held.{given-none, held-nothing}

-- the likely event by the numbers
abbrev pub likely_in : List ℕ → Event
likely_in row = event_on (get_or row 1 0) (likely_what (get_or row 0 0) (get_or row 2 0) (eqb (get_or row 3 0) 1))

-- all events with the numbers' stream and sender
abbrev near : List ℕ → List Event
near row = map (event_on (get_or row 1 0)) (events_by (get_or row 2 0))

-- ---- an event's own row

-- its likely event is the event
pub likely-own : (s : ℕ) (w : What) → likely_in (what_row s w) ≡ event_on s w
unfolding what_row
likely-own s (Request r) = refl
likely-own s (End r) = refl
likely-own s Open = refl
likely-own s T11 = refl
likely-own s (EndResponse true) = refl
likely-own s (EndResponse false) = refl
likely-own s Release = refl

-- so it is for all events near a row
likely-each : (row : List ℕ) → All (λ e. likely_in (event_row e) ≡ e) (near row)
likely-each row = search (likely-own)

-- and the event is among them
among : (s : ℕ) (w : What) → T (some_of (λ e. same (event_row e) (what_row s w)) (near (what_row s w)))
unfolding what_row
among s (Request r) = T-or-left (same (what_row s (Request r)) (what_row s (Request r))) false (same_refl (what_row s (Request r)))
among s (End r) = T-or-left (same (what_row s (End r)) (what_row s (End r))) false (same_refl (what_row s (End r)))
among s Open = T-or-left (same (what_row s Open) (what_row s Open)) false (same_refl (what_row s Open))
among s T11 = T-or-left (same (what_row s T11) (what_row s T11)) false (same_refl (what_row s T11))
among s (EndResponse true) =
    let row = what_row s (EndResponse true) in
    T-or-right (same (what_row s (EndResponse false)) row) (same row row || false) (T-or-left (same row row) false (same_refl row))
among s (EndResponse false) =
    let row = what_row s (EndResponse false) in
    T-or-left (same row row) (same (what_row s (EndResponse true)) row || false) (same_refl row)
among s Release = T-or-left (same (what_row s Release) (what_row s Release)) false (same_refl (what_row s Release))

-- it has four numbers
pub what-length : (s : ℕ) (w : What) → length (what_row s w) ≡ 4
unfolding what_row
what-length s (Request r) = refl
what-length s (End r) = refl
what-length s Open = refl
what-length s T11 = refl
what-length s (EndResponse asked) = refl
what-length s Release = refl

-- ---- numbers as an event

-- they stand for their likely event where they are its row
pub event-known : (row : List ℕ) → event_row (likely_in row) ≡ row → event_in row ≡ some (likely_in row)
unfolding event_in
event-known row e =
    whose-some event_row likely_in row (near row) (likely-each row)
    (subst (λ (l : List ℕ). T (some_of (λ x. same (event_row x) l) (near l))) e (among (likely_in row).stream (likely_in row).what))

-- and for none where they are not
pub event-none : (row : List ℕ) → (event_row (likely_in row) ≡ row → ⊥) → event_in row ≡ none
unfolding event_in
event-none row n = whose-none event_row likely_in row (near row) (likely-each row) n

-- any other count of numbers is no event's
pub event-miscounted : (row : List ℕ) → (length row ≡ 4 → ⊥) → event_in row ≡ none
event-miscounted row n = event-none row (λ e. n (ap length (sym e) ∙ what-length (likely_in row).stream (likely_in row).what))

-- where the stream stands
pub what-stream : (s : ℕ) (w : What) → get_or (what_row s w) 1 0 ≡ s
unfolding what_row
what-stream s (Request r) = refl
what-stream s (End r) = refl
what-stream s Open = refl
what-stream s T11 = refl
what-stream s (EndResponse asked) = refl
what-stream s Release = refl

-- the numbers are those of the event that they stand for
pub event-row : (row : List ℕ) (e : Event) → event_in row ≡ some e → event_row e ≡ row
unfolding event_in
event-row row e p = whose-row event_row row e (near row) p

-- any other number than 1 to 5 is likely that of a release
pub likely_rest : (number by : ℕ) (ack : Bool) → NoneFrom 1 5 number → likely_what number by ack ≡ Release
likely_rest number by ack t = get_or-rest Release (drop 1 (likely_whats by ack)) number t

-- ---- the event that is made of them

-- none where they stand for none
pub event-unheld : (row : List ℕ) → event_in row ≡ none → event_held row ≡ none
unfolding event_held
event-unheld row e = held-nothing (octets_at _ row) (event_in row) e

-- and so of any other count of numbers
pub event_uncounted : (row : List ℕ) → (length row ≡ 4 → ⊥) → event_held row ≡ none
event_uncounted row n = event-unheld row (event-miscounted row n)

-- none where the stream fits no octet, or the sender
pub stream-unheld : (row : List ℕ) → 256 ≤ get_or row 1 0 → event_held row ≡ none
unfolding event_held octets_at
stream-unheld row h = rw (le-ltb (get_or row 1 0) 256 h)

pub sender_unheld : (row : List ℕ) → 256 ≤ get_or row 2 0 → event_held row ≡ none
unfolding event_held octets_at
sender_unheld row h = rw (le-ltb (get_or row 2 0) 256 h, and-false)

-- else the one that they stand for
pub event-held : (row : List ℕ) → get_or row 1 0 < 256 → get_or row 2 0 < 256 → event_held row ≡ event_in row
unfolding event_held octets_at
event-held row s b = rw (lt-ltb (get_or row 1 0) 256 s, lt-ltb (get_or row 2 0) 256 b)

-- ---- by the likely event, made of them

pub event-made : (row : List ℕ) (s b : ℕ) (w : What) → s ≡ get_or row 1 0 → b ≡ get_or row 2 0
    → w ≡ likely_what (get_or row 0 0) b (eqb (get_or row 3 0) 1) → event_on s w ≡ likely_in row
event-made row s b w e f g = rw (e, g, f)

-- where its row is them, there it is
pub event-found : (row own : List ℕ) (e : Event) → e ≡ likely_in row → get_or row 1 0 < 256 → get_or row 2 0 < 256
    → own ≡ event_row e → row ≡ own → Some e ≡ given (event_held row)
event-found row own e made s b is same =
    let known = event-known row (sym (ap event_row made) ∙ sym is ∙ sym same) in
    rw (event-held row s b, known, made)

-- and where it is not, there is none
pub event-other : (row own : List ℕ) (e : Event) → e ≡ likely_in row → own ≡ event_row e → (row ≡ own → ⊥) → None ≡ given (event_held row)
event-other row own e made is other = given-none (event-unheld row (event-none row (λ same. other (sym same ∙ sym (ap event_row made) ∙ sym is))))
