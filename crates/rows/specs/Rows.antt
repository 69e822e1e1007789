-- Numbers and octets for what a call takes and gives, as include/coyametzi.h sets them out, on the definitions of the crates below (document 01: "on numbers
-- and octets, with the same answers"). What a host hands in stands for the value whose row it is, and for none if it is no value's. Assumes nothing.
use Rattle.std.specs.Prelude.{ℕ, ◌+◌, ◌*◌, Bool, true, false, List, [], ◌∷◌, ◌++◌, map, length, get_or, drop, eqb, ltb}
use Rattle.std.proofs.Math.Option.{Option, none, some}
use Rattle.octets.specs.Choice.{pick, same, first_by}
use Rattle.sheet.specs.Value.{numbers_of}
use Rattle.sheet_text.specs.declared.Reading.{Reading}
use Rattle.fields.specs.declared.field.Field.{Field}
use Rattle.packet.specs.Row.{no_number, flag}
use Rattle.streams.specs.declared.Phase.{Phase}
use Rattle.streams.specs.declared.Phase.TheVariants.{Free, Idle, Watched, Ending}
use Rattle.streams.specs.declared.Record.{Record}
use Rattle.streams.specs.declared.Event.{Event}
use Rattle.streams.specs.declared.What.{What}
use Rattle.streams.specs.declared.What.TheVariants.{Request, End, Open, T11 as T11Expired, EndResponse, Release}
use Rattle.streams.specs.declared.Answer.{Answer}
use Rattle.streams.specs.declared.Answer.TheVariants.{GrantedFirst, Granted, GrantedAgain, Rejected, Ended, EndedLast, Opened, EndRequested, Freed, FreedWithAck, ReleasedIdle, ReleasedWatched, ReleasedEnding, Discarded}
use Rattle.streams.specs.Record.{phase_number}
use Rattle.streams.specs.Answer.{done_number, Sent, Timer, T3, T5, T6, T11, Reply, answer_said}
use Rattle.reception.specs.Steps.{Try}

abbrev pub or_none : Option ℕ → ℕ
or_none none = no_number
or_none (some n) = n

-- the one of these whose row this is
abbrev pub whose : {A : Type 0} → (A → List ℕ) → List A → List ℕ → Option A
whose row values numbers = first_by (λ x. same (row x) numbers) values

-- there is one
abbrev pub is_some : {A : Type 0} → Option A → Bool
is_some none = false
is_some (some x) = true

-- both, where there are both
abbrev pub both : {A B C : Type 0} → (A → B → C) → Option A → Option B → Option C
both f none b = none
both f (some x) none = none
both f (some x) (some y) = some (f x y)

-- ---- a sheet: its numbers in the order of the lines, the SSRCs behind them

abbrev pub sheet_row : Reading → List ℕ
sheet_row x = numbers_of x.sheet ++ x.sheet.ssrcs

-- ---- a field: ID, value's place, length, next place

abbrev pub field_row : Field → List ℕ
field_row f = f.id ∷ (f.at + 2) ∷ f.len ∷ f.next ∷ []

-- at the end MCV_NONE, the place, 0, the place
abbrev pub end_row : ℕ → List ℕ
end_row place = no_number ∷ place ∷ 0 ∷ place ∷ []

-- ---- records, two octets each: phase, 0 to 3, and receivers

abbrev pub record_row : Record → List ℕ
record_row x = phase_number x.phase ∷ x.receivers ∷ []

unfoldable pub records_row : List Record → List ℕ
records_row [] = []
records_row (x ∷ xs) = record_row x ++ records_row xs

unfoldable pub phase_in : ℕ → Option Phase
phase_in n = first_by (λ p. eqb (phase_number p) n) (Free ∷ Idle ∷ Watched ∷ Ending ∷ [])

abbrev pub record_of : ℕ → Phase → Record
record_of b p = record { phase = p; receivers = b }

abbrev pub record_in : ℕ → ℕ → Option Record
record_in p b = with (phase_in p)
  where
    with : Option Phase → Option Record
    with none = none
    with (some phase) = some (record_of b phase)

-- a phase above 3 in any of them leaves none
unfoldable pub records_from : List ℕ → Option (List Record)
records_from [] = some []
records_from (p ∷ []) = none
records_from (p ∷ b ∷ octets) = both (λ x xs. x ∷ xs) (record_in p b) (records_from octets)

-- so many of them
unfoldable pub records_in : ℕ → List ℕ → Option (List Record)
records_in n octets = pick (eqb (length octets) (2 * n)) (records_from octets) none

-- For who has asked already whether octets are records: those records, and some for any other octets. A phase above 3 is taken for the last, and an octet alone
-- behind the last record for none.
unfoldable pub record_by : ℕ → ℕ → Record
record_by p b = record_of b (get_or (Free ∷ Idle ∷ Watched ∷ []) p Ending)

unfoldable pub records_by : List ℕ → List Record
records_by [] = []
records_by (p ∷ []) = []
records_by (p ∷ b ∷ octets) = record_by p b ∷ records_by octets

-- ---- an event: what, stream, by, Ack asked, and 0 where it has no such number

unfoldable pub what_row : ℕ → What → List ℕ
what_row s (Request r) = 1 ∷ s ∷ r ∷ 0 ∷ []
what_row s (End r) = 2 ∷ s ∷ r ∷ 0 ∷ []
what_row s Open = 3 ∷ s ∷ 0 ∷ 0 ∷ []
what_row s T11Expired = 4 ∷ s ∷ 0 ∷ 0 ∷ []
what_row s (EndResponse asked) = 5 ∷ s ∷ 0 ∷ flag asked ∷ []
what_row s Release = 6 ∷ s ∷ 0 ∷ 0 ∷ []

abbrev pub event_row : Event → List ℕ
event_row e = what_row e.stream e.what

-- all that may happen, where seat r is who asks
abbrev pub events_by : ℕ → List What
events_by r = Request r ∷ End r ∷ Open ∷ T11Expired ∷ EndResponse false ∷ EndResponse true ∷ Release ∷ []

abbrev pub event_on : ℕ → What → Event
event_on s w = record { stream = s; what = w }

unfoldable pub event_in : List ℕ → Option Event
event_in row = whose event_row (map (event_on (get_or row 1 0)) (events_by (get_or row 2 0))) row

-- ---- an answer: its number, kind of the message to send or 0, Result and cause, timers to stop, timers to start

abbrev pub timer_number : Timer → ℕ
timer_number T3 = 1
timer_number T5 = 2
timer_number T6 = 4
timer_number T11 = 8

-- a sum of powers of two, so that it says which
unfoldable pub timers_sum : List Timer → ℕ
timers_sum [] = 0
timers_sum (t ∷ ts) = timer_number t + timers_sum ts

abbrev pub sent_row : Option Sent → List ℕ
sent_row none = 0 ∷ no_number ∷ no_number ∷ []
sent_row (some m) = m.kind ∷ or_none m.result ∷ or_none m.cause ∷ []

abbrev pub reply_row : Reply → List ℕ
reply_row r = (done_number r.done ∷ sent_row r.sends) ++ (timers_sum r.timers.stops ∷ timers_sum r.timers.starts ∷ [])

abbrev pub answer_row : Answer → List ℕ
answer_row a = reply_row (answer_said a)

-- all answers; the two that have a cause with this one, if it is of 16 bits
unfoldable pub answers_for : ℕ → List Answer
answers_for c =
    GrantedFirst
    ∷ Granted
    ∷ GrantedAgain
    ∷ Ended
    ∷ EndedLast
    ∷ Opened
    ∷ Freed
    ∷ FreedWithAck
    ∷ ReleasedIdle
    ∷ ReleasedWatched
    ∷ ReleasedEnding
    ∷ Discarded
    ∷ pick (ltb c 65536) (Rejected c ∷ EndRequested c ∷ []) []

unfoldable pub answer_in : List ℕ → Option Answer
answer_in row = whose answer_row (answers_for (get_or row 3 0)) row

-- ---- an attempt: stream, seen phase and receivers, wanted phase and receivers, then the answer

abbrev pub try_row : Try → List ℕ
try_row a = a.stream ∷ (record_row a.seen ++ (record_row a.wanted ++ reply_row a.reply))

abbrev pub try_of : ℕ → Record → Record → Answer → Try
try_of s seen wanted a = record { stream = s; seen = seen; wanted = wanted; reply = answer_said a }

-- each part is judged by itself
unfoldable pub try_in : List ℕ → Option Try
try_in row =
    let at : ℕ → ℕ = λ k. get_or row k 0 in
    both (λ f a. f a) (both (try_of (at 0)) (record_in (at 1) (at 2)) (record_in (at 3) (at 4))) (answer_in (drop 5 row))
