-- What is claimed of reception beyond its functions. Each has its proof under proofs/. Demand 3 assumes what Schedule.antt assumes.
use Rattle.std.specs.Prelude.{◌≡◌, ◌↔◌, ℕ, ◌<◌, List, map, length, T}
use Rattle.std.proofs.Math.Option.{none}
use Rattle.octets.specs.Choice.{All}
use Rattle.sheet.specs.declared.Sheet.{Sheet}
use Rattle.sheet.specs.Table.{most_seats}
use Rattle.sheet.specs.Value.{valid_alone}
use Rattle.streams.specs.declared.Phase.TheVariants.{Ending}
use Rattle.streams.specs.declared.Record.{Record}
use Rattle.streams.specs.declared.Event.{Event}
use Rattle.streams.specs.Record.{rules_of, on_sheet, count, legal, own, legal_at, all_free}
use Rattle.streams.specs.Answer.{Reply, discarded, grant, untouched}
use Rattle.streams.specs.Table.{sender_on, Answered}
use Rattle.reception.specs.Steps.{gives, refuses, leaving, Try, read_of, attempt_of, work_of, store_of, count_of}
use Rattle.reception.specs.Schedule.{Routine, Step, stores, WorkedOut, start, run, taken}
use Rattle.reception.specs.Serial.{ruled, next, records_in_turn, answers_in_turn}
use Rattle.reception.specs.History.{of_stream, shown_count}

-- ---- records

-- Eight records are legal if each seat on the sheet has a legal one and every other is Free.
pub record Legal (s : Sheet) (rs : List Record) : Type 0 where
  pub eight : length rs ≡ most_seats
  pub each : (k : ℕ) → k < most_seats → T (legal_at (rules_of s) rs k)

-- So are those of streams that are all free.
abbrev pub StartsLegal : Type 0
StartsLegal = (s : Sheet) → Legal s all_free

-- ---- reading and working out

-- "Read gives one record and changes nothing": that of the stream, if it is on the sheet and legal.
abbrev pub ReadRule : Type 0
ReadRule =
    (s : Sheet) (stream : ℕ) (rs : List Record)
    → ((read_of s stream rs).records ≡ rs)
    × (T (valid_alone s) → T (on_sheet (rules_of s) stream) → T (legal (rules_of s) stream (own rs stream)) → (read_of s stream rs).said ≡ gives (own rs stream))

-- Working out changes nothing either.
abbrev pub WorkRule : Type 0
WorkRule = (s : Sheet) (x : Record) (e : Event) (rs : List Record) → (work_of s x e rs).records ≡ rs

-- From a legal record it gives a legal record.
abbrev pub WorksOutLegal : Type 0
WorksOutLegal = (s : Sheet) (x : Record) (e : Event) (a : Try) → attempt_of s x e ≡ gives a → T (legal (rules_of s) a.stream a.wanted)

-- "Discarded: record kept, no message, no timer".
pub record Kept (x : Record) (a : Try) : Type 0 where
  pub same : a.wanted ≡ x
  pub silent : a.reply.sends ≡ none
  pub still : a.reply.timers ≡ untouched

abbrev pub DiscardKeeps : Type 0
DiscardKeeps = (s : Sheet) (x : Record) (e : Event) (a : Try) → attempt_of s x e ≡ gives a → a.reply.done ≡ discarded → Kept x a

-- ---- the store rule

-- Of a stream on the sheet whose own record is legal, as are the one seen and the one wanted.
pub record Storable (s : Sheet) (a : Try) (rs : List Record) : Type 0 where
  pub sheet : T (valid_alone s)
  pub eight : length rs ≡ most_seats
  pub stream : T (on_sheet (rules_of s) a.stream)
  pub own_legal : T (legal (rules_of s) a.stream (own rs a.stream))
  pub seen_legal : T (legal (rules_of s) a.stream a.seen)
  pub wanted_legal : T (legal (rules_of s) a.stream a.wanted)

-- It takes exactly if the stream's record equals the one seen; then that record is the one wanted and the other seven are untouched;
-- else it is stale and all eight are untouched.
pub record Stores (s : Sheet) (a : Try) (rs : List Record) : Type 0 where
  pub exactly : ((store_of s a rs).said ≡ gives a.reply) ↔ (own rs a.stream ≡ a.seen)
  pub wanted : own rs a.stream ≡ a.seen → own (store_of s a rs).records a.stream ≡ a.wanted
  pub others : (k : ℕ) → (k ≡ a.stream → ⊥) → own (store_of s a rs).records k ≡ own rs k
  pub eight : length (store_of s a rs).records ≡ most_seats
  pub stale : (own rs a.stream ≡ a.seen → ⊥) → store_of s a rs ≡ leaving rs (refuses 10 0)

abbrev pub StoreRule : Type 0
StoreRule = (s : Sheet) (a : Try) (rs : List Record) → Storable s a rs → Stores s a rs

-- Whatever it is refused for, all eight are untouched.
abbrev pub RefusedKeeps : Type 0
RefusedKeeps = (s : Sheet) (a : Try) (rs : List Record) (number at : ℕ) → (store_of s a rs).said ≡ refuses number at → (store_of s a rs).records ≡ rs

-- Every schedule keeps eight legal records legal, whatever it stores: seats not on the sheet stay Free.
abbrev pub StaysLegal : Type 0
StaysLegal = (s : Sheet) (rs : List Record) (steps : List Step) → Legal s rs → Legal s (run s steps (start rs)).records

-- ---- demand 3, the firmware engineer's: two routines that read, work out and store in any order, with stale and repeated attempts, leave the
-- records and answers of the taken events run one after another; and a stream's count is what the history of its taken events says

-- Undisturbed, an event on the sheet is worked out from the record as it is, its store takes, and both do what the table says.
abbrev pub Undisturbed : Type 0
Undisturbed =
    (s : Sheet) (rs : List Record) (e : Event)
    → T (valid_alone s) → Legal s rs → T (on_sheet (rules_of s) e.stream) → T (sender_on (rules_of s) e.what)
    → (a : Try) × (attempt_of s (own rs e.stream) e ≡ gives a) × (store_of s a rs ≡ leaving (next (rules_of s) e rs) (gives (ruled (rules_of s) e rs).reply))

abbrev pub events : List Answered → List Event
events ts = map (λ (t : Answered). t.event) ts

-- Whatever the schedule: the records at the end, and the answer of every store that took, are those of the taken events one after another.
-- (It holds of any records; legal ones stay legal.)
abbrev pub SerialOrder : Type 0
SerialOrder =
    (s : Sheet) (rs : List Record) (steps : List Step) → All (WorkedOut s) steps
    → ((run s steps (start rs)).records ≡ records_in_turn (rules_of s) (events (taken s steps (start rs))) rs)
    × (taken s steps (start rs) ≡ answers_in_turn (rules_of s) (events (taken s steps (start rs))) rs)

-- From all streams free, a stream's count is what the history of its taken events says ..
abbrev pub CountFromHistory : Type 0
CountFromHistory =
    (s : Sheet) (steps : List Step) (stream : ℕ) → All (WorkedOut s) steps
    → count (own (run s steps (start all_free)).records stream)
    ≡ shown_count (of_stream stream (answers_in_turn (rules_of s) (events (taken s steps (start all_free))) all_free))

-- .. and that is the count that is told.
abbrev pub CountTold : Type 0
CountTold =
    (s : Sheet) (steps : List Step) (stream : ℕ) → All (WorkedOut s) steps → T (valid_alone s) → T (on_sheet (rules_of s) stream)
    → (count_of s stream (run s steps (start all_free)).records).said
    ≡ gives (shown_count (of_stream stream (answers_in_turn (rules_of s) (events (taken s steps (start all_free))) all_free)))

-- The accident cannot happen: whatever ran before, a store that took and sends "granted" finds the stream's record as it was seen, and not
-- Ending: no handset is told "granted" for a picture being shut off.
abbrev pub NoAccident : Type 0
NoAccident =
    (s : Sheet) (rs : List Record) (before : List Step) (by : Routine) (a : Try) (e : Event) (reply : Reply)
    → All (WorkedOut s) before → WorkedOut s (stores by a e)
    → (store_of s a (run s before (start rs)).records).said ≡ gives reply → reply.sends ≡ grant
    → (own (run s before (start rs)).records a.stream ≡ a.seen) × ((own (run s before (start rs)).records a.stream).phase ≡ Ending → ⊥)
