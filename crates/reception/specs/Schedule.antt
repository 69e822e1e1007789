-- Two routines that read, work out and store in any order (document 01, "Three steps"). Every step is threaded through the eight records by the
-- definition that its function's own statement cites. Assumes: "A read and a store each run whole, with no read or store of the other
-- routine inside; the firmware sees to that".
use Rattle.std.specs.Prelude.{◌≡◌, ℕ, Bool, true, false, ◌&&◌, List, [], ◌∷◌, ◌++◌, eqb}
use Rattle.std.proofs.Math.Option.{Option, none, some}
use Rattle.octets.specs.Choice.{pick}
use Rattle.sheet.specs.declared.Sheet.{Sheet}
use Rattle.streams.specs.declared.Record.{Record}
use Rattle.streams.specs.declared.Event.{Event}
use Rattle.streams.specs.Answer.{Reply}
use Rattle.streams.specs.Table.{Answered}
use Rattle.reception.specs.Steps.{Said, gives, refuses, Try, read_of, attempt_of, work_of, store_of}

-- ---- steps

pub data Routine : Type 0 where
  packet_routine : Routine
  timer_routine : Routine

abbrev pub same_routine : Routine → Routine → Bool
same_routine packet_routine packet_routine = true
same_routine packet_routine timer_routine = false
same_routine timer_routine packet_routine = false
same_routine timer_routine timer_routine = true

-- A routine reads a stream, works out an event from any record, or stores an attempt. Different events can give the same attempt, so a
-- store names its event.
pub data Step : Type 0 where
  reads : Routine → ℕ → Step
  works_out : Routine → Record → Event → Step
  stores : Routine → Try → Event → Step

-- the attempt of a store is one that the working-out gave under the sheet for the event it names and some record: fresh, stale,
-- repeated or the other routine's
abbrev pub WorkedOut : Sheet → Step → Type 0
WorkedOut s (reads by stream) = Unit {0}
WorkedOut s (works_out by x e) = Unit {0}
WorkedOut s (stores by a e) = (x : Record) × (attempt_of s x e ≡ gives a)

-- ---- what a step does

-- the eight records, and what each routine last read of each stream
pub record State : Type 0 where
  pub records : List Record
  pub last_read : Routine → ℕ → Option Record

-- a routine's latest reading of a stream; a read that is refused leaves the earlier one
unfoldable pub noted : Routine → ℕ → Said Record → (Routine → ℕ → Option Record) → Routine → ℕ → Option Record
noted by stream (gives x) before r s = pick (same_routine by r && eqb stream s) (some x) (before r s)
noted by stream (refuses number at) before r s = before r s

unfoldable pub after : Sheet → Step → State → State
after s (reads by stream) m =
    let r = read_of s stream m.records in
    record { records = r.records; last_read = noted by stream r.said m.last_read }
after s (works_out by x e) m = record { records = (work_of s x e m.records).records; last_read = m.last_read }
after s (stores by a e) m = record { records = (store_of s a m.records).records; last_read = m.last_read }

-- its event with the answer, if the store took: "Nothing is sent before its store took"
unfoldable pub if_took : Event → Said Reply → List Answered
if_took e (gives reply) = record { event = e; reply = reply } ∷ []
if_took e (refuses number at) = []

unfoldable pub taken_at : Sheet → Step → State → List Answered
taken_at s (reads by stream) m = []
taken_at s (works_out by x e) m = []
taken_at s (stores by a e) m = if_took e (store_of s a m.records).said

-- ---- a schedule: any list of steps

-- where nothing was read yet
abbrev pub start : List Record → State
start rs = record { records = rs; last_read = λ (r : Routine) (s : ℕ). none }

-- the state after it
unfoldable pub run : Sheet → List Step → State → State
run s [] m = m
run s (x ∷ xs) m = run s xs (after s x m)

-- its taken events with their answers, in the order of their stores
unfoldable pub taken : Sheet → List Step → State → List Answered
taken s [] m = []
taken s (x ∷ xs) m = taken_at s x m ++ taken s xs (after s x m)
