-- What each call of the face says: the definition of the call below it, on what the rows stand for. What no value stands for is refused as what it is: a
-- sheet with 12 line 0, before all else; a message with 5; a record, an event, an attempt, an answer or a stream with 9. A slice that is too short for what
-- comes back is 11, last of all (docs/DECISIONS.md, 71). Assumes nothing.
use Rattle.std.specs.Prelude.{ℕ, ◌^◌, List, [], ◌∷◌, ltb}
use Rattle.std.proofs.Math.Option.{Option, none, some}
use Rattle.sheet.specs.Value.{sheet_in, valid_alone}
use Rattle.sheet_text.specs.declared.Reading.{Reading}
use Rattle.sheet_text.specs.Reading.{read_of as sheet_read}
use Rattle.fields.specs.Walk.{Stepped, field, end, refused as step_refused, step_of}
use Rattle.kinds.specs.Reading.{Outcome, reads, refused}
use Rattle.kinds.specs.Reading.{read_of as packet_read}
use Rattle.packet.specs.Row.{message_row, message_in}
use Rattle.writing.specs.Writing.{Made, made, refused as not_made, write_of}
use Rattle.streams.specs.declared.Record.{Record}
use Rattle.streams.specs.declared.Event.{Event}
use Rattle.streams.specs.Record.{own}
use Rattle.streams.specs.Answer.{Reply}
use Rattle.reception.specs.Steps.{Said, gives, refuses, check, Left, Try, said_by, read_of, attempt_of, store_of, count_of}
use Rattle.incoming.specs.Event.{event_of}
use Rattle.outgoing.specs.Sending.{sending_in, octets_out}
use Rattle.rows.specs.Rows.{field_row, end_row, record_row, records_row, records_in, event_row, event_in, reply_row, answer_in, try_row, try_in}

-- something else of what is given
unfoldable pub of_given : {A B : Type 0} → (A → B) → Said A → Said B
of_given f (gives x) = gives (f x)
of_given f (refuses number line) = refuses number line

-- with the value that a row stands for; refused with the number where it stands for none
unfoldable pub standing : {A B : Type 0} → ℕ → Option A → (A → Said B) → Said B
standing number none next = refuses number 0
standing number (some x) next = next x

-- a sheet that was read, or 12 with its line
unfoldable pub sheet_says : List ℕ → Said Reading
sheet_says text = said_by (λ (x : Reading). x) (sheet_read text)

abbrev pub outcome_says : Outcome → Said (List ℕ)
outcome_says (reads kind ssrc ack values) = gives (message_row (reads kind ssrc ack values))
outcome_says (refused number at) = refuses number at

unfoldable pub read_says : List ℕ → List ℕ → Said (List ℕ)
read_says sheet packet = outcome_says (packet_read (sheet_in sheet) packet)

-- the packet that is written
abbrev pub made_says : Made → Said (List ℕ)
made_says (made p) = gives p
made_says (not_made number) = refuses number 0

unfoldable pub write_says : List ℕ → List ℕ → List ℕ → ℕ → Said (List ℕ)
write_says sheet message names room = made_says (write_of (sheet_in sheet) (message_in message) names room)

-- a field whose next place is no 32-bit number is past the end of what a host can say: 4
abbrev pub step_says : ℕ → Stepped → Said (List ℕ)
step_says place (field f) = check (ltb f.next (2 ^ 32)) 4 (gives (field_row f))
step_says place end = gives (end_row place)
step_says place (step_refused number at) = refuses number at

unfoldable pub field_says : List ℕ → ℕ → Said (List ℕ)
field_says packet place = step_says place (step_of packet place)

unfoldable pub event_says : List ℕ → List (List ℕ) → List ℕ → Said (List ℕ)
event_says sheet users packet = of_given event_row (event_of (sheet_in sheet) users packet)

-- 12 "line 0, before all other checks, for a sheet value handed to a call that no sheet reads to"
abbrev pub under : {A : Type 0} → List ℕ → Said A → Said A
under sheet next = check (valid_alone (sheet_in sheet)) 12 next

unfoldable pub seen_says : List ℕ → List ℕ → ℕ → Said (List ℕ)
seen_says sheet records stream =
    under sheet (standing 9 (records_in 8 records) (λ (rs : List Record). of_given record_row (read_of (sheet_in sheet) stream rs).said))

unfoldable pub count_says : List ℕ → List ℕ → ℕ → Said (List ℕ)
count_says sheet records stream =
    under sheet (standing 9 (records_in 8 records) (λ (rs : List Record). of_given (λ (n : ℕ). n ∷ []) (count_of (sheet_in sheet) stream rs).said))

unfoldable pub work_says : List ℕ → List ℕ → List ℕ → Said (List ℕ)
work_says sheet seen event =
    under sheet (standing 9 (records_in 1 seen) (λ (rs : List Record).
    standing 9 (event_in event) (λ (e : Event). of_given try_row (attempt_of (sheet_in sheet) (own rs 0) e))))

-- the records afterwards, and the answer, of a store that took
pub record Stored : Type 0 where
  pub records : List ℕ
  pub answer : List ℕ

abbrev pub left_says : Left Reply → Said Stored
left_says l = of_given (λ (r : Reply). record { records = records_row l.records; answer = reply_row r }) l.said

unfoldable pub store_says : List ℕ → List ℕ → List ℕ → Said Stored
store_says sheet attempt records =
    under sheet (standing 9 (try_in attempt) (λ (a : Try).
    standing 9 (records_in 8 records) (λ (rs : List Record). left_says (store_of (sheet_in sheet) a rs))))

-- the packet that the answer of a row sends
unfoldable pub packet_says : List ℕ → List (List ℕ) → ℕ → List ℕ → ℕ → Said (List ℕ)
packet_says sheet users stream answer room = made_says (octets_out (sending_in (sheet_in sheet) users stream (answer_in answer) room))
