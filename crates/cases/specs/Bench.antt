-- The bench cases (document 01, "Bench cases"), P1 to P13 and the example of `mcvlook`, as one list: each line is a case as the document has it, and
-- `Bench` says that every line holds. What a line expects is written out. Assumes nothing.
use Rattle.std.specs.Prelude.{◌≡◌, ℕ, false, List, [], ◌∷◌, ◌++◌, map, length, replicate, Result, Ok, Err}
use Prim.Native.String.{String}
use Rattle.std.proofs.Math.Option.{Option, none, some}
use Rattle.octets.specs.Choice.{All}
use Rattle.octets.specs.Text.{ascii}
use Rattle.octets.specs.Hex.{hex_octets}
use Rattle.sheet.specs.declared.Refusal.{Refusal}
use Rattle.sheet.specs.declared.Sheet.{Sheet}
use Rattle.sheet.specs.Value.{sheet_of}
use Rattle.sheet_text.specs.declared.Reading.{Reading}
use Rattle.sheet_text.specs.Reading as sheet
use Rattle.sheet_line.specs.Line.{lf}
use Rattle.kinds.specs.Reading as packet
use Rattle.packet.specs.Meaning.{Value, nothing, numeral, spelt, Meaning, meaning}
use Rattle.writing.specs.Writing.{made, write_of}
use Rattle.streams.specs.declared.Phase.{Phase}
use Rattle.streams.specs.declared.Phase.TheVariants.{Free, Idle, Watched, Ending}
use Rattle.streams.specs.declared.Record.{Record}
use Rattle.streams.specs.declared.Event.{Event}
use Rattle.streams.specs.declared.What.{What}
use Rattle.streams.specs.declared.What.TheVariants.{Request, End, T11 as T11Expired}
use Rattle.streams.specs.Answer.{Done, granted, rejected, ended, end_requested, discarded, Sent, Timer, T3, T5, T6, T11, Reply, reply, timers}
use Rattle.streams.specs.Table.{Answered}
use Rattle.reception.specs.Steps.{Said, gives, refuses, leaving, Try, read_of, attempt_of, work_of, store_of}
use Rattle.reception.specs.Schedule.{Routine, packet_routine, timer_routine, Step, reads, works_out, stores, WorkedOut, State, after, start, run, taken}
use Rattle.incoming.specs.Event.{event_of}
use Rattle.outgoing.specs.Sending.{sending_of}
use Rattle.look.specs.Look.{look_of}

-- ---- sheet S

-- lines, each ended by one LF
abbrev pub text : List String → List ℕ
text [] = []
text (line ∷ lines) = ascii line ++ (lf ∷ text lines)

-- "Sheet S"; P8 has another limit too
abbrev pub text_with : String → List ℕ
text_with limit =
    text ("server=1000" ∷ limit ∷ "request=1" ∷ "response=2" ∷ "endrequest=3" ∷ "endresponse=4" ∷ "txend=5" ∷ "txendresponse=6" ∷ "ack=7"
    ∷ "resultid=20" ∷ "seats=3" ∷ "seat=1,sip:a" ∷ "seat=2,sip:b" ∷ "seat=3,sip:c" ∷ [])

-- what it reads to, and the User IDs beside that
abbrev pub value_read : Result Reading Refusal → Sheet
value_read (Ok r) = r.sheet
value_read (Err refusal) = sheet_of []

unfoldable pub sheet_with : String → Sheet
sheet_with limit = value_read (sheet.read_of (text_with limit))

abbrev pub limit_s : String
limit_s = "limit=1"

abbrev pub S : Sheet
S = sheet_with limit_s

unfoldable pub users_s : List (List ℕ)
users_s = sheet.users_in (text_with limit_s)

-- ---- how a line is written

-- octets as document 01 prints them
abbrev pub hex : String → List ℕ
hex digits = hex_octets (ascii digits)

-- a message: its kind, SSRC and values, in the order written; none asks for an Ack
abbrev pub message : ℕ → ℕ → List Value → Meaning
message kind ssrc values = record { kind = kind; ssrc = ssrc; ack = false; values = values }

abbrev pub name : String → Value
name n = spelt (ascii n)

-- a message that an answer sends: its kind, Result and cause
abbrev pub sends : ℕ → Option ℕ → Option ℕ → Option Sent
sends kind result cause = some (record { kind = kind; result = result; cause = cause })

-- a record: its phase and receivers
abbrev pub stands : Phase → ℕ → Record
stands phase receivers = record { phase = phase; receivers = receivers }

-- what happens on stream 0
abbrev pub on0 : What → Event
on0 what = record { stream = 0; what = what }

-- the eight records, stream 0 in this one and the others free
abbrev pub stream0 : Record → List Record
stream0 x = x ∷ replicate 7 (stands Free 0x00)

-- an attempt on stream 0: the record seen, the record wanted, the answer
abbrev pub attempt : Record → Record → Reply → Try
attempt seen wanted answer = record { stream = 0; seen = seen; wanted = wanted; reply = answer }

-- ---- the lines

-- a step of a schedule on stream 0, with what comes of it
pub data Moment : Type 0 where
  -- a routine read this record
  read : Routine → Record → Moment
  -- it worked out, on this record, what happened, and got this attempt
  worked_out : Routine → Record → What → Try → Moment
  -- it stored this attempt at what happened: this was said, and the record was this one then
  stored : Routine → Try → What → Said Reply → Record → Moment

pub data Line : Type 0 where
  -- what an answer sends on stream 0, in hex, and the message that this is
  goes_out : Option Sent → String → Meaning → Line
  -- what comes in, in hex, the message that this is, and the event that it makes
  comes_in : String → Meaning → Event → Line
  -- on stream 0 under a sheet: the record, what happens, the record then, what was done, the message, the timers stopped and started
  answered : Sheet → Record → What → Record → Done → Option Sent → List Timer → List Timer → Line
  -- lines behind sheet S, and all that `mcvlook` prints for them
  prints : List String → List String → Line
  -- a schedule from a record of stream 0, the record at its end, and the events that took, with their answers
  schedule : Record → List Moment → Record → List Answered → Line

-- P1 to P13 and the example, in document 01's words
unfoldable pub bench : List Line
bench =
    -- P1 "grant"
    goes_out (sends 2 (some 1) none) "82CC0003000003E84D43563114020001" (message 2 1000 (numeral 1 ∷ nothing ∷ nothing ∷ []))
    -- P2 "rejection, cause 0"
    ∷ goes_out (sends 2 (some 0) (some 0)) "82CC0004000003E84D4356311402000002020000" (message 2 1000 (numeral 0 ∷ numeral 0 ∷ nothing ∷ []))
    -- P3 "request of seat 1 for seat 0"
    ∷ comes_in "81CC0006000000024D43563006057369703A620006057369703A6100" (message 1 2 (name "sip:b" ∷ name "sip:a" ∷ nothing ∷ [])) (on0 (Request 1))
    -- P4 "end request for cause 8"
    ∷ goes_out (sends 5 none (some 8)) "85CC0003000003E84D43563202020008" (message 5 1000 (numeral 8 ∷ nothing ∷ []))
    -- P5 "Ack"
    ∷ goes_out (sends 7 none none) "87CC0004000003E84D4356320A0200020C020100" (message 7 1000 (numeral 2 ∷ numeral 1 ∷ []))
    -- P6 "Idle, request by 1: Watched 02, grant, stop T5, stop T11, start T6"
    ∷ answered S (stands Idle 0x00) (Request 1) (stands Watched 0x02) granted (sends 2 (some 1) none) (T5 ∷ T11 ∷ []) (T6 ∷ [])
    -- P7 "Watched 02, request by 1: same, grant, no timer"
    ∷ answered S (stands Watched 0x02) (Request 1) (stands Watched 0x02) granted (sends 2 (some 1) none) [] []
    -- P8 "Watched 02, request by 2: reject cause 0; with limit=2, Watched 06, grant, stop T5, start T6"
    ∷ answered S (stands Watched 0x02) (Request 2) (stands Watched 0x02) rejected (sends 2 (some 0) (some 0)) [] []
    ∷ answered (sheet_with "limit=2") (stands Watched 0x02) (Request 2) (stands Watched 0x06) granted (sends 2 (some 1) none) (T5 ∷ []) (T6 ∷ [])
    -- P9 "Idle, request by 0: reject cause 1"
    ∷ answered S (stands Idle 0x00) (Request 0) (stands Idle 0x00) rejected (sends 2 (some 0) (some 1)) [] []
    -- P10 "Watched 02, T11: discarded"
    ∷ answered S (stands Watched 0x02) T11Expired (stands Watched 0x02) discarded none [] []
    -- P11 "Idle, T11: Ending"
    ∷ answered S (stands Idle 0x00) T11Expired (stands Ending 0x00) end_requested (sends 5 none (some 8)) [] (T3 ∷ [])
    -- P12 "Watched 02, end by 1: Idle, start T11"
    ∷ answered S (stands Watched 0x02) (End 1) (stands Idle 0x00) ended (sends 4 none none) [] (T11 ∷ [])
    -- P13
    ∷ schedule (stands Idle 0x00)
    (
    -- "read Idle for request by 1"
    read packet_routine (stands Idle 0x00)
    ∷ worked_out packet_routine (stands Idle 0x00) (Request 1) granting
    -- "T11 is stored"
    ∷ read timer_routine (stands Idle 0x00)
    ∷ worked_out timer_routine (stands Idle 0x00) T11Expired ending
    ∷ stored timer_routine ending T11Expired (gives end_request) (stands Ending 0x00)
    -- "the request's store is stale, record Ending"
    ∷ stored packet_routine granting (Request 1) (refuses 10 0) (stands Ending 0x00)
    -- "read and worked out again, reject cause 1"
    ∷ read packet_routine (stands Ending 0x00)
    ∷ worked_out packet_routine (stands Ending 0x00) (Request 1) rejecting
    ∷ stored packet_routine rejecting (Request 1) (gives rejection) (stands Ending 0x00)
    ∷ [])
    (stands Ending 0x00)
    (record { event = on0 T11Expired; reply = end_request } ∷ record { event = on0 (Request 1); reply = rejection } ∷ [])
    -- "`mcvlook` on S, then P3, P1 and `80`, prints all of"
    ∷ prints
    ("81CC0006000000024D43563006057369703A620006057369703A6100" ∷ "82CC0003000003E84D43563114020001" ∷ "80" ∷ [])
    ("kind=1 ssrc=2 ack=0 user=sip:b named=sip:a result=- cause=- indicator=- origin=- about=-"
    ∷ "kind=2 ssrc=1000 ack=0 user=- named=- result=1 cause=- indicator=- origin=- about=-"
    ∷ "refused=1"
    ∷ [])
    ∷ []
  where
    -- the answers: to T11, and to the request in the end
    end_request : Reply
    end_request = reply end_requested (sends 5 none (some 8)) (timers [] (T3 ∷ []))

    rejection : Reply
    rejection = reply rejected (sends 2 (some 0) (some 1)) (timers [] [])

    -- the attempts: the request on Idle as in P6, T11 on Idle as in P11, the request on Ending
    granting : Try
    granting = attempt (stands Idle 0x00) (stands Watched 0x02) (reply granted (sends 2 (some 1) none) (timers (T5 ∷ T11 ∷ []) (T6 ∷ [])))

    ending : Try
    ending = attempt (stands Idle 0x00) (stands Ending 0x00) end_request

    rejecting : Try
    rejecting = attempt (stands Ending 0x00) (stands Ending 0x00) rejection

-- ---- what it is for a line to hold

-- octets are read as the message, and the message that was read is written as the octets
abbrev pub IsMessage : List ℕ → Meaning → Type 0
IsMessage p m =
    let said = packet.read_of S p in
    (meaning p said ≡ some m) × (write_of S said p (length p) ≡ made p)

-- the step of a moment
abbrev pub step_of : Moment → Step
step_of (read by x) = reads by 0
step_of (worked_out by x what a) = works_out by x (on0 what)
step_of (stored by a what said y) = stores by a (on0 what)

-- what the step says and leaves of the eight records, by the definition that its function's own promise cites; a routine works out on what it
-- read last
abbrev pub Comes : State → Moment → Type 0
Comes m (read by x) = read_of S 0 m.records ≡ leaving m.records (gives x)
Comes m (worked_out by x what a) = (m.last_read by 0 ≡ some x) × (work_of S x (on0 what) m.records ≡ leaving m.records (gives a))
Comes m (stored by a what said y) = store_of S a m.records ≡ leaving (stream0 y) said

-- one after another, from a state of the schedule
abbrev pub Plays : State → List Moment → Type 0
Plays m [] = Unit {0}
Plays m (x ∷ xs) = Comes m x × Plays (after S (step_of x) m) xs

-- it is a schedule of which demand 3 speaks, each step comes out so, this is the record at the end, and these events took
abbrev pub Runs : Record → List Moment → Record → List Answered → Type 0
Runs x moments y took =
    let steps = map step_of moments in
    All (WorkedOut S) steps
    × Plays (start (stream0 x)) moments
    × ((run S steps (start (stream0 x))).records ≡ stream0 y)
    × (taken S steps (start (stream0 x)) ≡ took)

abbrev pub Holds : Line → Type 0
-- it is the message, and what the controller writes for the answer, where the room is just enough
Holds (goes_out sent digits m) =
    let p = hex digits in
    IsMessage p m × (sending_of S users_s 0 sent (length p) ≡ gives (some p))
-- it is the message, and makes the event
Holds (comes_in digits m e) =
    let p = hex digits in
    IsMessage p m × (event_of S users_s p ≡ gives e)
-- it is worked out to the attempt, and the attempt's store takes
Holds (answered s x what y done sent stops starts) =
    let answer = reply done sent (timers stops starts) in
    (attempt_of s x (on0 what) ≡ gives (attempt x y answer)) × (store_of s (attempt x y answer) (stream0 x) ≡ leaving (stream0 y) (gives answer))
-- the sheet's text and the lines make the input
Holds (prints lines out) = look_of (text_with limit_s ++ text lines) ≡ text out
Holds (schedule x moments y took) = Runs x moments y took

-- Every case of the bench holds.
abbrev pub Bench : Type 0
Bench = All Holds bench
