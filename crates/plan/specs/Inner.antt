-- What the inner functions say of what is to be written. The public promise rests on these, and nobody need believe them: each is
-- only a step of a proof. Assumes nothing.
use Rattle.std.specs.Prelude.{◌≡◌, ℕ, ◌+◌, ◌-◌, ◌*◌, Bool, true, ◌&&◌, ◌||◌, List, [], ◌∷◌, get_or, Option as Maybe, Some, None, eqb, leb, ltb}
use Rattle.std.proofs.Math.Option.{Option, none, some}
use Rattle.octets.specs.Choice.{pick, same, every}
use Rattle.sheet.specs.declared.Sheet.{Sheet}
use Rattle.packet.specs.declared.Head.{Head}
use Rattle.packet.specs.declared.Name.{Name}
use Rattle.packet.specs.declared.Verdict.{Verdict}
use Rattle.packet.specs.declared.Verdict.TheVariants.{Granted, Rejected}
use Rattle.packet.specs.declared.Message.{Message}
use Rattle.packet.specs.declared.Message.TheVariants.{ReceiveRequest, ReceiveResponse, EndRequest, EndResponse, TransmissionEnd, TransmissionEndResponse, Ack}
use Rattle.kinds.specs.declared.kind.Kind.{Kind}
use Rattle.kinds.specs.declared.kind.Kind.TheVariants.{ReceiveRequest as ReceiveRequestKind, ReceiveResponse as ReceiveResponseKind, EndRequest as EndRequestKind, EndResponse as EndResponseKind, TransmissionEnd as TransmissionEndKind, TransmissionEndResponse as TransmissionEndResponseKind, Ack as AckKind}
use Rattle.kinds.specs.Judge.{Held, absent, given, named}
use Rattle.kinds.specs.Reading.{Outcome}
use Rattle.packet.specs.Row.{no_number, flag, columns, first_number, message_row, numbers_say}
use Rattle.packet.specs.Claims.{name_right}
use Rattle.packet.specs.Meaning.{meaning}
use Rattle.plan.specs.declared.Part.{Part}
use Rattle.plan.specs.declared.Part.TheVariants.{Absent, Word, Named}
use Rattle.plan.specs.declared.Plan.{Plan}
use Rattle.plan.specs.declared.standing.Span.{Span}
use Rattle.plan.specs.Packet.{within, first_octet, packet_for}
use Rattle.plan.specs.Plan.{plan_right, plan_packet}

-- ---- a message's plan

-- ID octet, length octet 2 and a number of two octets, as one word
abbrev pub number_part : ℕ → ℕ → Part
number_part id number = Word (id * 0x1000000 + 0x20000 + number)

-- the same, where there is one
abbrev pub optional_part : ℕ → ℕ → Part
optional_part id number = pick (eqb number no_number) Absent (number_part id number)

-- the name whose place stands here in a row
abbrev pub named_part : List ℕ → ℕ → Part
named_part row k = Named (record { at = get_or row k 0; len = get_or row (k + 1) 0 })

abbrev pub indicator_part : Maybe ℕ → Part
indicator_part None = Absent
indicator_part (Some n) = number_part 13 n

abbrev pub result_part : ℕ → Verdict → Part
result_part id Granted = number_part id 1
result_part id (Rejected cause) = number_part id 0

abbrev pub cause_part : Verdict → Part
cause_part Granted = Absent
cause_part (Rejected cause) = number_part 2 cause

-- the fields of a message, where the Result has this ID
abbrev pub parts_for : ℕ → Message → List Part
parts_for id (ReceiveRequest h user source i) = Named user ∷ Named source ∷ indicator_part i ∷ []
parts_for id (ReceiveResponse h v i) = result_part id v ∷ cause_part v ∷ indicator_part i ∷ []
parts_for id (EndRequest h transmitter i) = Named transmitter ∷ indicator_part i ∷ Absent ∷ []
parts_for id (EndResponse h transmitter) = Named transmitter ∷ Absent ∷ Absent ∷ []
parts_for id (TransmissionEnd h cause i) = number_part 2 cause ∷ indicator_part i ∷ Absent ∷ []
parts_for id (TransmissionEndResponse h) = Absent ∷ Absent ∷ Absent ∷ []
parts_for id (Ack h source about) = number_part 10 source ∷ number_part 12 (about * 256) ∷ Absent ∷ []

abbrev pub plan_with : Head → ℕ → ℕ → List Part → Plan
plan_with h letters number parts = record { start = first_octet h.ack number; letters = letters; ssrc = h.ssrc; parts = parts }

-- "MCV0", "MCV1" or "MCV2", as one number
abbrev pub letters_for : ℕ → ℕ
letters_for kind = pick (eqb kind 1) 0x4D435630 (pick (eqb kind 2) 0x4D435631 0x4D435632)

abbrev pub plan_for : Sheet → Message → Plan
plan_for s (ReceiveRequest h user source i) = plan_with h (letters_for 1) s.request (parts_for s.resultid (ReceiveRequest h user source i))
plan_for s (ReceiveResponse h v i) = plan_with h (letters_for 2) s.response (parts_for s.resultid (ReceiveResponse h v i))
plan_for s (EndRequest h transmitter i) = plan_with h (letters_for 3) s.endrequest (parts_for s.resultid (EndRequest h transmitter i))
plan_for s (EndResponse h transmitter) = plan_with h (letters_for 4) s.endresponse (parts_for s.resultid (EndResponse h transmitter))
plan_for s (TransmissionEnd h cause i) = plan_with h (letters_for 5) s.txend (parts_for s.resultid (TransmissionEnd h cause i))
plan_for s (TransmissionEndResponse h) = plan_with h (letters_for 6) s.txendresponse (parts_for s.resultid (TransmissionEndResponse h))
plan_for s (Ack h source about) = plan_with h (letters_for 7) s.ack (parts_for s.resultid (Ack h source about))

-- its numbers are no wider than their types say
abbrev pub indicator_within : Maybe ℕ → Bool
indicator_within None = true
indicator_within (Some n) = within 2 n

abbrev pub verdict_within : Verdict → Bool
verdict_within Granted = true
verdict_within (Rejected cause) = within 2 cause

unfoldable pub in_width : Message → Bool
in_width (ReceiveRequest h user source i) = within 4 h.ssrc && indicator_within i
in_width (ReceiveResponse h v i) = within 4 h.ssrc && (verdict_within v && indicator_within i)
in_width (EndRequest h transmitter i) = within 4 h.ssrc && indicator_within i
in_width (EndResponse h transmitter) = within 4 h.ssrc
in_width (TransmissionEnd h cause i) = within 4 h.ssrc && (within 2 cause && indicator_within i)
in_width (TransmissionEndResponse h) = within 4 h.ssrc
in_width (Ack h source about) = within 4 h.ssrc && (within 2 source && within 1 about)

-- the place that stands here in a row lies in the octets, and a User ID stands there
unfoldable pub name_right_at : List ℕ → List ℕ → ℕ → Bool
name_right_at names row k = name_right names (named (get_or row k 0) (get_or row (k + 1) 0))

-- so it is with each name of the row's kind
unfoldable pub names_right : List ℕ → List ℕ → Bool
names_right names row =
    let kind = get_or row 0 0 in
    pick (eqb kind 1) (name_right_at names row 3) true && pick (eqb kind 1 || eqb kind 3 || eqb kind 4) (name_right_at names row 5) true

-- ---- its packet, where it has one

unfoldable pub planned : List ℕ → Plan → Option (List ℕ)
planned names p = pick (plan_right names p) (some (plan_packet names p)) none

-- ---- its size

-- a length of 32 bits makes no larger one
abbrev pub size_bound : ℕ
size_bound = 0x100000008

-- ---- a row, and the message that it stands for

abbrev pub span : ℕ → ℕ → ℕ → Span
span names from end = record { names = names; from = from; end = end }

-- the kind with a number
unfoldable pub kind_with_number : ℕ → Maybe Kind
kind_with_number n =
    get_or
    (None
    ∷ Some ReceiveRequestKind
    ∷ Some ReceiveResponseKind
    ∷ Some EndRequestKind
    ∷ Some EndResponseKind
    ∷ Some TransmissionEndKind
    ∷ Some TransmissionEndResponseKind
    ∷ Some AckKind
    ∷ [])
    n
    None

-- where the names of a kind begin, and where its numbers begin and end
unfoldable pub span_for : ℕ → Span
span_for kind =
    get_or
    (span 7 12 12 ∷ span 3 9 10 ∷ span 7 7 10 ∷ span 5 9 10 ∷ span 5 12 12 ∷ span 7 8 10 ∷ span 7 12 12 ∷ span 7 10 12 ∷ [])
    kind
    (span 7 12 12)

-- a number may stand at this place of a row: 0 or 1 for the Ack, and where the kind has nothing, what the reader puts there
unfoldable pub stands_at : Span → ℕ → ℕ → Bool
stands_at s i n =
    pick (eqb i 2) (eqb (flag (eqb n 1)) n)
    (pick (ltb i 7) (leb s.names i || eqb 0 n)
    ((leb s.from i && ltb i s.end) || eqb no_number n))

unfoldable pub is_message_row : List ℕ → Bool
is_message_row row = same (message_row (numbers_say row)) row

abbrev pub number_from : ℕ → Held
number_from n = pick (eqb n no_number) absent (given n)

-- none, or one of 16 bits
unfoldable pub indicator_fits : ℕ → Bool
indicator_fits n = pick (eqb n no_number) true (ltb n 65536)

-- "Reject Cause exactly if Result is 0": none beside a grant, else one of 16 bits
unfoldable pub cause_fits : Bool → ℕ → Bool
cause_fits grant n = pick grant (eqb n no_number) (ltb n 65536)

-- a response whose Result is 1
abbrev pub is_grant : List ℕ → Bool
is_grant row = eqb (get_or row 0 0) 2 && eqb (get_or row first_number 0) 1

-- the number in a column, behind the names: Result, cause, Indicator, Source of 16 bits, Message Type of 8
unfoldable pub fits_at : List ℕ → ℕ → Bool
fits_at row k =
    let n = get_or row k 0 in
    pick (ltb k first_number) true
    (get_or (ltb n 2 ∷ cause_fits (is_grant row) n ∷ indicator_fits n ∷ ltb n 65536 ∷ ltb n 256 ∷ []) (k - first_number) true)

-- one of the seven kinds, with numbers that fit; of a name any place and length does
unfoldable pub numbers_fit : List ℕ → Bool
numbers_fit row =
    let kind = get_or row 0 0 in
    leb 1 kind && (leb kind 7 && every (fits_at row) (columns kind))

-- the message of a kind with these numbers
abbrev pub indicator_from : ℕ → Maybe ℕ
indicator_from n = pick (eqb n no_number) None (Some n)

abbrev pub verdict_from : ℕ → ℕ → Verdict
verdict_from result cause = pick (eqb result 1) Granted (Rejected cause)

unfoldable pub message_as : ℕ → List ℕ → Message
message_as kind row =
    let at : ℕ → ℕ = λ k. get_or row k 0 in
    let h : Head = record { ssrc = at 1; ack = eqb (at 2) 1 } in
    let user : Name = record { at = at 3; len = at 4 } in
    let transmitter : Name = record { at = at 5; len = at 6 } in
    let i = indicator_from (at 9) in
    get_or
    (TransmissionEndResponse h
    ∷ ReceiveRequest h user transmitter i
    ∷ ReceiveResponse h (verdict_from (at 7) (at 8)) i
    ∷ EndRequest h transmitter i
    ∷ EndResponse h transmitter
    ∷ TransmissionEnd h (at 8) i
    ∷ TransmissionEndResponse h
    ∷ Ack h (at 10) (at 11)
    ∷ [])
    kind
    (TransmissionEndResponse h)

-- of a row's own kind
unfoldable pub message_from : List ℕ → Message
message_from row = message_as (get_or row 0 0) row

-- no packet reads to it
abbrev pub Unwritable : Outcome → Type 0
Unwritable o = (s : Sheet) (names : List ℕ) → packet_for s (meaning names o) ≡ none
