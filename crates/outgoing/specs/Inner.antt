-- What the inner functions say. The public promises rest on these, and nobody need believe them: each is only a step of a proof.
-- Assumes nothing.
use Rattle.std.specs.Prelude.{◌≡◌, ℕ, ◌<◌, List, [], ◌∷◌, false, None, Result, length, get_or, eqb}
use Rattle.std.proofs.Math.Option.{Option, none, some}
use Rattle.octets.specs.Choice.{pick}
use Rattle.sheet.specs.declared.Refusal.{Refusal}
use Rattle.sheet.specs.declared.Sheet.{Sheet}
use Rattle.sheet.specs.Value.{name_of}
use Rattle.packet.specs.declared.Head.{Head}
use Rattle.packet.specs.declared.Verdict.{Verdict}
use Rattle.packet.specs.declared.Verdict.TheVariants.{Granted, Rejected}
use Rattle.packet.specs.declared.Message.{Message}
use Rattle.packet.specs.declared.Message.TheVariants.{ReceiveResponse, EndResponse, TransmissionEnd, Ack}
use Rattle.packet.specs.Message.{message_said}
use Rattle.packet.specs.Row.{no_number, message_in}
use Rattle.writing.specs.Writing.{Answered}
use Rattle.streams.specs.declared.Answer.{Answer}
use Rattle.streams.specs.declared.Answer.TheVariants.{GrantedFirst, Granted as GrantedMore, GrantedAgain, Rejected as AnswerRejected, Ended, EndedLast, Opened, EndRequested, Freed, FreedWithAck, ReleasedIdle, ReleasedWatched, ReleasedEnding, Discarded}
use Rattle.streams.specs.Answer.{message_of}
use Rattle.rows.specs.Rows.{answer_in}
use Rattle.outgoing.specs.Sending.{parcel_of, octets_out}

abbrev pub server_head : ℕ → Head
server_head server = record { ssrc = server; ack = false }

abbrev pub response_out : ℕ → Verdict → Option Message
response_out server v = some (ReceiveResponse (server_head server) v None)

abbrev pub end_response_out : ℕ → ℕ → Option Message
end_response_out server len = some (EndResponse (server_head server) (record { at = 0; len = len }))

abbrev pub end_request_out : ℕ → ℕ → Option Message
end_request_out server cause = some (TransmissionEnd (server_head server) cause None)

abbrev pub ack_out : ℕ → Option Message
ack_out server = some (Ack (server_head server) 2 1)

-- what an answer sends, where the transmitter's User ID has so many octets
abbrev pub outgoing_of : ℕ → ℕ → Answer → Option Message
outgoing_of server len GrantedFirst = response_out server Granted
outgoing_of server len GrantedMore = response_out server Granted
outgoing_of server len GrantedAgain = response_out server Granted
outgoing_of server len (AnswerRejected c) = response_out server (Rejected c)
outgoing_of server len Ended = end_response_out server len
outgoing_of server len EndedLast = end_response_out server len
outgoing_of server len Opened = none
outgoing_of server len (EndRequested c) = end_request_out server c
outgoing_of server len Freed = none
outgoing_of server len FreedWithAck = ack_out server
outgoing_of server len ReleasedIdle = none
outgoing_of server len ReleasedWatched = none
outgoing_of server len ReleasedEnding = none
outgoing_of server len Discarded = none

-- the row of the message out that an answer's row names
abbrev pub row_out : ℕ → ℕ → List ℕ → List ℕ
row_out server len answer =
    let at : ℕ → ℕ = λ k. get_or answer k 0 in
    let ack = eqb (at 1) 7 in
    at 1 ∷ server ∷ 0 ∷ 0 ∷ 0 ∷ 0 ∷ pick (eqb (at 1) 4) len 0 ∷ at 2 ∷ at 3 ∷ no_number ∷ pick ack 2 no_number ∷ pick ack 1 no_number ∷ []

-- a row stands for the message, or is of kind 0 where there is none
abbrev pub Outgoes : Option Message → List ℕ → Type 0
Outgoes none row = get_or row 0 0 ≡ 0
Outgoes (some m) row = (0 < get_or row 0 0) × (message_in row ≡ message_said m)

-- what the answer of a row sends on the stream of the transmitter whose User ID the other row holds
abbrev pub SentFrom : Sheet → List ℕ → List ℕ → List ℕ → Result ℕ Refusal → List ℕ → Type 0
SentFrom s name row out r now = (a : Answer) → answer_in row ≡ some a → Answered (octets_out (parcel_of s (name_of name) (length out) (message_of a))) out r now
