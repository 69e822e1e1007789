-- What the inner functions say. The public promises rest on these, and nobody need believe them: each is only a step of a proof.
-- Assumes nothing.
use Rattle.std.specs.Prelude.{ℕ, List, Result, take, drop, T}
use Rattle.octets.specs.Choice.{every}
use Rattle.sheet.specs.declared.Refusal.{Refusal}
use Rattle.sheet.specs.Find.{seat_of_ssrc}
use Rattle.seats.specs.declared.Senders.{Senders}
use Rattle.kinds.specs.Judge.{Held}
use Rattle.kinds.specs.Reading.{Outcome, reads, refused}
use Rattle.packet.specs.declared.Name.{Name}
use Rattle.packet.specs.Asked.{Asks, request, end, end_response, nothing, refusal}
use Rattle.packet.specs.Claims.{name_right}
use Rattle.packet.specs.Meaning.{value_in, name_held}
use Rattle.streams.specs.declared.Event.{Event}
use Rattle.streams.specs.declared.What.TheVariants.{End}
use Rattle.reception.specs.Steps.{Said, gives, refuses, said_by}
use Rattle.incoming.specs.Event.{seated, on_stream, request_by, end_response_on, by_sender}

-- the octets of a name
abbrev pub octets_at : List ℕ → Name → List ℕ
octets_at p n = take n.len (drop n.at p)

-- the sender's seat
abbrev pub sender_of : Senders → ℕ → Said ℕ
sender_of q ssrc = seated 6 (seat_of_ssrc q.seats q.ssrcs ssrc) gives

abbrev pub sender_said : Result ℕ Refusal → Said ℕ
sender_said r = said_by (λ (s : ℕ). s) r

-- ---- what a packet asks

-- each name of a message lies in the packet
abbrev pub NamesRight : List ℕ → Outcome → Type 0
NamesRight p (reads kind ssrc ack held) = T (every (name_right p) held)
NamesRight p (refused number at) = Unit {0}

-- each name of what is asked
abbrev pub AsksRight : List ℕ → Asks → Type 0
AsksRight p (request ssrc user source) = T (name_right p user) × T (name_right p source)
AsksRight p (end ssrc transmitter) = T (name_right p transmitter)
AsksRight p (end_response ssrc ack) = Unit {0}
AsksRight p nothing = Unit {0}
AsksRight p (refusal number at) = Unit {0}

-- the octets of a name, as a message says it
abbrev pub called : List ℕ → Held → List ℕ
called p v = name_held (value_in p v)

-- what is answered
abbrev pub answer_to : Senders → List (List ℕ) → List ℕ → Asks → Said Event
answer_to q users p (request ssrc user source) = by_sender q ssrc (request_by q.seats users (called p user) (called p source))
answer_to q users p (end ssrc transmitter) = by_sender q ssrc (λ r. on_stream q.seats users (called p transmitter) (End r))
answer_to q users p (end_response ssrc ack) = by_sender q ssrc (end_response_on ack)
answer_to q users p nothing = refuses 8 0
answer_to q users p (refusal number at) = refuses number at
