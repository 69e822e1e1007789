-- The event that a packet makes (document 01, "Stream record": "A packet makes an event only so: kinds 1 and 3 by sender's seat, stream found
-- from Source ID or User ID; kind 6 on the sender's own stream"; "Refusals": 12 line 0, 1 to 5, then 8, 6, 7). Assumes nothing.
use Rattle.std.specs.Prelude.{ℕ, Bool, List, map, get_or, Result, eqb}
use Rattle.std.proofs.Math.Option.{Option, none, some}
use Rattle.octets.specs.Choice.{pick, same}
use Rattle.sheet.specs.declared.Refusal.{Refusal}
use Rattle.sheet.specs.declared.Sheet.{Sheet}
use Rattle.seats.specs.declared.Senders.{Senders}
use Rattle.sheet.specs.Value.{valid_with}
use Rattle.sheet.specs.Find.{user_of, seat_of_ssrc, seat_of_user}
use Rattle.kinds.specs.Reading.{Outcome, reads, refused, read_of}
use Rattle.packet.specs.Meaning.{Value, nothing, Meaning, value_in, name_held}
use Rattle.streams.specs.declared.Event.{Event}
use Rattle.streams.specs.declared.What.{What}
use Rattle.streams.specs.declared.What.TheVariants.{Request, End, EndResponse}
use Rattle.reception.specs.Steps.{Said, gives, refuses, check, said_by}

-- ---- the seats

-- what is looked at to find a sender
abbrev pub senders_of : Sheet → Senders
senders_of s = record { seats = s.seats; ssrcs = s.ssrcs }

-- what follows for the seat that was found; the refusal where there is none
abbrev pub seated : {A : Type 0} → ℕ → Option ℕ → (ℕ → Said A) → Said A
seated number none next = refuses number 0
seated number (some r) next = next r

-- ---- what a message says

-- the name among a message's values, by its place in the order written
abbrev pub name_in : ℕ → List Value → List ℕ
name_in k values = name_held (get_or values k nothing)

-- ---- the event

-- on the stream of the user with this name; 7: "stream's user has no seat"
unfoldable pub on_stream : ℕ → List (List ℕ) → List ℕ → What → Said Event
on_stream seats users name what = seated 7 (seat_of_user seats users name) (λ (s : ℕ). gives (record { stream = s; what = what }))

-- a request by seat r for the stream of the source; 6: "User ID in kind 1 is not that seat's"
unfoldable pub request_by : ℕ → List (List ℕ) → List ℕ → List ℕ → ℕ → Said Event
request_by seats users user source r = check (same (user_of users r) user) 6 (on_stream seats users source (Request r))

-- the sender's own stream
abbrev pub end_response_on : Bool → ℕ → Said Event
end_response_on asked r = gives (record { stream = r; what = EndResponse asked })

-- by the sender's seat; 6: "sender's SSRC has no seat"
abbrev pub by_sender : Senders → ℕ → (ℕ → Said Event) → Said Event
by_sender q ssrc next = seated 6 (seat_of_ssrc q.seats q.ssrcs ssrc) next

-- what a message makes; 8: "kind 2, 4, 5 or 7 offered as an event"
unfoldable pub heard : Senders → List (List ℕ) → Meaning → Said Event
heard q users m =
    pick (eqb m.kind 1) (by_sender q m.ssrc (request_by q.seats users (name_in 0 m.values) (name_in 1 m.values)))
    (pick (eqb m.kind 3) (by_sender q m.ssrc (λ (r : ℕ). on_stream q.seats users (name_in 0 m.values) (End r)))
    (pick (eqb m.kind 6) (by_sender q m.ssrc (end_response_on m.ack))
    (refuses 8 0)))

-- a refused packet makes no event
unfoldable pub event_from : Senders → List (List ℕ) → List ℕ → Outcome → Said Event
event_from q users p (reads kind ssrc ack held) = heard q users (record { kind = kind; ssrc = ssrc; ack = ack; values = map (value_in p) held })
event_from q users p (refused number at) = refuses number at

-- the event that a packet makes under a sheet and its User IDs
unfoldable pub event_of : Sheet → List (List ℕ) → List ℕ → Said Event
event_of s users p = check (valid_with s users) 12 (event_from (senders_of s) users p (read_of s p))

-- ---- the answers of the code set out

abbrev pub offered_said : Result Event Refusal → Said Event
offered_said r = said_by (λ (e : Event). e) r
