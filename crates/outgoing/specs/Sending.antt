-- The packet that an answer sends (document 01, "Stream record": "Messages out carry the server's SSRC, no Indicator, and the first subtype bit
-- clear by default. An end response names the transmitter's User ID"; "Refusals": 12 line 0, 9, 11). Assumes nothing.
use Rattle.std.specs.Prelude.{ℕ, false, List, [], ◌∷◌, eqb}
use Rattle.std.proofs.Math.Option.{Option, none, some}
use Rattle.octets.specs.Choice.{pick}
use Rattle.sheet.specs.declared.Sheet.{Sheet}
use Rattle.sheet.specs.Value.{valid_with}
use Rattle.sheet.specs.Find.{user_of}
use Rattle.kinds.specs.Kind.{numbers_of}
use Rattle.packet.specs.Meaning.{Value, nothing, numeral, spelt, Meaning}
use Rattle.plan.specs.Packet.{packet_of}
use Rattle.writing.specs.Writing.{Made, made, refused, room_for}
use Rattle.streams.specs.Record.{rules_of, on_sheet}
use Rattle.streams.specs.declared.Answer.{Answer}
use Rattle.streams.specs.Answer.{Sent, message_of}
use Rattle.reception.specs.Steps.{Said, gives, refuses, check}

-- ---- the message

-- a number, where there is one
abbrev pub maybe : Option ℕ → Value
maybe none = nothing
maybe (some n) = numeral n

-- no Indicator
abbrev pub no_indicator : Value
no_indicator = nothing

-- the values of each kind that goes out, in the order written; the Ack has "Source 2, Message Type 1"
unfoldable pub values_out : List ℕ → Sent → List Value
values_out transmitter m =
    pick (eqb m.kind 2) (maybe m.result ∷ maybe m.cause ∷ no_indicator ∷ [])
    (pick (eqb m.kind 4) (spelt transmitter ∷ [])
    (pick (eqb m.kind 5) (maybe m.cause ∷ no_indicator ∷ [])
    (pick (eqb m.kind 7) (numeral 2 ∷ numeral 1 ∷ []) [])))

-- the message that goes out, on the stream of a transmitter with this User ID
unfoldable pub message_out : ℕ → List ℕ → Sent → Meaning
message_out server transmitter m = record { kind = m.kind; ssrc = server; ack = false; values = values_out transmitter m }

-- ---- its packet

-- a packet for the buffer, that there is none, or a refusal
abbrev pub Parcel : Type 0
Parcel = Said (Option (List ℕ))

abbrev pub parcel : Made → Parcel
parcel (made p) = gives (some p)
parcel (refused number) = refuses number 0

-- 11: "output shorter than the packet"; an answer that sends nothing needs no room
unfoldable pub parcel_of : Sheet → List ℕ → ℕ → Option Sent → Parcel
parcel_of s transmitter room none = gives none
parcel_of s transmitter room (some m) = parcel (room_for room (packet_of (numbers_of s) (message_out s.server transmitter m)))

-- what an answer on a stream sends, by the answer's message; 9: "seat not on the sheet"
unfoldable pub sending_of : Sheet → List (List ℕ) → ℕ → Option Sent → ℕ → Parcel
sending_of s users stream message room =
    check (valid_with s users) 12 (check (on_sheet (rules_of s) stream) 9 (parcel_of s (user_of users stream) room message))

-- the same of the answer that a row stands for; 9 too where it stands for none
unfoldable pub sending_in : Sheet → List (List ℕ) → ℕ → Option Answer → ℕ → Parcel
sending_in s users stream none room = check (valid_with s users) 12 (refuses 9 0)
sending_in s users stream (some a) room = sending_of s users stream (message_of a) room

-- ---- what goes into the buffer

-- no octets where nothing is sent
abbrev pub octets_out : Parcel → Made
octets_out (gives none) = made []
octets_out (gives (some p)) = made p
octets_out (refuses number line) = refused number
