-- What is claimed of the packets of answers beyond the functions. Each has its proof under proofs/. Assumes nothing.
use Rattle.std.specs.Prelude.{◌≡◌, ℕ, ◌≤◌, ◌<◌, false, List, [], ◌∷◌, length, T}
use Rattle.std.proofs.Math.Option.{Option, none, some}
use Rattle.sheet.specs.declared.Sheet.{Sheet}
use Rattle.sheet.specs.Value.{valid_with}
use Rattle.kinds.specs.Kind.{numbers_of}
use Rattle.kinds.specs.Reading.{read_of}
use Rattle.packet.specs.Meaning.{Value, nothing, numeral, spelt, Meaning, meaning}
use Rattle.writing.specs.Canonical.{canonical}
use Rattle.writing.specs.Claims.{are_octets}
use Rattle.streams.specs.declared.Answer.{Answer}
use Rattle.streams.specs.declared.Answer.TheVariants.{GrantedFirst, Granted, GrantedAgain, Rejected, Ended, EndedLast, Opened, EndRequested, Freed, FreedWithAck, ReleasedIdle, ReleasedWatched, ReleasedEnding, Discarded}
use Rattle.streams.specs.Answer.{message_of}
use Rattle.reception.specs.Steps.{gives, refuses}
use Rattle.sheet.specs.Find.{user_of}
use Rattle.rows.specs.Claims.{Narrow}
use Rattle.outgoing.specs.Sending.{sending_of}

-- a message of the server's, which asks for no Ack
abbrev pub from_server : Sheet → ℕ → List Value → Option Meaning
from_server s kind values = some (record { kind = kind; ssrc = s.server; ack = false; values = values })

-- the message that document 01 names for each answer
abbrev pub message_for : Sheet → List ℕ → Answer → Option Meaning
message_for s transmitter GrantedFirst = from_server s 2 (numeral 1 ∷ nothing ∷ nothing ∷ [])
message_for s transmitter Granted = from_server s 2 (numeral 1 ∷ nothing ∷ nothing ∷ [])
message_for s transmitter GrantedAgain = from_server s 2 (numeral 1 ∷ nothing ∷ nothing ∷ [])
message_for s transmitter (Rejected cause) = from_server s 2 (numeral 0 ∷ numeral cause ∷ nothing ∷ [])
message_for s transmitter Ended = from_server s 4 (spelt transmitter ∷ [])
message_for s transmitter EndedLast = from_server s 4 (spelt transmitter ∷ [])
message_for s transmitter Opened = none
message_for s transmitter (EndRequested cause) = from_server s 5 (numeral cause ∷ nothing ∷ [])
message_for s transmitter Freed = none
message_for s transmitter FreedWithAck = from_server s 7 (numeral 2 ∷ numeral 1 ∷ [])
message_for s transmitter ReleasedIdle = none
message_for s transmitter ReleasedWatched = none
message_for s transmitter ReleasedEnding = none
message_for s transmitter Discarded = none

-- What is written for an answer is made of octets, canonical, and reads back as the message that document 01 names for it.
abbrev pub SendsNamed : Type 0
SendsNamed =
    (s : Sheet) (users : List (List ℕ)) (stream room : ℕ) (a : Answer) (p : List ℕ) → sending_of s users stream (message_of a) room ≡ gives (some p)
    → T (are_octets p) × T (canonical (numbers_of s) p) × (meaning p (read_of s p) ≡ message_for s (user_of users stream) a)

-- what is written into so much room: the packet, or 11 where it is longer
pub record SentInto (s : Sheet) (users : List (List ℕ)) (stream : ℕ) (a : Answer) (p : List ℕ) (room : ℕ) : Type 0 where
  pub fits : length p ≤ room → sending_of s users stream (message_of a) room ≡ gives (some p)
  pub short : room < length p → sending_of s users stream (message_of a) room ≡ refuses 11 0

-- Under a valid sheet, on a stream of it, an answer that sends a message has one packet, whatever the room, and one that sends none needs none. A cause has 16
-- bits, as the code's type says.
abbrev pub SendsExactly : Type 0
SendsExactly =
    (s : Sheet) (users : List (List ℕ)) (stream : ℕ) (a : Answer) → T (valid_with s users) → stream < s.seats → Narrow (message_of a)
    → ((m : Meaning) → message_for s (user_of users stream) a ≡ some m → (p : List ℕ) × ((room : ℕ) → SentInto s users stream a p room))
    × (message_for s (user_of users stream) a ≡ none → (room : ℕ) → sending_of s users stream (message_of a) room ≡ gives none)

-- Before that comes 12, and then 9 for a stream that is not on the sheet, also where nothing is to be sent.
abbrev pub SendingRefused : Type 0
SendingRefused =
    (s : Sheet) (users : List (List ℕ)) (stream room : ℕ) (a : Answer)
    → (valid_with s users ≡ false → sending_of s users stream (message_of a) room ≡ refuses 12 0)
    × (T (valid_with s users) → s.seats ≤ stream → sending_of s users stream (message_of a) room ≡ refuses 9 0)
