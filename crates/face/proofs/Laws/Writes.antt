-- What a message, or an answer, makes of so much room is what it makes of any, or 11. Assumes nothing.
use mathlib.Core.Path.{◌≡◌, refl, ◌∙◌}
use Prim.Native.Nat.{ℕ, zero-le}
use mathlib.Core.Bool.{Bool, true, false}
use mathlib.Core.List.{List, []}
use mathlib.Core.Option.{Option, none, some}
use native.Mathlib.Omega.{arith}
use borrow.Author.Tests.{le-leb}
use Rattle.octets.specs.Choice.{pick}
use Rattle.sheet.specs.declared.Sheet.{Sheet}
use Rattle.sheet.specs.Value.{valid_alone, valid_with}
use Rattle.sheet.specs.Find.{user_of}
use Rattle.kinds.specs.Kind.{numbers_of}
use Rattle.kinds.specs.Reading.{Outcome}
use Rattle.packet.specs.Meaning.{meaning}
use Rattle.plan.specs.Packet.{packet_of, packet_for}
use Rattle.writing.specs.Writing.{Made, made, refused, made_of, room_for, write_of}
use Rattle.streams.specs.declared.Answer.{Answer}
use Rattle.streams.specs.Answer.{Sent, message_of}
use Rattle.streams.specs.Record.{rules_of, on_sheet}
use Rattle.reception.specs.Steps.{Said, gives, refuses, check}
use Rattle.outgoing.specs.Sending.{message_out, Parcel, parcel, parcel_of, sending_of, sending_in, octets_out}
use Rattle.rows.specs.Lent.{roomy}
use Rattle.face.specs.Calls.{made_says}
use Rattle.face.proofs.Laws.Told.{Plain, plain-check, plain-roomy}
use Rattle.face.proofs.Laws.Wrote.{in_room, packet_said, room-made, plain-packet_said}

-- ---- a message

-- the packet, whatever the room, or 12 or 5
abbrev pub written : Sheet → Outcome → List ℕ → Said (List ℕ)
written s o names = check (valid_alone s) 12 (packet_said (packet_for s (meaning names o)))

pub written_in : (s : Sheet) (o : Outcome) (names : List ℕ) (room : ℕ) → made_says (write_of s o names room) ≡ in_room room (written s o names)
unfolding write_of roomy
written_in s o names room = by (valid_alone s)
  where
    by : (b : Bool) → made_says (pick b (made_of s o names room) (refused 12)) ≡ in_room room (check b 12 (packet_said (packet_for s (meaning names o))))
    by true = room-made room (packet_for s (meaning names o))
    by false = refl

pub plain-written : (s : Sheet) (o : Outcome) (names : List ℕ) (room : ℕ) → Plain (made_says (write_of s o names room))
plain-written s o names room =
    rw (written_in s o names room)
    (plain-roomy _ (written s o names) (plain-check (valid_alone s) 12 _ (omega arith) (plain-packet_said (packet_for s (meaning names o)))))

-- ---- an answer

-- what goes into the buffer, as it is said
abbrev out_says : Parcel → Said (List ℕ)
out_says x = made_says (octets_out x)

-- what a message makes goes into the buffer
made-out : (w : Made) → out_says (parcel w) ≡ made_says w
made-out (made p) = refl
made-out (refused number) = refl

-- the packet, whatever the room, or no octets where the answer sends none
abbrev sent_said : Sheet → List ℕ → Option Sent → Said (List ℕ)
sent_said s transmitter none = gives []
sent_said s transmitter (some m) = packet_said (packet_of (numbers_of s) (message_out s.server transmitter m))

sent_in : (s : Sheet) (transmitter : List ℕ) (room : ℕ) (o : Option Sent) → out_says (parcel_of s transmitter room o) ≡ in_room room (sent_said s transmitter o)
unfolding parcel_of roomy
sent_in s transmitter room none = rw (le-leb 0 room zero-le)
sent_in s transmitter room (some m) =
    let packet = packet_of (numbers_of s) (message_out s.server transmitter m) in
    made-out (room_for room packet) ∙ room-made room packet

-- a check before it
check-in : (b : Bool) (number room : ℕ) (x : Parcel) (y : Said (List ℕ)) → out_says x ≡ in_room room y
    → out_says (check b number x) ≡ in_room room (check b number y)
unfolding roomy
check-in true number room x y e = e
check-in false number room x y e = refl

-- or 12 or 9
abbrev pub sent : Sheet → List (List ℕ) → ℕ → Option Answer → Said (List ℕ)
sent s users stream none = check (valid_with s users) 12 (refuses 9 0)
sent s users stream (some a) = check (valid_with s users) 12 (check (on_sheet (rules_of s) stream) 9 (sent_said s (user_of users stream) (message_of a)))

pub sending_in_lem : (s : Sheet) (users : List (List ℕ)) (stream : ℕ) (o : Option Answer) (room : ℕ)
    → made_says (octets_out (sending_in s users stream o room)) ≡ in_room room (sent s users stream o)
unfolding sending_in sending_of roomy
sending_in_lem s users stream none room = check-in (valid_with s users) 12 room (refuses 9 0) (refuses 9 0) refl
sending_in_lem s users stream (some a) room =
    check-in (valid_with s users) 12 room _ _ (check-in (on_sheet (rules_of s) stream) 9 room _ _ (sent_in s (user_of users stream) room (message_of a)))

plain-sent_said : (s : Sheet) (transmitter : List ℕ) (o : Option Sent) → Plain (sent_said s transmitter o)
plain-sent_said s transmitter none = tt
plain-sent_said s transmitter (some m) = plain-packet_said (packet_of (numbers_of s) (message_out s.server transmitter m))

plain-sent_in : (s : Sheet) (users : List (List ℕ)) (stream : ℕ) (o : Option Answer) → Plain (sent s users stream o)
plain-sent_in s users stream none = plain-check (valid_with s users) 12 _ (omega arith) (omega arith, omega arith)
plain-sent_in s users stream (some a) =
    plain-check (valid_with s users) 12 _ (omega arith)
    (plain-check (on_sheet (rules_of s) stream) 9 _ (omega arith) (plain-sent_said s (user_of users stream) (message_of a)))

pub plain-sent : (s : Sheet) (users : List (List ℕ)) (stream : ℕ) (o : Option Answer) (room : ℕ)
    → Plain (made_says (octets_out (sending_in s users stream o room)))
plain-sent s users stream o room = rw (sending_in_lem s users stream o room) (plain-roomy _ (sent s users stream o) (plain-sent_in s users stream o))
