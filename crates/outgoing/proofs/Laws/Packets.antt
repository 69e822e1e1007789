-- The claims of specs/Claims.antt on packets: what an answer sends is the message that document 01 names (`named-out`), which under a valid
-- sheet has a packet (`out-sendable`); and what is claimed of that packet is the writer's. Assumes nothing.
use mathlib.Core.Path.{◌≡◌, refl, sym, ◌∙◌}
use mathlib.Core.List.{List}
use mathlib.Core.Option.{Option, none, some, map, none-ne-some, some-ne-none}
use Prim.Native.Nat.{ℕ, ◌^◌}
use native.Mathlib.Omega.{arith}
use lib.ListN.{length}
use lib.Dec.{T, leb, lt→ltb, lit<}
use borrow.Author.Tests.{le-leb, lt-leb}
use Rattle.octets.proofs.Choice.{T_true, pick-cases}
use Rattle.sheet.specs.declared.Sheet.{Sheet}
use Rattle.sheet.specs.Table.{table, number_lines, row_at}
use Rattle.sheet.specs.Judge.{user_id}
use Rattle.sheet.specs.Value as value
use Rattle.sheet.specs.Value.{valid_with, valid_alone}
use Rattle.sheet.proofs.Laws.Bounds.{valid-within}
use Rattle.kinds.specs.Kind.{Kind, kinds, may_lack, may_have, is_result, grants, numbers_of}
use Rattle.packet.specs.Meaning.{Meaning}
use Rattle.plan.specs.Packet.{within, holds, is_nothing, takes, takes_all, is_one, writable, packet_as, kind_with, packet_of}
use Rattle.writing.specs.Writing.{Made, made, refused, room_for}
use Rattle.writing.proofs.Laws.Back.{packet-reads}
use Rattle.writing.proofs.Laws.Canon.{written-canonical}
use Rattle.streams.specs.declared.Answer.{Answer}
use Rattle.streams.specs.declared.Answer.TheVariants.{GrantedFirst, Granted, GrantedAgain, Rejected, Ended, EndedLast, Opened, EndRequested, Freed, FreedWithAck, ReleasedIdle, ReleasedWatched, ReleasedEnding, Discarded}
use Rattle.streams.specs.Answer.{Sent, message_of}
use Rattle.streams.specs.Record.{rules_of, on_sheet}
use Rattle.reception.specs.Steps.{gives}
use Rattle.reception.proofs.Laws.Steps.{check-gives}
use Rattle.sheet.specs.Find.{user_of}
use Rattle.outgoing.specs.Sending.{values_out, message_out, parcel, parcel_of, sending_of}
use Rattle.rows.specs.Claims.{Narrow}
use Rattle.outgoing.specs.Claims.{message_for, SendsNamed, SendsExactly, SendingRefused}
use Rattle.outgoing.proofs.Laws.Answers.{sending-invalid, sending-off, sending-on}
use Rattle.sheet.proofs.Laws.Seats.{valid-alone, user-right}

-- ---- the message

-- the one that document 01 names
named-out : (s : Sheet) (transmitter : List ℕ) (a : Answer)
    → map (message_out s.server transmitter) (message_of a) ≡ message_for s transmitter a
unfolding message_out values_out
named-out s transmitter GrantedFirst = refl
named-out s transmitter Granted = refl
named-out s transmitter GrantedAgain = refl
named-out s transmitter (Rejected cause) = refl
named-out s transmitter Ended = refl
named-out s transmitter EndedLast = refl
named-out s transmitter Opened = refl
named-out s transmitter (EndRequested cause) = refl
named-out s transmitter Freed = refl
named-out s transmitter FreedWithAck = refl
named-out s transmitter ReleasedIdle = refl
named-out s transmitter ReleasedWatched = refl
named-out s transmitter ReleasedEnding = refl
named-out s transmitter Discarded = refl

-- ---- its packet

-- a message, if there is one, has a packet
abbrev Sendable : Sheet → List ℕ → Option Sent → Type 0
Sendable s transmitter none = Unit {0}
Sendable s transmitter (some m) = (p : List ℕ) × (packet_of (numbers_of s) (message_out s.server transmitter m) ≡ some p)

module _ (s : Sheet) (v : T (valid_alone s)) (transmitter : List ℕ) where
  -- the server's SSRC goes into four octets, so a message has one if its kind's rows take its values
  taken_out : (m : Sent) (k : Kind) → kind_with m.kind (kinds (numbers_of s)) ≡ some k
      → T (takes_all (grants is_one k.rows (values_out transmitter m)) k.rows (values_out transmitter m)) → Sendable s transmitter (some m)
  unfolding packet_of writable message_out table number_lines row_at value.numbers_of
  taken_out m k e t =
      let values = values_out transmitter m in
      let narrow-server : T (within 4 s.server) = lt→ltb s.server (256 ^ 4) (omega (arith, valid-within s v 0 (lit< tt))) in
      let takes_all = T_true (takes_all (grants is_one k.rows values) k.rows values) t in
      (packet_as k (message_out s.server transmitter m), rw (e, T_true (within 4 s.server) narrow-server, takes_all))

  -- and so has every answer's
  out-sendable : T (user_id transmitter) → (a : Answer) → Narrow (message_of a) → Sendable s transmitter (message_of a)
  unfolding kind_with kinds numbers_of values_out takes_all takes is_nothing may_lack may_have holds grants is_result is_one
  out-sendable u GrantedFirst t = taken_out _ _ refl tt
  out-sendable u Granted t = taken_out _ _ refl tt
  out-sendable u GrantedAgain t = taken_out _ _ refl tt
  out-sendable u (Rejected cause) t = taken_out _ _ refl (rw (T_true (within 2 cause) (lt→ltb cause 65536 t)) tt)
  out-sendable u Ended t = taken_out _ _ refl (rw (T_true (user_id transmitter) u) tt)
  out-sendable u EndedLast t = taken_out _ _ refl (rw (T_true (user_id transmitter) u) tt)
  out-sendable u Opened t = tt
  out-sendable u (EndRequested cause) t = taken_out _ _ refl (rw (T_true (within 2 cause) (lt→ltb cause 65536 t)) tt)
  out-sendable u Freed t = tt
  out-sendable u FreedWithAck t = taken_out _ _ refl tt
  out-sendable u ReleasedIdle t = tt
  out-sendable u ReleasedWatched t = tt
  out-sendable u ReleasedEnding t = tt
  out-sendable u Discarded t = tt

-- ---- what is sent

-- the packet in the room, where there is one
parcel-some : (room : ℕ) (o : Option (List ℕ)) (p : List ℕ) → parcel (room_for room o) ≡ gives (some p) → o ≡ some p
unfolding room_for
parcel-some room none p e = let z : ◌≡◌ {A = ℕ} 0 1 = cc in absurd (omega arith)
parcel-some room (some q) p e =
    pick-cases (λ (w : Made). parcel w ≡ gives (some p) → some q ≡ some p) (leb (length q) room) (made q) (refused 11)
    (λ t x. cc)
    (λ f x. cc)
    e

-- what is sent is the packet of the message
sent_is : (s : Sheet) (transmitter : List ℕ) (room : ℕ) (o : Option Sent) (p : List ℕ) → parcel_of s transmitter room o ≡ gives (some p)
    → (m : Meaning) × (map (message_out s.server transmitter) o ≡ some m) × (packet_of (numbers_of s) m ≡ some p)
unfolding parcel_of
sent_is s transmitter room none p e = let z : ◌≡◌ {A = ℕ} 0 1 = cc in absurd (omega arith)
sent_is s transmitter room (some m) p e = (message_out s.server transmitter m, refl, parcel-some room _ p e)

-- what is written for an answer, read back
pub sends_named : SendsNamed
unfolding sending_of
sends_named s users stream room a p e =
    let valid = check-gives (valid_with s users) 12 _ (some p) e in
    let on = check-gives (on_sheet (rules_of s) stream) 9 _ (some p) valid.1 in
    let w = sent_is s (user_of users stream) room (message_of a) p on.1 in
    let v = valid-alone s users valid.0 in
    let back = packet-reads s v w.0 p w.2 in
    (back.0, written-canonical s v w.0 p w.2, back.1 ∙ sym w.1 ∙ named-out s (user_of users stream) a)

-- a message that can be sent has one packet, whatever the room
sent_into : (s : Sheet) (transmitter : List ℕ) (o : Option Sent) (m : Meaning) → Sendable s transmitter o
    → map (message_out s.server transmitter) o ≡ some m
    → (p : List ℕ) × ((room : ℕ) → parcel_of s transmitter room o ≡ parcel (room_for room (some p)))
unfolding parcel_of
sent_into s transmitter none m w e = absurd (none-ne-some m e)
sent_into s transmitter (some x) m w e = (w.0, λ room. rw w.1)

-- where there is no message, none is sent
sent-none : (s : Sheet) (transmitter : List ℕ) (o : Option Sent) → map (message_out s.server transmitter) o ≡ none
    → (room : ℕ) → parcel_of s transmitter room o ≡ gives none
unfolding parcel_of
sent-none s transmitter none e room = refl
sent-none s transmitter (some x) e room = absurd (some-ne-none _ e)

-- what is sent under a valid sheet, on a stream of it
pub sends_exactly : SendsExactly
unfolding sending_of room_for
sends_exactly s users stream a v h t =
    let transmitter = user_of users stream in
    let named = named-out s transmitter a in
    let passes : (room : ℕ) → sending_of s users stream (message_of a) room ≡ parcel_of s transmitter room (message_of a) =
    λ room. sending-on s users stream (message_of a) room (T_true (valid_with s users) v) h in (
      (λ m e.
          let sendable = out-sendable s (valid-alone s users v) transmitter (user-right s users v stream h) a t in
          let w = sent_into s transmitter (message_of a) m sendable (named ∙ e) in (
            w.0,
            λ room. record {
              fits = λ l. passes room ∙ w.1 room ∙ rw (le-leb (length w.0) room l);
              short = λ l. passes room ∙ w.1 room ∙ rw (lt-leb (length w.0) room l);
            },
          )),
      λ e room. passes room ∙ sent-none s transmitter (message_of a) (named ∙ e) room,
    )

-- what is refused before
pub sending_refused : SendingRefused
sending_refused s users stream room a =
    let m = message_of a in
    (sending-invalid s users stream m room, λ v h. sending-off s users stream m room (T_true (valid_with s users) v) h)
