-- Laws of what an answer sends: the message that the code makes says what the answer is to send, so that the writer's answer is the
-- the answer's. Assumes nothing.
use mathlib.Core.Path.{◌≡◌, refl, sym, ap, ◌∙◌, subst}
use mathlib.Core.List.{List}
use mathlib.Core.Bool.{true, false}
use mathlib.Core.Option.{Option, none, some}
use Prim.Native.Nat.{ℕ, ◌+◌, ◌≤◌, ◌<◌}
use native.Mathlib.Omega.{arith}
use lib.ListN.{length, get_or}
use lib.Dec.{T, eqb, lit<}
use borrow.Author.Tests.{le-leb, lt-ltb, le-ltb, ne_eqb}
use Rattle.octets.proofs.Choice.{T_true, true-T, false-T}
use Rattle.sheet.specs.declared.Sheet.{Sheet}
use Rattle.sheet.specs.Value.{name_of, sheet_from, valid_with}
use Rattle.sheet.proofs.Laws.Rows.{length-name_of-le, take-name_of}
use Rattle.std.specs.Prelude.{None}
use Rattle.packet.specs.declared.Verdict.{Verdict}
use Rattle.packet.specs.declared.Verdict.TheVariants as verdict
use Rattle.packet.specs.declared.Message.{Message}
use Rattle.packet.specs.declared.Message.TheVariants.{ReceiveResponse, EndResponse, TransmissionEnd, Ack}
use Rattle.packet.specs.Message.{message_said}
use Rattle.packet.specs.Row.{no_number, columns, with_held, with_all, message_row, row_for, message_in}
use Rattle.packet.specs.Inner.{is_message}
use Rattle.packet.proofs.Laws.Rows.{own_row}
use Rattle.kinds.specs.Judge.{named}
use Rattle.packet.specs.Meaning.{spelt, value_in, meaning}
use Rattle.plan.specs.Packet.{fitting, packet_for}
use Rattle.writing.specs.Writing.{Made, made, refused, room_for, write_by}
use Rattle.streams.specs.declared.Answer.{Answer}
use Rattle.streams.specs.declared.Answer.TheVariants.{GrantedFirst, Granted, GrantedAgain, Rejected, Ended, EndedLast, Opened, EndRequested, Freed, FreedWithAck, ReleasedIdle, ReleasedWatched, ReleasedEnding, Discarded}
use Rattle.streams.specs.Answer.{Sent, message_of}
use Rattle.reception.specs.Steps.{gives, refuses}
use Rattle.sheet.specs.Find.{user_of}
use Rattle.rows.specs.Rows.{is_some, timers_sum, answer_row, answer_in}
use Rattle.rows.proofs.Laws.Answers.{NarrowAnswer, answer-length}
use Rattle.rows.proofs.Laws.Claims.{answers_stand}
use Rattle.outgoing.specs.Sending.{values_out, message_out, Parcel, parcel, parcel_of, sending_of, sending_in, octets_out}
use Rattle.outgoing.specs.Inner.{server_head, outgoing_of, row_out, Outgoes}

-- the name at the front of a row is the row's User ID
name-said : (row : List ℕ) → value_in row (named 0 (length (name_of row))) ≡ spelt (name_of row)
unfolding value_in
name-said row = rw (le-leb (0 + length (name_of row)) (length row) (omega (arith, length-name_of-le row)), take-name_of row)

-- what comes of a message with the row beside it in which its name lies
abbrev parcelOut : Sheet → List ℕ → ℕ → Option Message → Parcel
parcelOut s row room (some m) = parcel (room_for room (packet_for s (meaning row (message_said m))))
parcelOut s row room none = gives none

-- it is what the answer sends
sends : (s : Sheet) (row : List ℕ) (room : ℕ) (a : Answer)
    → parcel_of s (name_of row) room (message_of a) ≡ parcelOut s row room (outgoing_of s.server (length (name_of row)) a)
unfolding parcel_of message_out values_out packet_for meaning value_in
sends s row room GrantedFirst = refl
sends s row room Granted = refl
sends s row room GrantedAgain = refl
sends s row room (Rejected c) = refl
sends s row room Ended = rw (name-said row)
sends s row room EndedLast = rw (name-said row)
sends s row room Opened = refl
sends s row room (EndRequested c) = refl
sends s row room Freed = refl
sends s row room FreedWithAck = refl
sends s row room ReleasedIdle = refl
sends s row room ReleasedWatched = refl
sends s row room ReleasedEnding = refl
sends s row room Discarded = refl

-- ---- its row

-- a message's own row goes out for it
goes-out : (m : Message) → T (is_message m) → {row : List ℕ} → row ≡ row_for m → 0 < get_or row 0 0 → Outgoes (some m) row
goes-out m t e h = (h, (own_row refl t e).1)

-- a cause is a number
cause-number : (c : ℕ) → c < 65536 → eqb c no_number ≡ false
cause-number c h = ne_eqb c no_number (λ e. omega arith)

-- the row that is made of an answer's goes out for it
module _ (server len : ℕ) where
  abbrev response : Verdict → Message
  response v = ReceiveResponse (server_head server) v None

  abbrev end-response : Message
  end-response = EndResponse (server_head server) (record { at = 0; len = len })

  pub row_goes : (a : Answer) → NarrowAnswer a → Outgoes (outgoing_of server len a) (row_out server len (answer_row a))
  unfolding is_message message_row columns with_all with_held timers_sum
  row_goes GrantedFirst h = goes-out (response verdict.Granted) tt refl (lit< tt)
  row_goes Granted h = goes-out (response verdict.Granted) tt refl (lit< tt)
  row_goes GrantedAgain h = goes-out (response verdict.Granted) tt refl (lit< tt)
  row_goes (Rejected c) h = goes-out (response (verdict.Rejected c)) (rw (cause-number c h) tt) refl (lit< tt)
  row_goes Ended h = goes-out end-response tt refl (lit< tt)
  row_goes EndedLast h = goes-out end-response tt refl (lit< tt)
  row_goes Opened h = refl
  row_goes (EndRequested c) h = goes-out (TransmissionEnd (server_head server) c None) (rw (cause-number c h) tt) refl (lit< tt)
  row_goes Freed h = refl
  row_goes FreedWithAck h = goes-out (Ack (server_head server) 2 1) tt refl (lit< tt)
  row_goes ReleasedIdle h = refl
  row_goes ReleasedWatched h = refl
  row_goes ReleasedEnding h = refl
  row_goes Discarded h = refl

-- ---- what is written

-- what was made is told and put alike
out-parcel : (w : Made) → octets_out (parcel w) ≡ w
out-parcel (made p) = refl
out-parcel (refused number) = refl

module _ (row : List ℕ) (a : Answer) (is : answer_in row ≡ some a) where
  -- the row is the answer's, whose cause has 16 bits
  own : NarrowAnswer a × (answer_row a ≡ row)
  own = (answers_stand row a).0 is

  -- and has six numbers
  pub answer-counted : length row ≡ 6
  answer-counted = ap length (sym own.1) ∙ answer-length a

  -- the message of this row goes out
  goes : (server len : ℕ) → Outgoes (outgoing_of server len a) (row_out server len row)
  goes server len = subst (λ (r : List ℕ). Outgoes (outgoing_of server len a) (row_out server len r)) own.1 (row_goes server len a own.0)

  -- what the writer answers is what the answer sends
  pub sends-message : (name out ns : List ℕ) → T (fitting ns) → (get_or row 1 0 ≡ 0 → ⊥)
      → octets_out (parcel_of (sheet_from ns) (name_of name) (length out) (message_of a))
      ≡ write_by ns (message_in (row_out (sheet_from ns).server (length (name_of name)) row)) name (length out)
  unfolding write_by
  sends-message name out ns t sends-one =
      let s = sheet_from ns in
      let len = length (name_of name) in
      rw (sends s name (length out) a) (by (outgoing_of s.server len a) (goes s.server len))
    where
      by : (o : Option Message) → Outgoes o (row_out (sheet_from ns).server (length (name_of name)) row)
          → octets_out (parcelOut (sheet_from ns) name (length out) o)
          ≡ write_by ns (message_in (row_out (sheet_from ns).server (length (name_of name)) row)) name (length out)
      by none z = absurd (sends-one z)
      by (some m) e = rw (T_true (fitting ns) t, e.1, out-parcel)

  -- or it sends nothing
  pub sends-nothing : (name out : List ℕ) (s : Sheet) → get_or row 1 0 ≡ 0 → parcel_of s (name_of name) (length out) (message_of a) ≡ gives none
  sends-nothing name out s none-sent =
      let len = length (name_of name) in
      sends s name (length out) a ∙ by (outgoing_of s.server len a) (goes s.server len)
    where
      by : (o : Option Message) → Outgoes o (row_out s.server (length (name_of name)) row) → parcelOut s name (length out) o ≡ gives none
      by none z = refl
      by (some m) e = absurd (omega (arith, e.0))

-- ---- the checks

module _ (s : Sheet) (users : List (List ℕ)) (stream : ℕ) (message : Option Sent) (room : ℕ) where
  -- no sheet reads to the sheet and the User IDs
  pub sending-invalid : valid_with s users ≡ false → sending_of s users stream message room ≡ refuses 12 0
  unfolding sending_of
  sending-invalid e = rw e

  module _ (e : valid_with s users ≡ true) where
    -- the stream is not on the sheet
    pub sending-off : s.seats ≤ stream → sending_of s users stream message room ≡ refuses 9 0
    unfolding sending_of
    sending-off h = rw (e, le-ltb stream s.seats h)

    -- it is
    pub sending-on : stream < s.seats → sending_of s users stream message room ≡ parcel_of s (user_of users stream) room message
    unfolding sending_of
    sending-on h = rw (e, lt-ltb stream s.seats h)

-- ---- the checks where a row may stand for no answer

-- there is an answer, or there is none
pub is-some : {A : Type 0} (o : Option A) → is_some o ≡ true → (x : A) × (o ≡ some x)
is-some none e = absurd (true-T false e)
is-some (some x) e = (x, refl)

module _ (s : Sheet) (users : List (List ℕ)) (stream room : ℕ) where
  -- no sheet reads to the sheet and the User IDs
  pub in-invalid : (o : Option Answer) → valid_with s users ≡ false → sending_in s users stream o room ≡ refuses 12 0
  unfolding sending_in
  in-invalid none e = rw e
  in-invalid (some a) e = sending-invalid s users stream (message_of a) room e

  -- the stream is not on the sheet
  pub in-off : (o : Option Answer) → valid_with s users ≡ true → s.seats ≤ stream → sending_in s users stream o room ≡ refuses 9 0
  unfolding sending_in
  in-off none e h = rw e
  in-off (some a) e h = sending-off s users stream (message_of a) room e h

  -- there is no answer
  pub in-none : (o : Option Answer) → valid_with s users ≡ true → is_some o ≡ false → sending_in s users stream o room ≡ refuses 9 0
  unfolding sending_in
  in-none none e n = rw e
  in-none (some a) e n = absurd (false-T true n tt)

  -- all is right
  pub in_on : (o : Option Answer) (a : Answer) → o ≡ some a → valid_with s users ≡ true → stream < s.seats
      → sending_in s users stream o room ≡ parcel_of s (user_of users stream) room (message_of a)
  unfolding sending_in
  in_on o a is e h = rw is (sending-on s users stream (message_of a) room e h)
