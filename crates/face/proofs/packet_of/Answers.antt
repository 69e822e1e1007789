-- `face::packet_of` meets its contract: what the part of the buffer was asked for is what the call gives (`wrote`). Assumes nothing.
use mathlib.Core.Path.{◌≡◌, refl, sym}
use Prim.Native.Nat.{ℕ}
use borrow.Author.Rules.{rules}
use lib.Seq.{length-take-le}
use Rattle.std.specs.Prelude.{Err}
use Rattle.sheet.specs.Value.{sheet_in}
use Rattle.outgoing.specs.Sending.{sending_in, octets_out}
use Rattle.rows.specs.Rows.{answer_in}
use Rattle.face.specs.Calls.{packet_says}
use Rattle.face.proofs.Laws.Told.{rowed-refuses}
use Rattle.face.proofs.Laws.Wrote.{wrote}
use Rattle.face.proofs.Laws.Writes.{sent, sending_in_lem}
use Rattle.face.proofs.packet_of.Goals as goal

pub slice_bounds-packet_lent-end-2 : goal.slice_bounds-packet_lent-end-2
slice_bounds-packet_lent-end-2 c = sym (length-take-le _ _ c.room_of-room.ensures.1)

pub returns-in_err-octets : goal.returns-in_err-octets
unfolding packet_says
returns-in_err-octets c =
    let a = c.args in
    let sheet = sheet_in a.sheet.now in
    let answer = answer_in a.answer.now in
    let bad : c.from_residual.result ≡ Err c.in_err-octets.field-0.0 = search rules in
    wrote (λ (room : ℕ). octets_out (sending_in sheet a.users.now a.stream answer room)) (sent sheet a.users.now a.stream answer)
    (sending_in_lem sheet a.users.now a.stream answer)
    a.out.now a.written.now c.room_of-room.result c.room_of-room.ensures.0 c.packet_lent.result _ _ _ c.packet_lent.ensures
    (rw (c.in_err-octets.was, bad) (rowed-refuses _ _ a.written.now _ refl))

pub returns : goal.returns
unfolding packet_says
returns c =
    let a = c.args in
    let sheet = sheet_in a.sheet.now in
    let answer = answer_in a.answer.now in
    wrote (λ (room : ℕ). octets_out (sending_in sheet a.users.now a.stream answer room)) (sent sheet a.users.now a.stream answer)
    (sending_in_lem sheet a.users.now a.stream answer)
    a.out.now a.written.now c.room_of-room.result c.room_of-room.ensures.0 c.packet_lent.result _ _ _ c.packet_lent.ensures
    (rw c.in_ok-octets.was c.put_number.ensures)
