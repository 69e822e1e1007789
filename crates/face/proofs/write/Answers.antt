-- `face::write` meets its contract: what the part of the buffer was asked for is what the call gives (`wrote`). Assumes nothing.
use mathlib.Core.Path.{◌≡◌, refl, sym}
use Prim.Native.Nat.{ℕ}
use borrow.Author.Rules.{rules}
use lib.Seq.{length-take-le}
use Rattle.std.specs.Prelude.{Err}
use Rattle.sheet.specs.Value.{sheet_in}
use Rattle.packet.specs.Row.{message_in}
use Rattle.writing.specs.Writing.{write_of}
use Rattle.face.specs.Calls.{write_says}
use Rattle.face.proofs.Laws.Told.{rowed-refuses}
use Rattle.face.proofs.Laws.Wrote.{wrote}
use Rattle.face.proofs.Laws.Writes.{written, written_in}
use Rattle.face.proofs.write.Goals as goal

pub slice_bounds-write_lent-end-2 : goal.slice_bounds-write_lent-end-2
slice_bounds-write_lent-end-2 c = sym (length-take-le _ _ c.room_of-room.ensures.1)

pub returns-in_err-octets : goal.returns-in_err-octets
unfolding write_says
returns-in_err-octets c =
    let a = c.args in
    let sheet = sheet_in a.sheet.now in
    let message = message_in a.message.now in
    let bad : c.from_residual.result ≡ Err c.in_err-octets.field-0.0 = search rules in
    wrote (λ (room : ℕ). write_of sheet message a.names.now room) (written sheet message a.names.now) (written_in sheet message a.names.now)
    a.out.now a.written.now c.room_of-room.result c.room_of-room.ensures.0 c.write_lent.result _ _ _ c.write_lent.ensures
    (rw (c.in_err-octets.was, bad) (rowed-refuses _ _ a.written.now _ refl))

pub returns : goal.returns
unfolding write_says
returns c =
    let a = c.args in
    let sheet = sheet_in a.sheet.now in
    let message = message_in a.message.now in
    wrote (λ (room : ℕ). write_of sheet message a.names.now room) (written sheet message a.names.now) (written_in sheet message a.names.now)
    a.out.now a.written.now c.room_of-room.result c.room_of-room.ensures.0 c.write_lent.result _ _ _ c.write_lent.ensures
    (rw c.in_ok-octets.was c.put_number.ensures)
