-- `field_reader::reader_at` meets its contract, by what the checks say. Assumes nothing.
use Prim.Native.Nat.{ℕ}
use Rattle.field_reader.specs.Reader.{start_of}
use Rattle.fields.proofs.Laws.Checks.{past_checks-headed, checked_ok, checked-number}
use Rattle.field_reader.proofs.reader_at.Goals as goal

pub returns-in-Ok : goal.returns-in-Ok
unfolding start_of
returns-in-Ok c =
    let p = c.args.packet.now in
    rw (past_checks-headed (λ (number : ℕ). 0) p c.args.at (checked_ok p c.in-Ok.ensures), ← c.in-Ok.ensures)

pub returns-in-Err : goal.returns-in-Err
unfolding start_of
returns-in-Err c =
    let p = c.args.packet.now in
    rw (checked-number (λ (number : ℕ). 0) p c.args.at c.in-Err.refusal c.in-Err.ensures, ← c.in-Err.ensures)
