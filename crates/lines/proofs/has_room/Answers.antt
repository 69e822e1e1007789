-- `lines::has_room` meets its contract: a tenth of the buffer, rounded down, is compared, so that nothing wraps. Assumes nothing.
use Prim.Native.Nat.{◌-◌, ◌*◌, ◌/◌}
use native.Mathlib.Omega.{arith}
use lib.Dec.{leb, leb→le, le→leb}
use Rattle.octets.proofs.Choice.{test-eq}
use Rattle.lines.proofs.has_room.Goals as goal

pub returns : goal.returns
returns c =
    let a = c.args in
    let tenth = c.saturating_sub.result / 10 in
    test-eq (leb a.octets tenth) (leb (10 * a.octets) (a.out - a.at))
    (λ t. let h = leb→le a.octets tenth t in le→leb (10 * a.octets) (a.out - a.at) (omega arith))
    (λ t. let h = leb→le (10 * a.octets) (a.out - a.at) t in le→leb a.octets tenth (omega arith))
