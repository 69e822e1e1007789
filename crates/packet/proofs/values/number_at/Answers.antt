-- `packet::values::number_at` meets its contract: the two octets at the front of the value, taken by themselves (`big_at-two`).
-- Assumes nothing.
use Prim.Native.Nat.{◌+◌}
use native.Mathlib.Nat.{add_assoc}
use Rattle.octets.proofs.Big.{big_at-two}
use Rattle.packet.proofs.values.number_at.Goals as goal

pub returns : goal.returns
returns c =
    let a = c.args in
    rw (c.u16_of.ensures, ← (big_at-two a.packet.now (a.at + 2)), add_assoc)
