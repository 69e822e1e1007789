-- `shown::values::value_length` meets its contract, by what the value is. Assumes nothing.
use mathlib.Core.Path.{refl, ap}
use native.Mathlib.Nat.{min-le_left}
use native.Mathlib.Omega.{arith}
use lib.ListN.{length, drop, length-take}
use Rattle.shown.specs.Line.{value_text}
use Rattle.shown.proofs.values.value_length.Goals as goal

pub returns-in-Absent : goal.returns-in-Absent
unfolding value_text
returns-in-Absent c = rw c.in-Absent.is (refl, omega arith)

pub returns-in-Given : goal.returns-in-Given
unfolding value_text
returns-in-Given c = rw c.in-Given.is (c.length_of.ensures.0, omega arith)

pub returns-in-Named : goal.returns-in-Named
unfolding value_text
returns-in-Named c =
    let name = c.in-Named.name in
    let n = min-le_left name.len (length (drop name.at c.args.packet.now)) in
    rw c.in-Named.is (ap length c.octets_of.ensures, rw (c.octets_of.ensures, length-take) (omega arith))
