-- `shown::values::put_value` meets its contract, by what the value is. Assumes nothing.
use mathlib.Core.Path.{refl, sym}
use native.Mathlib.Omega.{arith}
use Rattle.shown.specs.Line.{value_text}
use Rattle.octets.proofs.Buffer.{put_at-one}
use Rattle.shown.proofs.values.put_value.Goals as goal

pub bounds-out-at : goal.bounds-out-at
unfolding value_text
bounds-out-at c =
    let room = rw c.in-Absent.is at c.requires in
    omega arith

pub put-requires : goal.put-requires
unfolding value_text
put-requires c = rw c.in-Given.is at c.requires

pub returns-in-Absent : goal.returns-in-Absent
unfolding value_text
returns-in-Absent c =
    rw c.in-Absent.is (sym (put_at-one c.args.out.now c.args.at 45), refl)

pub returns-in-Given : goal.returns-in-Given
unfolding value_text
returns-in-Given c = rw c.in-Given.is c.put.ensures

pub returns-in-Named : goal.returns-in-Named
unfolding value_text
returns-in-Named c =
    rw (c.in-Named.is, ← c.octets_of-octets.ensures) (c.put_octets.ensures, refl)
