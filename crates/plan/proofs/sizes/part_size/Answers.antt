-- `plan::sizes::part_size` meets its contract: a 32-bit length, with its two octets before it, filled up to whole words. Assumes nothing.
use native.Mathlib.Omega.{arith}
use Rattle.fields.specs.Walk.{to_word}
use Rattle.plan.proofs.sizes.part_size.Goals as goal

pub returns-in-Named : goal.returns-in-Named
unfolding to_word
returns-in-Named c = rw c.in-Named.is (c.size_of.ensures, omega (arith, c.size_of.ensures))
