-- `shown::decimal::length_of` meets its contract: a digit for each power of ten up to the number. Assumes nothing.
use mathlib.Core.Path.{sym, ◌∙◌}
use native.Mathlib.Omega.{arith}
use Rattle.shown.proofs.Laws.Digits.{digits, digits-one}
use Rattle.shown.proofs.decimal.length_of.Goals as goal

pub returns : goal.returns
returns c =
    let n = digits c.ilog10.result c.max.result c.ilog10.ensures.power_le c.ilog10.ensures.next_power_gt in
    (sym (rw c.max.ensures at n) ∙ digits-one c.args.n, omega (arith, c.ilog10.ensures.bound))
