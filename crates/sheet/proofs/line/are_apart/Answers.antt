-- `sheet::line::are_apart` meets its contract. Assumes nothing.
use Rattle.std.proofs.Common.{ℕ, rules, tests, refl, ◌-◌}
use Rattle.std.proofs.lemmas.Iterator.{YieldsList-from_range}
use Rattle.std.proofs.lemmas.Iterator.Search.{all_from_yields_List}
use Rattle.octets.proofs.Ranges.{all_over}
use Rattle.sheet.specs.Table.{row_at}
use Rattle.sheet.specs.Inner.{apart}
use Rattle.sheet.proofs.line.are_apart.Goals as goal

pub returns : goal.returns
returns c =
    let a = c.args in
    let right = λ (k : ℕ). apart (row_at k).family a.lines a.numbers.now k in
    all_over right a.of.start a.of.end _
    (all_from_yields_List right _ _ _ c.all.ensures.ran (YieldsList-from_range a.of.start a.of.end (a.of.end - a.of.start) refl refl) (λ x b q k. search (rules, tests)))
