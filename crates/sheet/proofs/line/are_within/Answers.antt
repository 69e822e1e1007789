-- `sheet::line::are_within` meets its contract: each line's number is held against the definition's row. Assumes nothing.
use Rattle.std.proofs.Common.{ℕ, true, ◌&&◌, rules, tests, arith, refl, get_or}
use Rattle.std.proofs.lemmas.Iterator.{YieldsList-from_range}
use Rattle.std.proofs.lemmas.Iterator.Consumers.{fold_from_yields_List}
use Rattle.octets.proofs.Ranges.{fold_over}
use Rattle.sheet.specs.Table.{table, number_lines}
use Rattle.sheet.specs.Inner.{within}
use Rattle.sheet.proofs.Laws.Rules.{rule-within}
use Rattle.sheet.proofs.line.are_within.Goals as goal

pub returns : goal.returns
unfolding table number_lines
returns c =
    let right = λ (k : ℕ). within k (get_or c.args.numbers.now k 0) in
    let each = fold_over right 0 11 _
    (fold_from_yields_List _ (λ good k. good && right k) true _ c.fold.ensures.ran (YieldsList-from_range 0 11 11 refl refl) (λ a x b q k. search (rules, tests, rule-within))) in
    ((λ t k h. each.0 t k h (omega arith)), λ f. each.1 (λ k h l. f k h))
