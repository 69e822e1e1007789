-- `sheet::line::is_taken` meets its contract: no line before the eldest is of the family, so those from it on tell (`taken_any`). Assumes nothing.
use Rattle.std.proofs.Common.{sym, ◌∙◌, rules, tests, refl, length, ◌-◌}
use Rattle.std.proofs.lemmas.Iterator.{YieldsList-from_range}
use Rattle.std.proofs.lemmas.Iterator.Search.{any_from_yields_List}
use Rattle.sheet.proofs.Laws.Numbers.{has, taken_any}
use Rattle.sheet.proofs.line.is_taken.Goals as goal

pub returns : goal.returns
returns c =
    let ns = c.args.earlier.now in
    let n = c.args.n in
    let r = c.rule_of-family.result in
    let rule = c.rule_of-family.ensures in
    any_from_yields_List (has r.family n ns) _ _ _ c.any.ensures.ran (YieldsList-from_range r.eldest (length ns) (length ns - r.eldest) refl refl) (λ x b q k. search (rules, tests))
    ∙ rw rule.family (sym (taken_any _ n ns r.eldest rule.eldest))
