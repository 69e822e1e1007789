-- `rows::is_row` meets its contract: number by number. Assumes nothing.
use borrow.Author.Rules.{rules}
use borrow.Author.Tests.{tests}
use Rattle.std.proofs.lemmas.Iterator.{YieldsList-from_slice, YieldsList-from_zip, same_from_all}
use Rattle.rows.proofs.is_row.Goals as goal

pub returns-then-row : goal.returns-then-row
returns-then-row g c =
    same_from_all c.all.new.self _ _ _ _ c.all.ensures.ran
    (YieldsList-from_zip (YieldsList-from_slice c.args.row.now cc) (YieldsList-from_slice c.args.numbers.now cc))
    (search rules)
    (λ x q k. search (rules, tests))
    (λ x q k. search (rules, tests))
