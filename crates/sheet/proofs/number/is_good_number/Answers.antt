-- `sheet::number::is_good_number` meets its contract: the number is held against the line's own row. Assumes nothing.
use mathlib.Core.Path.{sym, ◌∙◌}
use borrow.Author.Tests.{leb-true}
use native.Mathlib.Omega.{arith}
use lib.ListN.{length}
use lib.Dec.{leb}
use Rattle.octets.proofs.Choice.{and-true_right}
use Rattle.sheet.specs.Table.{row_at}
use Rattle.sheet.proofs.Laws.Rules.{greatest-cap, rule-within}
use Rattle.sheet.proofs.Laws.Numbers.{good_number-by}
use Rattle.sheet.proofs.number.is_good_number.Goals as goal

pub overflow_cast-n : goal.overflow_cast-n
overflow_cast-n c =
    let n = c.args.n in
    let k = length c.args.earlier.now in
    let r = row_at k in
    omega (arith, greatest-cap k, leb-true n r.greatest (and-true_right (leb r.least n) _ (sym (rule-within c.rule_of.ensures n c.allows.ensures) ∙ c.if-allows.true)))

pub returns-then-allows : goal.returns-then-allows
returns-then-allows c =
    rw (c.is_taken.ensures, good_number-by, ← rule-within c.rule_of.ensures c.args.n c.allows.ensures, c.if-allows.true)

pub returns-else-allows : goal.returns-else-allows
returns-else-allows c = rw (good_number-by, ← rule-within c.rule_of.ensures c.args.n c.allows.ensures, c.if-allows.false)
