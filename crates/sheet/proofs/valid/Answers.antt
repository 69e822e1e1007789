-- `sheet::valid` meets its contract: the struct is judged by its numbers and the SSRCs behind them.
-- Assumes nothing.
use borrow.Author.Rules.{rules}
use Rattle.sheet.specs.Table.{most_seats}
use Rattle.sheet.proofs.Laws.Values.{judged-own}
use Rattle.sheet.proofs.valid.Goals as goal

pub returns : goal.returns
unfolding most_seats
returns c = judged-own _ _ _ (search rules) c.numbers_of.ensures c.are_valid.ensures
