-- `writing::write` meets its contract: the sheet's numbers, lent, stand for it, and the message's row for the message. Assumes nothing.
use borrow.Author.Rules.{rules}
use mathlib.Core.Path.{◌≡◌}
use Rattle.sheet.specs.Table.{most_seats}
use Rattle.sheet.specs.Value.{sheet_in}
use Rattle.sheet.proofs.Laws.Values.{sheet_in-own}
use Rattle.writing.proofs.write.Goals as goal

-- the sheet is the one that its numbers stand for
pub returns : goal.returns
unfolding most_seats
returns c =
    let own : sheet_in c.numbers_of-numbers.result ≡ c.args.sheet = sheet_in-own _ _ (search rules) c.numbers_of-numbers.ensures in
    rw (own, c.row_of-row.ensures.1) at c.write_lent.ensures
