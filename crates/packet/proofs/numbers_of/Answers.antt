-- `packet::numbers_of` meets its contract: the sheet's numbers, lent, stand for it. Assumes nothing.
use borrow.Author.Rules.{rules}
use Rattle.sheet.specs.Table.{most_seats}
use Rattle.sheet.proofs.Laws.Values.{sheet_in-own}
use Rattle.packet.proofs.numbers_of.Goals as goal

pub returns : goal.returns
unfolding most_seats
returns c = rw (c.numbers_in.ensures, sheet_in-own _ _ (search rules) c.numbers_of.ensures)
