-- `outgoing::packet_of` meets its contract: the sheet's numbers, lent, stand for it, and the answer's row for the answer. Assumes nothing.
use mathlib.Core.Path.{◌≡◌}
use borrow.Author.Rules.{rules}
use Rattle.sheet.specs.Table.{most_seats}
use Rattle.sheet.specs.Value.{sheet_in}
use Rattle.sheet.proofs.Laws.Values.{sheet_in-own}
use Rattle.outgoing.specs.Sending.{sending_in}
use Rattle.outgoing.proofs.packet_of.Goals as goal

pub returns : goal.returns
unfolding sending_in most_seats
returns c =
    -- the sheet is the one that the numbers stand for
    let own : sheet_in c.numbers_of.result ≡ c.args.sheet = sheet_in-own _ _ (search rules) c.numbers_of.ensures in
    rw (own, c.row_of.ensures.1, c.from.ensures) at c.packet_lent.ensures
