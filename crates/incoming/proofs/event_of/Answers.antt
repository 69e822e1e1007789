-- `incoming::event_of` meets its contract: the sheet's numbers, lent, stand for it. Assumes nothing.
use mathlib.Core.Path.{◌≡◌}
use borrow.Author.Rules.{rules}
use Rattle.sheet.specs.Table.{most_seats}
use Rattle.sheet.specs.Value.{sheet_in}
use Rattle.sheet.proofs.Laws.Values.{sheet_in-own}
use Rattle.incoming.proofs.event_of.Goals as goal

pub returns : goal.returns
unfolding most_seats
returns c =
    let own : sheet_in c.numbers_of.result ≡ c.args.sheet = sheet_in-own _ _ (search rules) c.numbers_of.ensures in
    rw own at c.event_lent.ensures
