-- `seats::valid_with` meets its contract: the struct is judged by itself, and then row by row. Assumes nothing.
use mathlib.Core.Path.{◌≡◌, sym, ◌∙◌}
use borrow.Author.Rules.{rules}
use lib.ListN.{length}
use Rattle.octets.proofs.Choice.{true-T}
use Rattle.sheet.specs.Table.{most_seats}
use Rattle.sheet.proofs.Laws.Values.{rows-judged, not-alone}
use Rattle.seats.proofs.valid_with.Goals as goal

pub returns-else-valid : goal.returns-else-valid
returns-else-valid c =
    let a = c.args in
    c.if-valid.false ∙ sym (not-alone a.sheet a.users.now (sym c.valid.ensures ∙ c.if-valid.false))

pub returns-then-valid : goal.returns-then-valid
unfolding most_seats
returns-then-valid c =
    let a = c.args in
    -- it has eight SSRCs
    let eight : length a.sheet.ssrcs ≡ most_seats = search rules in
    let alone = true-T _ (sym c.valid.ensures ∙ c.if-valid.true) in
    rows-judged a.sheet a.users.now eight c.are_good_rows.ensures.0 alone _ c.are_good_rows.ensures.1
