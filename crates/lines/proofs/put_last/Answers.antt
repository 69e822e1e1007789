-- `lines::put_last` meets its contract: what is held is the line that is begun. Assumes nothing.
use mathlib.Core.Path.{sym, ◌∙◌}
use borrow.Author.Tests.{eqb-false}
use lib.ListN.{length}
use Rattle.lines.specs.Pieces.{held_in}
use Rattle.lines.proofs.Laws.Held.{last_some}
use Rattle.lines.proofs.put_last.Goals as goal

pub returns : goal.returns
returns c =
    let octets = held_in c.args.held in
    let some = eqb-false (length octets) 0 (rw c.as_slice-octets.ensures at (sym c.is_empty.ensures ∙ c.if-is_empty.false)) in
    rw (last_some c.args.numbers octets some) (rw c.as_slice-octets.ensures at c.put.ensures)
