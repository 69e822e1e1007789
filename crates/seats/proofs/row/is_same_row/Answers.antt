-- `seats::row::is_same_row` meets its contract: rows whose first octets differ are not the same. Assumes nothing.
use mathlib.Core.Path.{sym, ◌∙◌}
use Rattle.sheet.proofs.Laws.Rows.{same-take-false}
use Rattle.seats.proofs.row.is_same_row.Goals as goal

pub returns-else-is_same : goal.returns-else-is_same
returns-else-is_same c =
    c.if-is_same.false ∙ sym (same-take-false 32 c.args.a.now c.args.b.now (sym c.is_same.ensures ∙ c.if-is_same.false))
