-- `plan::standing::is_row` meets its contract: the numbers passed may each stand where they stand. Assumes nothing.
use mathlib.Core.Path.{sym, ◌∙◌}
use native.Mathlib.Omega.{arith}
use Rattle.plan.proofs.Laws.Rows.{row-stands, stands-end}
use Rattle.plan.proofs.standing.is_row.Goals as goal

pub loop-i-init : goal.loop-i-init
loop-i-init c = rw (← c.args.row.names_kind) (row-stands _ c.args.row.counted)

pub returns : goal.returns
returns c = sym (c.loop-i.invariant ∙ stands-end _ c.args.row.message.now c.loop-i.i (omega (arith, c.args.row.counted)))
