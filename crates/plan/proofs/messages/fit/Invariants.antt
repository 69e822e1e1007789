-- `plan::messages::fit` meets its contract. The invariant: the numbers fit just if those passed do and those behind them. Assumes nothing.
use mathlib.Core.Path.{◌≡◌}
use mathlib.Core.Bool.{◌&&◌}
use lib.ListN.{drop}
use Rattle.octets.specs.Choice.{every}
use Rattle.plan.specs.Packet.{fitting}
use Rattle.plan.proofs.Laws.Fitting.{short}
use Rattle.plan.proofs.messages.fit.Given as goal

abbrev pub invariant-loop-number : goal.invariant-loop-number
invariant-loop-number l = fitting l.fn.numbers ≡ (l.good && every short (drop l.number-index l.number-items))
