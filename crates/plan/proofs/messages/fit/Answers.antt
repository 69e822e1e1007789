-- `plan::messages::fit` meets its contract. The invariant: the numbers fit just if those passed do and those behind them. Assumes nothing.
use mathlib.Core.Path.{◌∙◌}
use mathlib.Core.Bool.{and_comm}
use lib.ListN.{get_or}
use lib.Dec.{ltb}
use Rattle.octets.specs.Choice.{every}
use Rattle.sheet.specs.Table.{table, number_lines, most_seats}
use Rattle.sheet.specs.Value.{sheet_from}
use Rattle.sheet.proofs.Laws.Values.{numbers-sheet_from}
use Rattle.plan.proofs.Laws.Fitting.{short, messages, fits-is, fitting-is}
use Rattle.plan.proofs.messages.fit.Goals as goal

pub loop-number-init : goal.loop-number-init
unfolding number_lines table most_seats
loop-number-init c =
    let ns = c.args.numbers.now in
    fitting-is ns c.told-numbers
    ∙ fits-is (sheet_from ns) ns (numbers-sheet_from ns c.told-numbers)
    ∙ and_comm (every short (messages ns)) (ltb (get_or ns 9 0) 192)
