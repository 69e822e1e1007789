-- `sheet::table::rule_of` meets its contract: each arm's row is the definition's, by one test that is computed there.
-- Assumes nothing.
use Rattle.std.proofs.Common.{rules}
use Rattle.sheet.specs.Table.{table, seat_row, number_lines, row_at}
use Rattle.sheet.proofs.Laws.Rules.{right, other, rule_seat}
use Rattle.sheet.proofs.table.rule_of.Goals as goal

pub returns-in_default : goal.returns-in_default
unfolding right other row_at table seat_row number_lines
returns-in_default c = rule_seat _ tt (search rules)
