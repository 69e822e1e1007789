-- `packet::numbers_in` meets its contract: field by field, the struct being that with the numbers or that of zeros.
-- Assumes nothing.
use mathlib.Core.Path.{sym, ap}
use Rattle.sheet.specs.Value.{sheet_by, sheet_from}
use Rattle.sheet.proofs.Laws.Values.{sheet_in-counted, sheet_in-other}
use Rattle.kinds.specs.Kind.{numbers_of}
use Rattle.packet.proofs.numbers_in.Goals as goal

pub returns-then-numbers-ne-LINES : goal.returns-then-numbers-ne-LINES
unfolding numbers_of sheet_from sheet_by
returns-then-numbers-ne-LINES c = sym (ap numbers_of (sheet_in-other _ c.if-numbers-ne-LINES.true))

pub returns : goal.returns
unfolding numbers_of sheet_from sheet_by
returns c = sym (ap numbers_of (sheet_in-counted _ c.if-numbers-ne-LINES.false))
