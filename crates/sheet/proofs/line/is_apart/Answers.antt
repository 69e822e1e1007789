-- `sheet::line::is_apart` meets its contract: the two cases are the definition's. Assumes nothing.
use borrow.Author.Tests.{le-leb, lt-leb}
use native.Mathlib.Omega.{arith}
use lib.Seq.{length-take-le}
use Rattle.sheet.specs.Inner.{apart}
use Rattle.sheet.proofs.line.is_apart.Goals as goal

pub returns-then-k-lines : goal.returns-then-k-lines
unfolding apart
returns-then-k-lines c = rw (lt-leb _ _ c.if-k-lines.true, c.is_taken.ensures, length-take-le c.args.k c.args.numbers.now (omega arith))

pub returns-else-k-lines : goal.returns-else-k-lines
unfolding apart
returns-else-k-lines c = rw (le-leb _ _ c.if-k-lines.false)
