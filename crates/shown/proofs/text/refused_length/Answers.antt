-- `shown::text::refused_length` meets its contract: the name, the number and LF. Assumes nothing.
use native.Mathlib.Omega.{arith}
use lib.ListN.{length-append}
use Rattle.shown.specs.Line.{number_line, text_of}
use Rattle.shown.proofs.text.refused_length.Goals as goal

pub returns : goal.returns
unfolding text_of number_line
returns c = simp length-append (omega arith)
