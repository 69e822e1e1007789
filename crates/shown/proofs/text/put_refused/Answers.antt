-- `shown::text::put_refused` meets its contract: a name and a number on a line. Assumes nothing.
use Rattle.shown.specs.Line.{number_line, text_of}
use Rattle.shown.proofs.text.put_refused.Goals as goal

pub put_line-requires : goal.put_line-requires
unfolding text_of number_line
put_line-requires c = c.requires

pub returns : goal.returns
unfolding text_of number_line
returns c = c.put_line.ensures
