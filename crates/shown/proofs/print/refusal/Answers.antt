-- `shown::print::refusal` meets its contract: the text has no room, or is put at the start. Assumes nothing.
use native.Mathlib.Omega.{arith}
use mathlib.Core.List.{[]}
use Rattle.shown.specs.Line.{text_of}
use Rattle.kinds.specs.Reading.{refused}
use Rattle.shown.proofs.Laws.Fits.{printed, not_printed}
use Rattle.shown.proofs.print.refusal.Goals as goal

pub returns-then-out-refused_length : goal.returns-then-out-refused_length
returns-then-out-refused_length c = not_printed (text_of [] (refused c.args.number 0)) c.args.out.now (omega arith)

pub returns : goal.returns
returns c =
    let put = c.put_refused.ensures in
    printed (text_of [] (refused c.args.number 0)) c.args.out.now (omega arith) c.put_refused.result c.put_refused.new.out put
