-- `shown::print::reading` meets its contract: the text has no room, or is put at the start. Assumes nothing.
use native.Mathlib.Omega.{arith}
use Rattle.packet.specs.Message.{read_said}
use Rattle.shown.specs.Line.{text_of}
use Rattle.shown.proofs.Laws.Fits.{printed, not_printed}
use Rattle.shown.proofs.print.reading.Goals as goal

pub returns-then-out-length_of : goal.returns-then-out-length_of
returns-then-out-length_of c =
    not_printed (text_of c.args.packet.now (read_said c.args.read)) c.args.out.now (omega arith)

pub returns : goal.returns
returns c =
    printed (text_of c.args.packet.now (read_said c.args.read)) c.args.out.now (omega arith) c.put.result c.put.new.out c.put.ensures
