-- `shown::print::line` meets its contract: the text of the packet on the line, or a refusal. Assumes nothing.
use Rattle.shown.proofs.Laws.Packets.{line_by-none, line_by-some}
use Rattle.shown.proofs.print.line.Goals as goal

pub returns-in_default : goal.returns-in_default
returns-in_default c =
    rw (line_by-none c.args.numbers c.args.line.now (rw c.in_default.is at c.packet_in.ensures), ← c.number.ensures) c.refusal.ensures

pub returns : goal.returns
returns c =
    rw (line_by-some c.args.numbers c.args.line.now c.in-Some.packet (rw c.in-Some.is at c.packet_in.ensures) _ c.as_slice-octets.ensures, ← c.read_by.ensures)
    c.reading.ensures
