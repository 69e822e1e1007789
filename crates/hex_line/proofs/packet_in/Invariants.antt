-- `hex_line::packet_in` meets its contract. The invariant: `right` tells whether the first i pairs of the line are digits, and the octets are what they
-- make if so.
use Rattle.hex_line.proofs.Laws.Pairs.{Pairs}
use Rattle.hex_line.proofs.packet_in.Given as goal

abbrev pub invariant-loop-i : goal.invariant-loop-i
invariant-loop-i l = Pairs l.line l.right l.octets l.i
