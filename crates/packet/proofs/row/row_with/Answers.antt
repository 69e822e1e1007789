-- `packet::row::row_with` meets its contract: its numbers one by one. Assumes nothing.
use Rattle.packet.proofs.Laws.Rows.{flag-byte}
use Rattle.packet.proofs.row.row_with.Goals as goal

pub returns : goal.returns
returns c = rw flag-byte
