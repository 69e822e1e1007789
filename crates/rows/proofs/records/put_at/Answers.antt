-- `rows::records::put_at` meets its contract: two stores where there is room for both. Assumes nothing.
use mathlib.Core.Path.{sym}
use native.Mathlib.Omega.{arith}
use lib.ListN.{length-set}
use Rattle.octets.proofs.Buffer.{put_at-no_room}
use Rattle.rows.proofs.Laws.Put.{put_two}
use Rattle.rows.proofs.records.put_at.Goals as goal

pub returns-then-octets-at : goal.returns-then-octets-at
returns-then-octets-at c = rw (← c.from-at.ensures) (sym (put_at-no_room _ _ _ c.if-octets-at.true))

pub bounds-octets-at-2 : goal.bounds-octets-at-2
bounds-octets-at-2 c = simp length-set (omega arith)

pub returns : goal.returns
returns c = rw (c.from.ensures, c.from-at.ensures) (put_two _ _ _ _ (omega arith))
