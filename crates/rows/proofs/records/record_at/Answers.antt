-- `rows::records::record_at` meets its contract: the stream's own two octets (`own_at`), or none (`own-past`). Assumes nothing.
use mathlib.Core.Path.{sym, ◌∙◌}
use native.Mathlib.Omega.{arith}
use Rattle.rows.proofs.Laws.Records.{own_at, own-past}
use Rattle.rows.proofs.records.record_at.Goals as goal

pub returns-then-octets-at : goal.returns-then-octets-at
returns-then-octets-at c = rw (← c.from-at.ensures) (c.free.ensures ∙ sym (own-past _ _ c.if-octets-at.true))

pub returns : goal.returns
returns c = rw (← c.from-at.ensures) (c.record_of.ensures ∙ sym (own_at _ _ (omega arith)))
