-- `streams::table::end` meets its contract: a seat with a bit is one of the eight (`bit_below`). Assumes nothing.
use mathlib.Core.Path.{sym, ◌∙◌}
use native.Mathlib.Omega.{arith}
use Rattle.octets.proofs.Choice.{true-T}
use Rattle.streams.proofs.Laws.Bits.{bit_below}
use Rattle.streams.proofs.table.end.Goals as goal

pub without-left-requires : goal.without-left-requires
without-left-requires c = bit_below 8 c.args.own.receivers c.args.by (omega arith) (true-T _ (sym c.has.ensures ∙ c.if-not-has.false))
