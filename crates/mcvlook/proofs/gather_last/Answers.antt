-- `mcvlook::gather_last` meets its contract: there is room for the last lines behind what is gathered, so that `look::end` refuses nothing.
-- Assumes nothing.
use native.Mathlib.Omega.{arith}
use Rattle.mcvlook.proofs.Laws.{gathers-end, end-not-refused}
use Rattle.mcvlook.proofs.gather_last.Goals as goal

pub unreachable-requires : goal.unreachable-requires
unreachable-requires c =
    let a = c.args in
    let less = a.turn.less in
    end-not-refused a.out.now 196608 c.told-out a.turn.gathered (omega arith) a.turn.look (omega arith) c.end.result c.end.new.out c.end.ensures c.in_default.not-Ok

pub overflow_add-result : goal.overflow_add-result
overflow_add-result c =
    let a = c.args in
    let less = a.turn.less in
    omega (
      arith,
      (gathers-end a.out.now 196608 c.told-out a.turn.gathered (omega arith) a.turn.look (omega arith) c.end.result c.end.new.out c.end.ensures c.end.auto.out
          c.in-Ok.octets c.in-Ok.is).fits,
    )

pub returns : goal.returns
returns c =
    let a = c.args in
    let less = a.turn.less in
    gathers-end a.out.now 196608 c.told-out a.turn.gathered (omega arith) a.turn.look (omega arith) c.end.result c.end.new.out c.end.ensures c.end.auto.out
    c.in-Ok.octets c.in-Ok.is
