-- `mcvlook::gather` meets its contract: there is room for any piece behind what is gathered, so that `look::step` prints all of it there.
-- Assumes nothing.
use native.Mathlib.Omega.{arith}
use Rattle.mcvlook.proofs.Laws.{gathers-step, step-not-refused}
use Rattle.mcvlook.proofs.gather.Goals as goal

pub unreachable-requires : goal.unreachable-requires
unreachable-requires c =
    let a = c.args in
    let less = a.turn.less in
    step-not-refused a.out.now 196608 c.told-out a.turn.gathered (omega arith) a.turn.look a.piece.now (omega arith) c.step.result c.step.new.out c.step.ensures
    c.in_default.not-Ok

pub returns : goal.returns
returns c =
    let a = c.args in
    let less = a.turn.less in
    gathers-step a.out.now 196608 c.told-out a.turn.gathered (omega arith) a.turn.look a.piece.now (omega arith) c.step.result c.step.new.out c.step.ensures
    c.step.auto.out c.in-Ok.stepped c.in-Ok.is
