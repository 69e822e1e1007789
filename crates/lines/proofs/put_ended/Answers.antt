-- `lines::put_ended` meets its contract. The invariant: the lines in front of what is left are printed, and there is room for those in it.
-- Assumes nothing.
use Prim.Native.Nat.{◌+◌}
use Rattle.lines.proofs.Laws.Pieces.{found, not_found, behind_all, upto-none, upto_next, upto-all}
use Rattle.lines.proofs.put_ended.Goals as goal

pub loop-lf-init : goal.loop-lf-init
loop-lf-init c = upto-none c.args.numbers c.args.piece.now c.args.out.now c.args.at c.requires

pub loop-lf-preserved : goal.loop-lf-preserved
loop-lf-preserved c =
    let a = c.args in
    let left = c.loop-lf.left.now in
    let first = found left c.in-Some.lf (rw c.in-Some.is at c.memchr.ensures) in
    rw (behind_all left (c.in-Some.lf + 1))
    (upto_next a.numbers a.piece.now a.out.now a.at left c.loop-lf.end c.loop-lf.out c.loop-lf.invariant c.in-Some.lf first c.put-end.result c.put-end.new.out
    c.put-end.ensures)

pub returns : goal.returns
returns c =
    let a = c.args in
    let left = c.loop-lf.left.now in
    upto-all a.numbers a.piece.now a.out.now a.at left c.loop-lf.end c.loop-lf.out c.loop-lf.invariant (not_found left (rw c.in_default.is at c.memchr.ensures))
