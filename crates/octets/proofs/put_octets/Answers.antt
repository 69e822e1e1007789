-- `octets::put_octets` meets its contract: the octets stand in the place of as many of the buffer's, or do not fit. Assumes nothing.
use mathlib.Core.Path.{refl, sym}
use Prim.Native.Nat.{◌+◌, ◌≤◌}
use native.Mathlib.Omega.{arith}
use lib.ListN.{length, length-set}
use Rattle.octets.proofs.Buffer.{put_at-nil, put_at-no_room, set-put_at-take}
use Rattle.octets.proofs.put_octets.Goals as goal
use Rattle.octets.proofs.put_octets.Goals.{else-at-s-via-then-at-s+else-octets-s, else-at-s-via-else-at-s}

pub loop-i-init : goal.loop-i-init
loop-i-init c = (refl, sym (put_at-nil _ _))

pub loop-i-preserved : goal.loop-i-preserved
loop-i-preserved c =
    let l = c.loop-i in
    let a = c.args in
    let fits : a.at + length a.octets.now ≤ length a.s.now = omega arith in
    (simp length-set l.invariant.0, rw l.invariant.1 (set-put_at-take a.octets.now a.s.now a.at l.i c.loop-i-test.true fits))

pub returns-else-at-s : goal.returns-else-at-s
returns-else-at-s c =
    sym
    (put_at-no_room _ _ _
    (elim c.else-at-s.branch [ else-at-s-via-then-at-s+else-octets-s w ↦ omega arith | else-at-s-via-else-at-s w ↦ omega arith ]))
