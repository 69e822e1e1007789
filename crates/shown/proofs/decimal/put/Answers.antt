-- `shown::decimal::put` meets its contract. The invariant: the digits from i on are put, and what is left has the first i. Assumes nothing.
use mathlib.Core.Path.{◌≡◌, refl, sym, ap, ◌∙◌}
use Prim.Native.Nat.{ℕ, ◌+◌, ◌-◌, ◌≤◌, ◌<◌}
use native.Mathlib.Nat.{add-zero}
use native.Mathlib.Omega.{arith}
use lib.ListN.{length, take, drop, length-set, drop_of_length-le}
use lib.Seq.{take_all}
use Rattle.octets.specs.Buffer.{put_at}
use Rattle.octets.specs.Text.{decimal}
use Rattle.octets.proofs.Buffer.{put_at-nil, set-put_at-drop}
use Rattle.octets.proofs.Text.{decimal-at, decimal-before}
use Rattle.shown.proofs.decimal.put.Goals as goal

pub loop-i-init : goal.loop-i-init
loop-i-init c =
    let a = c.args in
    let ds = decimal a.n in
    let all : length ds ≤ c.length_of-digits.result = omega arith in
    (omega arith, refl, rw (drop_of_length-le ds all, put_at-nil), λ _. sym (take_all c.length_of-digits.result ds all))

pub loop-i-preserved : goal.loop-i-preserved
loop-i-preserved c =
    let a = c.args in
    let l = c.loop-i in
    let j = l.i - 1 in
    let ds = decimal a.n in
    let inside : j < length ds = omega arith in
    let one_more : l.i ≡ j + 1 = omega arith in
    let was : l.out ≡ put_at a.out.now (a.at + (j + 1)) (drop (j + 1) ds) =
    l.invariant.2 ∙ ap (λ (k : ℕ). put_at a.out.now (a.at + k) (drop k ds)) one_more in
    let left : decimal l.left ≡ take (j + 1) ds = l.invariant.3 c.loop-i-test.true ∙ ap (λ (k : ℕ). take k ds) one_more in (
      omega arith,
      simp length-set l.invariant.1,
      rw (was, decimal-at ds l.left j inside left) (set-put_at-drop ds a.out.now a.at j inside (omega arith)),
      decimal-before ds l.left j inside left,
    )

pub shape_of-out : goal.shape_of-out
shape_of-out c = c.loop-i.invariant.1

pub returns : goal.returns
returns c =
    let none_left : c.loop-i.i ≡ 0 = omega arith in
    (c.loop-i.invariant.2 ∙ rw (none_left, add-zero), omega arith)
