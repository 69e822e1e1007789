-- `shown::decimal::put_line` meets its contract: the name, the number and LF, each put just past the last, are put as one. Assumes nothing.
use mathlib.Core.Path.{ap, ◌∙◌}
use native.Mathlib.Omega.{arith}
use lib.ListN.{length, length-append, length-set}
use Rattle.octets.specs.Text.{decimal}
use Rattle.octets.proofs.Buffer.{length-put_at, set-put_at-then}
use Rattle.shown.proofs.decimal.put_line.Goals as goal

pub put-end-requires : goal.put-end-requires
put-end-requires c =
    let first = ap length c.put_octets.ensures ∙ length-put_at _ _ _ in
    let room = simp length-append at c.requires in
    omega arith

pub bounds-out-end : goal.bounds-out-end
bounds-out-end c =
    let first = ap length c.put_octets.ensures ∙ length-put_at _ _ _ in
    let then = ap length c.put-end.ensures.0 ∙ length-put_at _ _ _ in
    let room = simp length-append at c.requires in
    omega arith

pub overflow_add-result : goal.overflow_add-result
overflow_add-result c =
    let room = simp length-append at c.requires in
    omega arith

pub shape_of-out : goal.shape_of-out
shape_of-out c =
    let first = ap length c.put_octets.ensures ∙ length-put_at _ _ _ in
    let then = ap length c.put-end.ensures.0 ∙ length-put_at _ _ _ in
    simp length-set (then ∙ first)

pub returns : goal.returns
returns c =
    let a = c.args in
    let room = simp length-append at c.requires in
    let o = c.put_octets.ensures in
    let p = c.put-end.ensures in (
      rw (p.0, o, p.1) (set-put_at-then a.out.now a.at a.name.now (decimal a.n) 10 (omega arith)),
      simp length-append (omega arith),
    )
