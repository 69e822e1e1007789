-- `writing::write_plan` meets its contract: a plan that is right has a packet as long as its size says, which goes into the buffer as its
-- header and then, into the part behind it, its fields; where there is less room the attribute's law says so. Assumes nothing.
use native.Mathlib.Omega.{arith}
use lib.ListN.{length, length-take, length-drop}
use Rattle.octets.proofs.Buffer.{part-over}
use Rattle.plan.specs.Plan.{plan_octets}
use Rattle.plan.proofs.Laws.Parts.{plan-length, plan-most}
use Rattle.writing.specs.Writing.{told, after}
use Rattle.writing.proofs.Laws.Room.{head, length-head, length-packet, with-room}
use Rattle.writing.proofs.write_plan.Goals as goal

pub overflow_add-size : goal.overflow_add-size
overflow_add-size c = let most = plan-most c.args.names.now c.args.plan c.requires in omega (arith, c.size_of-size.ensures)

pub put_header-requires : goal.put_header-requires
put_header-requires c =
    let most = plan-most c.args.names.now c.args.plan c.requires in
    (omega arith, omega arith, omega arith)

pub put_fields-requires : goal.put_fields-requires
put_fields-requires c = (c.requires, simp (length-take, length-drop) (omega arith))

pub overflow_cast-result : goal.overflow_cast-result
overflow_cast-result c =
    let most = plan-most c.args.names.now c.args.plan c.requires in
    omega (arith, c.size_of-size.ensures)

pub returns : goal.returns
unfolding told after
returns c =
    let a = c.args in
    let names = a.names.now in
    let plan = a.plan in
    let t = c.requires in
    rw (with-room names plan t (length a.out.now) (omega arith)) (
      rw (length-packet names plan t, c.size_of-size.ensures),
      rw (c.put_fields.ensures, c.put_header.ensures, c.size_of-size.ensures, ← plan-length names plan t)
          (part-over 12 (head names plan) (plan_octets names plan) a.out.now (length-head names plan)),
    )
