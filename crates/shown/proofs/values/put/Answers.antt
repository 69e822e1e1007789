-- `shown::values::put` meets its contract: ten times a name and its value are put behind what is put already, and each leaves the room that
-- the next asks for. Assumes nothing.
use mathlib.Core.Path.{ap, ◌∙◌}
use native.Mathlib.Omega.{arith}
use mathlib.Core.List.{map}
use lib.ListN.{length}
use Rattle.octets.proofs.Buffer.{length-put_at}
use Rattle.shown.specs.Inner.{value_said, values_from}
use Rattle.shown.specs.Promises.{Put}
use Rattle.shown.proofs.Laws.Values.{said-length, from-entry, from-none}
use Rattle.shown.proofs.values.put.Goals as goal
use Rattle.shown.proofs.values.put.Goals.{After-put_entry-end-10}

-- all of them are put
all : (c : After-put_entry-end-10)
    → let a = c.args in
    Put (values_from a.packet.now (map value_said a.values.now) 0) a.out.now a.at c.put_entry-end-10.result c.put_entry-end-10.new.out
all c =
    let p = c.args.packet.now in
    let said = map value_said c.args.values.now in
    let n = said-length c.args.values.now (omega arith) in
    let put =
    from-entry p said n 0 (omega arith) c.requires c.put_entry-end.ensures.0
    (from-entry p said n 1 (omega arith) c.put_entry-end.ensures.1 c.put_entry-end-2.ensures.0
    (from-entry p said n 2 (omega arith) c.put_entry-end-2.ensures.1 c.put_entry-end-3.ensures.0
    (from-entry p said n 3 (omega arith) c.put_entry-end-3.ensures.1 c.put_entry-end-4.ensures.0
    (from-entry p said n 4 (omega arith) c.put_entry-end-4.ensures.1 c.put_entry-end-5.ensures.0
    (from-entry p said n 5 (omega arith) c.put_entry-end-5.ensures.1 c.put_entry-end-6.ensures.0
    (from-entry p said n 6 (omega arith) c.put_entry-end-6.ensures.1 c.put_entry-end-7.ensures.0
    (from-entry p said n 7 (omega arith) c.put_entry-end-7.ensures.1 c.put_entry-end-8.ensures.0
    (from-entry p said n 8 (omega arith) c.put_entry-end-8.ensures.1 c.put_entry-end-9.ensures.0
    (from-entry p said n 9 (omega arith) c.put_entry-end-9.ensures.1 c.put_entry-end-10.ensures.0
    (from-none p said n _ _)))))))))) in
    (put.put, put.past)

pub shape_of-out : goal.shape_of-out
shape_of-out c = ap length (all (goal.at.shape_of-out c).After-put_entry-end-10).0 ∙ length-put_at _ _ _

pub returns : goal.returns
returns c = all (goal.at.returns c).After-put_entry-end-10
