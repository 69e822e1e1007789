-- `shown::text::put_ten` meets its contract: an LF just past the values. Assumes nothing.
use native.Mathlib.Omega.{arith}
use mathlib.Core.List.{map}
use Rattle.octets.proofs.Buffer.{length-put_at, set-put_at}
use Rattle.shown.specs.Inner.{value_said, values_from, ten_line}
use Rattle.shown.proofs.Laws.Values.{length-ten_line}
use Rattle.shown.proofs.text.put_ten.Goals as goal

pub put-end-requires : goal.put-end-requires
put-end-requires c =
    omega (arith, length-ten_line c.args.packet.now (map value_said c.args.values.now))

pub bounds-out-end : goal.bounds-out-end
bounds-out-end c =
    let put = c.put-end.ensures in
    rw (put.0, put.1, length-put_at) (omega (arith, c.requires, length-ten_line c.args.packet.now (map value_said c.args.values.now)))

pub overflow_add-result : goal.overflow_add-result
overflow_add-result c =
    omega (arith, c.put-end.ensures.1, c.requires, length-ten_line c.args.packet.now (map value_said c.args.values.now))

pub returns : goal.returns
unfolding ten_line
returns c =
    let put = c.put-end.ensures in
    let line = length-ten_line c.args.packet.now (map value_said c.args.values.now) in
    (rw (put.0, put.1) (set-put_at c.args.out.now c.args.at (values_from c.args.packet.now (map value_said c.args.values.now) 0) 10 (omega arith)), omega arith)
