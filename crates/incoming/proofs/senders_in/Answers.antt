-- `incoming::senders_in` meets its contract: the SSRCs are the eight numbers behind those of the lines with a number alone. Assumes nothing.
use mathlib.Core.Path.{◌≡◌}
use native.Mathlib.Omega.{arith}
use lib.ListN.{length, drop, length-drop}
use lib.Seq.{take_all}
use Rattle.octets.proofs.Buffer.{padded-full}
use Rattle.sheet.specs.Table.{table, number_lines, most_seats}
use Rattle.sheet.specs.Value.{sheet_by, sheet_from}
use Rattle.sheet.proofs.Laws.Values.{sheet_in-counted}
use Rattle.incoming.proofs.senders_in.Goals as goal

pub returns : goal.returns
unfolding sheet_from sheet_by number_lines table most_seats
returns c =
    let rest : length (drop 11 c.args.numbers.now) ≡ 8 = rw length-drop (omega arith) in
    rw (sheet_in-counted c.args.numbers.now c.requires, padded-full 8 0 (drop 11 c.args.numbers.now) (omega (arith, rest)), c.copy_from_slice.ensures.after, take_all 8 (drop 11 c.args.numbers.now) (omega (arith, rest)))
