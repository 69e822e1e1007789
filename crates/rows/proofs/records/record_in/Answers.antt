-- `rows::records::record_in` meets its contract: `one_record`. Assumes nothing.
use native.Mathlib.Omega.{arith}
use Rattle.rows.proofs.Laws.Records.{one_record}
use Rattle.rows.proofs.records.record_in.Goals as goal

pub returns : goal.returns
returns c =
    let octets = c.args.octets.now in
    rw (c.record_in.ensures, c.from.ensures, c.from-2.ensures) (one_record octets (omega arith) (omega (arith, c.type_inv.octets 1)))
