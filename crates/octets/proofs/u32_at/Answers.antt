-- `octets::u32_at` meets its contract: std's number of the four octets is the definition's (`big_at-four`). Assumes nothing.
use Rattle.octets.proofs.Big.{big_at-four}
use Rattle.octets.proofs.u32_at.Goals as goal

pub returns : goal.returns
returns c =
    rw (c.from_be_bytes.ensures, c.octet_at.ensures, c.octet_at-2.ensures, c.octet_at-3.ensures, c.octet_at-4.ensures, c.rest_at-rest.ensures)
    (big_at-four c.args.s.now c.args.at)
