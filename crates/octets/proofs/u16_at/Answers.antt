-- `octets::u16_at` meets its contract: the two octets of what is left from the place on (`big_at-pair`). Assumes nothing.
use Rattle.octets.proofs.Big.{big_at-pair}
use Rattle.octets.proofs.u16_at.Goals as goal

pub returns : goal.returns
returns c = rw (c.u16_of.ensures, c.octet_at.ensures, c.octet_at-2.ensures, c.rest_at-rest.ensures) (big_at-pair c.args.s.now c.args.at)
