-- `hex_line::value_of` meets its contract: it computes what the law of a digit's bits says. Assumes nothing.
use native.Mathlib.Omega.{arith}
use Rattle.octets.proofs.Hex.{hex_value-bits}
use Rattle.hex_line.proofs.value_of.Goals as goal

pub returns : goal.returns
returns c = (hex_value-bits c.args.c, omega arith)
