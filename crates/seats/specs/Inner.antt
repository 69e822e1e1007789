-- What an inner function says of the row that it looks at. The public promises rest on it, and nobody need believe it: it is only a step of a proof.
-- Assumes nothing.
use Rattle.std.specs.Prelude.{ℕ, List, length}
use Rattle.octets.specs.Choice.{keep}
use Rattle.sheet.specs.Inner.{nonzero}

-- how many octets of a row are not zero
abbrev pub filled : List ℕ → ℕ
filled row = length (keep nonzero row)
