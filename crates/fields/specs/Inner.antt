-- What an inner function says. The public promises rest on it, and nobody need believe it: it is only a step of a proof. Assumes nothing.
use Rattle.std.specs.Prelude.{ℕ, List, Option, Some, None}
use Rattle.octets.specs.Choice.{pick}
use Rattle.fields.specs.Walk.{field_right, next_at}

-- past the field at a place, where it is right
abbrev pub past_field : List ℕ → ℕ → Option ℕ
past_field p at = pick (field_right p at) (Some (next_at p at)) None
