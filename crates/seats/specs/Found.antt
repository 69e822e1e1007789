-- What a search for a seat says (document 01, "Stream record"). Assumes nothing.
use Rattle.std.specs.Prelude.{◌≡◌, refl, ℕ, Option, Some, None}
use Rattle.std.proofs.Math.Option.{Option as Place, none, some}

-- the place of the seat, or that there is none
abbrev pub found_said : Option ℕ → Place ℕ
found_said (Some s) = some s
found_said None = none

-- two answers that say the same are the same
pub found_apart : (x y : Option ℕ) → found_said x ≡ found_said y → x ≡ y
found_apart (Some s) (Some t) p = cc
found_apart (Some s) None p = cc
found_apart None (Some t) p = cc
found_apart None None p = refl
