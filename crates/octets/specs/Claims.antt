-- What is claimed of the definitions beyond the functions. Each has its proof under proofs/. Assumes nothing.
use Rattle.std.specs.Prelude.{◌≡◌, [], ◌∷◌, ◌++◌, ℕ, ◌+◌, ◌/◌, ◌%◌, ◌≤◌, ◌<◌}
use Rattle.octets.specs.Text.{decimal}

-- A number below 10 is one digit in decimal, and any other the digits of a tenth of it and then its last.
abbrev pub DecimalDigits : Type 0
DecimalDigits =
    ((n : ℕ) → n < 10 → decimal n ≡ (48 + n) ∷ [])
    × ((n : ℕ) → 10 ≤ n → decimal n ≡ decimal (n / 10) ++ ((48 + n % 10) ∷ []))
