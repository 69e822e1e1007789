-- Text as octets: ASCII, and numbers in decimal without leading zeros (document 01, "Call sheet" and "Bench program").
-- Assumes nothing.
use Rattle.std.specs.Prelude.{ℕ, zero, suc, ◌+◌, ◌-◌, ◌*◌, ◌/◌, ◌%◌, Bool, true, false, not, ◌&&◌, List, [], ◌∷◌, ◌++◌, leb, ltb, eqb}
use Prim.Native.Char.{code}
use Prim.Native.String.{String, [] as []ˢ, ◌∷◌ as ◌∷ˢ◌}

-- the octets of an ASCII text
abbrev pub ascii : String → List ℕ
ascii []ˢ = []
ascii (c ∷ˢ s) = code c ∷ ascii s

-- the octets 0 to 9
abbrev pub digit : ℕ → Bool
digit c = leb 48 c && leb c 57

-- the number that digits make, after those that made a already
abbrev pub value_from : ℕ → List ℕ → ℕ
value_from a [] = a
value_from a (c ∷ cs) = value_from (a * 10 + (c - 48)) cs

abbrev pub value_of : List ℕ → ℕ
value_of cs = value_from 0 cs

-- a number's digits, as far as the first argument allows for them
unfoldable pub decimal_by : ℕ → ℕ → List ℕ
decimal_by zero n = []
decimal_by (suc f) n =
    elim (ltb n 10) [ true ↦ (48 + n) ∷ [] | false ↦ decimal_by f (n / 10) ++ ((48 + n % 10) ∷ []) ]

-- A number in decimal, without leading zeros. Below 10 it is one digit, and else the digits of a tenth of it and then its last
-- (`DecimalDigits` of Claims): how many digits are allowed for is of no account.
unfoldable pub decimal : ℕ → List ℕ
unfolding decimal_by
decimal n = decimal_by (suc n) n

-- not empty, and where it is longer than one octet, not begun with 0: "without leading zeros"
abbrev pub plain : List ℕ → Bool
plain [] = false
plain (c ∷ []) = true
plain (c ∷ d ∷ ds) = not (eqb c 48)
