-- Octets in hex (document 01, "Bench program": "in hex (either case)"): two digits for each, the more significant first. Assumes nothing.
use Rattle.std.specs.Prelude.{ℕ, ◌+◌, ◌-◌, ◌*◌, ◌%◌, Bool, ◌&&◌, List, [], ◌∷◌, length, leb, ltb, eqb}
use Rattle.octets.specs.Choice.{pick, every}
use Rattle.octets.specs.Text.{digit}

-- what stands for no octet and no digit
abbrev pub no_octet : ℕ
no_octet = 256

-- a digit's value: 0 to 9, A to F or a to f
unfoldable pub hex_value : ℕ → ℕ
hex_value c = pick (digit c) (c - 48) (pick (leb 65 c && leb c 70) (c - 55) (pick (leb 97 c && leb c 102) (c - 87) no_octet))

unfoldable pub hex_digit : ℕ → Bool
hex_digit c = ltb (hex_value c) 16

-- digits, two for each octet
unfoldable pub is_hex : List ℕ → Bool
is_hex digits = eqb (length digits % 2) 0 && every hex_digit digits

-- the octets that digits make
unfoldable pub hex_octets : List ℕ → List ℕ
hex_octets [] = []
hex_octets (high ∷ []) = no_octet ∷ []
hex_octets (high ∷ low ∷ rest) = (hex_value high * 16 + hex_value low) ∷ hex_octets rest
