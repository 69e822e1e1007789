-- Big-endian numbers in octets (RFC 3550, 4: "all integer fields are carried in network byte order").
-- Assumes nothing.
use Rattle.std.specs.Prelude.{ℕ, zero, suc, ◌+◌, ◌*◌, ◌/◌, ◌%◌, List, [], ◌∷◌, ◌++◌, get_or}

-- the number that the w octets of s at a place make, the most significant first; an octet past the end counts as 0
unfoldable pub big_at : ℕ → List ℕ → ℕ → ℕ
big_at zero s at = 0
big_at (suc w) s at = big_at w s at * 256 + get_or s (at + w) 0

-- a number as w octets, the most significant first
unfoldable pub big_of : ℕ → ℕ → List ℕ
big_of zero n = []
big_of (suc w) n = big_of w (n / 256) ++ (n % 256 ∷ [])
