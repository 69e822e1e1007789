-- Laws of octets in hex: what a digit is and its value, and the octets that digits make, pair by pair. Assumes nothing.
use mathlib.Core.Path.{◌≡◌, refl}
use mathlib.Core.Bool.{◌&&◌}
use mathlib.Core.List.{List, [], ◌∷◌, ◌++◌}
use Prim.Native.Nat.{ℕ, zero, suc, ◌+◌, ◌-◌, ◌*◌, ◌/◌, ◌%◌, ◌≤◌, ◌<◌}
use native.Mathlib.Omega.{arith}
use lib.ListN.{length, get_or}
use lib.Dec.{T, leb, ltb, eqb, leb→le, ltb→lt, eqb→eq}
use borrow.Author.Tests.{lt-ltb}
use Rattle.std.specs.Char.{is_ascii_hexdigit}
use Rattle.octets.specs.Choice.{every}
use Rattle.octets.specs.Hex.{hex_value, hex_digit, is_hex, hex_octets}
use Rattle.octets.specs.Text.{digit}
use Rattle.octets.proofs.Choice.{T_true, T-and-left, T-and-right, pick-cases}

-- ---- a digit

-- a number that passes the test is from low to high
passes : (low c high : ℕ) → T (leb low c && leb c high) → (low ≤ c) × (c ≤ high)
passes low c high t =
    (leb→le low c (T-and-left (leb low c) (leb c high) t), leb→le c high (T-and-right (leb low c) (leb c high) t))

-- a digit is what std takes for one
pub hex_digit-ascii : (c : ℕ) → is_ascii_hexdigit c ≡ hex_digit c
unfolding hex_value hex_digit
hex_digit-ascii c =
    pick-cases Ascii (digit c) (c - 48) _ (λ d. rw (T_true (digit c) d, lt-ltb (c - 48) 16 (omega (arith, passes 48 c 57 d))))
    (λ d. pick-cases Ascii (leb 65 c && leb c 70) (c - 55) _ (λ u. rw (d, T_true (leb 65 c && leb c 70) u, lt-ltb (c - 55) 16 (omega (arith, passes 65 c 70 u))))
    (λ u. pick-cases Ascii (leb 97 c && leb c 102) (c - 87) 256 (λ l. rw (d, u, T_true (leb 97 c && leb c 102) l, lt-ltb (c - 87) 16 (omega (arith, passes 97 c 102 l)))) (λ l. rw (d, u, l))))
  where
    Ascii : ℕ → Type 0
    Ascii v = is_ascii_hexdigit c ≡ ltb v 16

-- a digit's value is its low four bits, and nine more for a letter
pub hex_value-bits : (c : ℕ) → T (hex_digit c) → c % 16 + c / 64 * 9 ≡ hex_value c
unfolding hex_value hex_digit
hex_value-bits c t =
    pick-cases Bits (digit c) (c - 48) _ (λ d _. omega (arith, passes 48 c 57 d))
    (λ _. pick-cases Bits (leb 65 c && leb c 70) (c - 55) _ (λ u _. omega (arith, passes 65 c 70 u))
    (λ _. pick-cases Bits (leb 97 c && leb c 102) (c - 87) 256 (λ l _. omega (arith, passes 97 c 102 l)) (λ _ h. absurd (omega arith))))
    (ltb→lt (hex_value c) 16 t)
  where
    Bits : ℕ → Type 0
    Bits v = v < 16 → c % 16 + c / 64 * 9 ≡ v

-- ---- pairs of digits

-- a pair of them makes an octet
pub pair_octet : (h l : ℕ) → T (hex_digit h) → T (hex_digit l) → hex_value h * 16 + hex_value l < 256
unfolding hex_digit
pair_octet h l t u = omega (arith, ltb→lt (hex_value h) 16 t, ltb→lt (hex_value l) 16 u)

-- what a pair more makes
pub hex_octets-pair : (xs : List ℕ) (h l : ℕ) → length xs % 2 ≡ 0
    → hex_octets (xs ++ (h ∷ l ∷ [])) ≡ hex_octets xs ++ ((hex_value h * 16 + hex_value l) ∷ [])
unfolding hex_octets
hex_octets-pair [] h l e = refl
hex_octets-pair (x ∷ []) h l e = absurd (omega arith)
hex_octets-pair (x ∷ y ∷ xs) h l e = rw (hex_octets-pair xs h l (omega arith))

-- pairs make half as many octets
pub length-hex_octets : (xs : List ℕ) → length xs % 2 ≡ 0 → length (hex_octets xs) ≡ length xs / 2
unfolding hex_octets
length-hex_octets [] e = refl
length-hex_octets (x ∷ []) e = absurd (omega arith)
length-hex_octets (x ∷ y ∷ xs) e = omega (arith, length-hex_octets xs (omega arith))

-- ---- text in hex

-- its digits are even in number
pub is_hex-even : (digits : List ℕ) → T (is_hex digits) → length digits % 2 ≡ 0
unfolding is_hex
is_hex-even digits t = eqb→eq (length digits % 2) 0 (T-and-left (eqb (length digits % 2) 0) (every hex_digit digits) t)

-- and all digits
pub is_hex-digits : (digits : List ℕ) → T (is_hex digits) → T (every hex_digit digits)
unfolding is_hex
is_hex-digits digits t = T-and-right (eqb (length digits % 2) 0) (every hex_digit digits) t

-- the octets that an even number of digits makes are below 256
even-lt : (digits : List ℕ) → length digits % 2 ≡ 0 → T (every hex_digit digits) → (i : ℕ) → get_or (hex_octets digits) i 0 < 256
unfolding hex_octets
even-lt [] e t i = omega arith
even-lt (high ∷ []) e t i = absurd (omega arith)
even-lt (high ∷ low ∷ rest) e t zero =
    let behind = T-and-right (hex_digit high) (every hex_digit (low ∷ rest)) t in
    pair_octet high low (T-and-left (hex_digit high) (every hex_digit (low ∷ rest)) t) (T-and-left (hex_digit low) (every hex_digit rest) behind)
even-lt (high ∷ low ∷ rest) e t (suc i) =
    let behind = T-and-right (hex_digit high) (every hex_digit (low ∷ rest)) t in
    even-lt rest (omega arith) (T-and-right (hex_digit low) (every hex_digit rest) behind) i

-- and so are those that text in hex makes
pub hex_octets-lt : (digits : List ℕ) → T (is_hex digits) → (i : ℕ) → get_or (hex_octets digits) i 0 < 256
hex_octets-lt digits t = even-lt digits (is_hex-even digits t) (is_hex-digits digits t)
