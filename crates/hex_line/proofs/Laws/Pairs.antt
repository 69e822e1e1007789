-- Laws of the packet on a line in hex: octets pair by pair, and when a line is a packet's. Assumes nothing.
use mathlib.Core.Path.{◌≡◌, refl, sym}
use mathlib.Core.Bool.{Bool, true, false, ◌&&◌, and-true}
use mathlib.Core.List.{List, [], ◌∷◌, ◌++◌}
use Rattle.std.specs.Prelude.{Some, None}
use Rattle.std.specs.Bool.{then_some}
use Rattle.std.specs.Char.{is_ascii_hexdigit}
use Rattle.std.specs.Simd.{first_chunks}
use Prim.Native.Nat.{ℕ, zero, suc, ◌+◌, ◌*◌, ◌/◌, ◌%◌, ◌≤◌, ◌<◌}
use native.Mathlib.Nat.{le_of_suc-le-suc, not-suc-le-zero}
use native.Mathlib.Omega.{arith}
use lib.ListN.{length, get_or, set, take, drop, replicate}
use lib.Seq.{take_all, length-take-le, get_or-take, get_or-drop}
use lib.Dec.{T, leb, eqb, leb→le, eqb→eq}
use borrow.Author.Tests.{le-leb}
use Rattle.octets.specs.Choice.{every}
use Rattle.octets.specs.Buffer.{padded}
use Rattle.octets.specs.Hex.{hex_value, hex_digit, is_hex, hex_octets}
use Rattle.octets.proofs.Choice.{T_true, true-T, T_false, false-T, T-and-left, T-and-right, every_append}
use Rattle.octets.proofs.Buffer.{padded-nil, set-padded}
use Rattle.octets.proofs.Hex.{hex_digit-ascii, pair_octet, hex_octets-pair, length-hex_octets}
use Rattle.octets.proofs.Parts.{take-pair}
use Rattle.hex_line.specs.Line.{line_right, packet_in, packet_as, packet_of}

-- ---- a line, pair by pair

-- whether the digits up to the n-th pair are digits; where they are, a packet of n octets is what they make
pub record Pairs (line : List ℕ) (right : Bool) (octets : List ℕ) (n : ℕ) : Type 0 where
  pub digits : right ≡ every hex_digit (take (2 * n) line)
  pub packet : T right → octets ≡ padded 256 0 (hex_octets (take (2 * n) line))

-- before the first pair
pub pairs_start : (line : List ℕ) → Pairs line true (replicate 256 0) 0
unfolding hex_octets
pairs_start line = record { digits = refl; packet = λ _. sym (padded-nil 256 0) }

-- a digit of a pair of the line
chunk_at : (k i j : ℕ) (xs : List ℕ) → i < k → j < 2 → get_or (get_or (first_chunks 2 k xs) i []) j 0 ≡ get_or xs (2 * i + j) 0
chunk_at zero i j xs h l = absurd (not-suc-le-zero h)
chunk_at (suc k) zero j xs h l = let place : 2 * 0 + j ≡ j = omega arith in rw place (get_or-take 2 xs j 0 l)
chunk_at (suc k) (suc i) j xs h l =
    let place : 2 + (2 * i + j) ≡ 2 * suc i + j = omega arith in
    rw (chunk_at k i j (drop 2 xs) (le_of_suc-le-suc h) l, get_or-drop, place)

pub digit_at : (ps : List (List ℕ)) (k i j m : ℕ) (xs : List ℕ) → ps ≡ first_chunks 2 k xs → i < k → j < 2 → m ≡ 2 * i + j
    → get_or (get_or ps i []) j 0 ≡ get_or xs m 0
digit_at ps k i j m xs p h l e = rw (p, e) (chunk_at k i j xs h l)

-- a pair more: whether they are digits, and their values where they are
pub pairs_more : (line : List ℕ) (right : Bool) (octets : List ℕ) (n : ℕ) → Pairs line right octets n → n < 256 → 2 * n + 1 < length line
    → (h l : ℕ) → h ≡ get_or line (2 * n) 0 → l ≡ get_or line (2 * n + 1) 0
    → (vh vl : ℕ) → (T (hex_digit h) → vh ≡ hex_value h) → (T (hex_digit l) → vl ≡ hex_value l)
    → Pairs line (right && (is_ascii_hexdigit h && is_ascii_hexdigit l)) (set octets n ((vh * 16 + vl) % 256)) (n + 1)
pairs_more line right octets n p room inside h l eh el vh vl fh fl =
    let xs = take (2 * n) line in
    let all : length xs ≡ 2 * n = length-take-le (2 * n) line (omega arith) in
    let even : length xs % 2 ≡ 0 = omega arith in
    let half : length (hex_octets xs) ≡ n = omega (arith, length-hex_octets xs even) in
    let place : 2 * (n + 1) ≡ 2 * n + 2 = omega arith in
    let more : take (2 * (n + 1)) line ≡ xs ++ (h ∷ l ∷ []) = rw (place, eh, el) (take-pair line (2 * n) inside) in
    record {
      digits = rw (p.digits, hex_digit-ascii h, hex_digit-ascii l, more, every_append, and-true);
      packet =
          λ t.
          let both = T-and-right right (is_ascii_hexdigit h && is_ascii_hexdigit l) t in
          let th : T (hex_digit h) = rw hex_digit-ascii at (T-and-left (is_ascii_hexdigit h) (is_ascii_hexdigit l) both) in
          let tl : T (hex_digit l) = rw hex_digit-ascii at (T-and-right (is_ascii_hexdigit h) (is_ascii_hexdigit l) both) in
          let octet : (vh * 16 + vl) % 256 ≡ hex_value h * 16 + hex_value l = omega (arith, fh th, fl tl, pair_octet h l th tl) in
          rw (p.packet (T-and-left right (is_ascii_hexdigit h && is_ascii_hexdigit l) t), more, hex_octets-pair xs h l even, octet)
          (rw half at (set-padded 256 0 (hex_octets xs) (hex_value h * 16 + hex_value l) (omega arith)));
    }

-- ---- the packet on a line

-- "not hex, odd, empty, or above 512 digits": none of these
pub record IsLine (line : List ℕ) : Type 0 where
  pub least : 1 ≤ length line
  pub most : length line ≤ 512
  pub even : length line % 2 ≡ 0
  pub digits : T (every hex_digit line)

-- what the test of a line says
pub line_right-says : (line : List ℕ) → T (line_right line) → IsLine line
unfolding line_right is_hex
line_right-says line t =
    let n = length line in
    let u = T-and-right (leb 1 n) (leb n 512 && is_hex line) t in
    let v = T-and-right (leb n 512) (is_hex line) u in
    record {
      least = leb→le 1 n (T-and-left (leb 1 n) (leb n 512 && is_hex line) t);
      most = leb→le n 512 (T-and-left (leb n 512) (is_hex line) u);
      even = eqb→eq (n % 2) 0 (T-and-left (eqb (n % 2) 0) (every hex_digit line) v);
      digits = T-and-right (eqb (n % 2) 0) (every hex_digit line) v;
    }

-- and when it holds
pub line_right-holds : (line : List ℕ) → IsLine line → line_right line ≡ true
unfolding line_right is_hex
line_right-holds line l =
    rw (le-leb 1 (length line) l.least, le-leb (length line) 512 l.most, l.even) (T_true (every hex_digit line) l.digits)

-- a line for which it does not hold has no packet
pub packet_in-none : (line : List ℕ) → (IsLine line → ⊥) → None ≡ packet_as (packet_in line)
unfolding packet_as packet_in
packet_in-none line h = rw (T_false (line_right line) (λ t. h (line_right-says line t)))

-- one for which it holds has the octets that it makes
pub packet_in-octets : (line : List ℕ) → IsLine line → packet_as (packet_in line) ≡ Some (packet_of (hex_octets line))
unfolding packet_as packet_in
packet_in-octets line l = rw (line_right-holds line l)

-- ---- a line of which every pair was read

-- its packet, if all are digits
pub pairs_end : (line : List ℕ) (right : Bool) (octets : List ℕ) (n len : ℕ) → Pairs line right octets n → n ≡ len → len ≡ length line / 2
    → length line % 2 ≡ 0 → 1 ≤ length line → length line ≤ 512 → then_some right (record { octets = octets; len = len }) ≡ packet_as (packet_in line)
pairs_end line true octets n len p e half even least most =
    let all : take (2 * n) line ≡ line = take_all (2 * n) line (omega arith) in
    let digits : T (every hex_digit line) = true-T (every hex_digit line) (rw (p.digits, all)) in
    rw (packet_in-octets line (record { least = least; most = most; even = even; digits = digits }), p.packet tt, all, length-hex_octets line even, half)
pairs_end line false octets n len p e half even least most =
    let all : take (2 * n) line ≡ line = take_all (2 * n) line (omega arith) in
    packet_in-none line (λ l. false-T (every hex_digit line) (rw (p.digits, all)) l.digits)
