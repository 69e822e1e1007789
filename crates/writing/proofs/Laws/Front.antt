-- Laws of the header: it says what it was made of, and the front of a packet past checks 1 and 2 is one. Assumes nothing.
use mathlib.Core.Path.{◌≡◌, refl, ◌∙◌}
use mathlib.Core.Bool.{Bool, true, false, ◌&&◌}
use mathlib.Core.List.{List, [], ◌∷◌, ◌++◌}
use Prim.Native.Nat.{ℕ, ◌+◌, ◌-◌, ◌*◌, ◌/◌, ◌%◌, ◌^◌, ◌<◌, ◌≤◌}
use native.Mathlib.Nat.{div-div-eq-div-mul, mod-eq_of_lt}
use native.Mathlib.Omega.{arith}
use lib.ListN.{length, get_or, drop, length-append, length-drop, take-append-drop}
use lib.Seq.{drop-cons, drop-drop, take_at, drop_at}
use lib.Dec.{T, ltb, eqb, ltb→lt, lt→ltb, eqb→eq}
use borrow.Author.Tests.{le-leb, eq-eqb, ne_eqb, eqb-true, eqb-false}
use Rattle.octets.specs.Choice.{every}
use Rattle.octets.specs.Big.{big_at, big_of}
use Rattle.octets.proofs.Choice.{T_and, T-and-left, T-and-right, every-both, every-get_or-or}
use Rattle.octets.proofs.Big.{length-big_of, every-big_of, big_at-lt, big_at-put, drop-big_at}
use Rattle.fields.specs.Header.{first_field, word, size_right, version_right, head_right, ack_asked, number_in, ssrc_in, letters_in}
use Rattle.fields.proofs.Laws.Sized.{sized}
use Rattle.plan.specs.Packet.{first_octet, header}
use Rattle.writing.specs.Claims.{are_octets}

-- ---- octets

-- each octet of a packet is one, and so is what stands for one past its end
pub octets-lt : (p : List ℕ) → T (are_octets p) → (i : ℕ) → get_or p i 0 < 256
unfolding are_octets
octets-lt p o i = ltb→lt (get_or p i 0) 256 (every-get_or-or (λ (x : ℕ). ltb x 256) p i 0 o tt)

-- ---- the first octet

-- what an octet says: version 2, no padding, whether an Ack is asked for, the number
record First (x : ℕ) (ack : Bool) (number : ℕ) : Type 0 where
  version : x / 64 ≡ 2
  padding : x / 32 % 2 ≡ 0
  asks : eqb (x / 16 % 2) 1 ≡ ack
  says : x % 16 ≡ number

-- it says what it was made of
first_says : (ack : Bool) (number : ℕ) → number < 16 → First (first_octet ack number) ack number
unfolding first_octet
first_says true number h = omega (arith, eq-eqb)
first_says false number h = omega (arith, ne_eqb)

-- and is made of what it says
first-is : (x : ℕ) (ack : Bool) (number : ℕ) → First x ack number → x ≡ first_octet ack number
unfolding first_octet
first-is x true number f = omega (arith, div-div-eq-div-mul x 16 2, div-div-eq-div-mul x 32 2, eqb-true)
first-is x false number f = omega (arith, div-div-eq-div-mul x 16 2, div-div-eq-div-mul x 32 2, eqb-false)

-- ---- the header

-- what a packet's header says, and what follows it
pub record Front (p : List ℕ) (a : Bool) (n v : ℕ) (l r : List ℕ) : Type 0 where
  pub size : T (size_right p)
  pub head : T (head_right p)
  pub ack : ack_asked p ≡ a
  pub number : number_in p ≡ n
  pub ssrc : ssrc_in p ≡ v
  pub letters : letters_in p ≡ l
  pub rest : drop first_field p ≡ r

-- a header is twelve octets
pub length-header : (first size ssrc : ℕ) (letters : List ℕ) → length letters ≡ 4 → length (header first size ssrc letters) ≡ first_field
unfolding header
length-header first size ssrc letters l = simp (length-append, length-big_of, l)

module _ (ack : Bool) (number ssrc : ℕ) (letters rest : List ℕ) (small : number < 16) (narrow : ssrc < 256 ^ 4) (four : length letters ≡ 4) where
  -- a header and octets in whole words behind it
  abbrev packet : List ℕ
  packet = header (first_octet ack number) (first_field + length rest) ssrc letters ++ rest

  -- it is as long as the two
  length-packet : length packet ≡ first_field + length rest
  length-packet = simp (length-append, length-header)

  -- what its first octet says
  first : First (first_octet ack number) ack number
  first = first_says ack number small

  -- its length field
  abbrev minus_one : ℕ
  minus_one = (first_field + length rest) / word - 1

  module _ (words : length rest % word ≡ 0) (most : first_field + length rest ≤ 256) where
    -- it passes check 1
    says-size : T (size_right packet)
    unfolding size_right
    says-size =
        let size = first_field + length rest in
        rw (length-packet, le-leb first_field size (omega arith), le-leb size 256 most, eq-eqb (size % word) 0 (omega arith)) tt

    -- the length field is its length
    says-length : (big_at 2 packet 2 + 1) * word ≡ length packet
    unfolding header big_of
    says-length = omega (arith, length-packet, big_at-put 2 minus_one (first_octet ack number ∷ 204 ∷ []) (big_of 4 ssrc ++ letters ++ rest))

    -- it passes check 2
    says-head : T (head_right packet)
    unfolding head_right version_right header
    says-head = rw (first.version, first.padding, eq-eqb ((big_at 2 packet 2 + 1) * word) (length packet) says-length) tt

  -- it says what it was made of
  pub header-says : length rest % word ≡ 0 → first_field + length rest ≤ 256 → Front packet ack number ssrc letters rest
  unfolding ack_asked number_in ssrc_in letters_in header big_of
  header-says words most = record {
    size = says-size words most;
    head = says-head words most;
    ack = first.asks;
    number = first.says;
    ssrc = big_at-put 4 ssrc (first_octet ack number ∷ 204 ∷ big_of 2 minus_one) (letters ++ rest) ∙ mod-eq_of_lt narrow;
    letters = take_at letters rest 4 four;
    rest = drop_at letters rest 4 four;
  }

  -- and is made of octets
  pub header-octets : T (are_octets letters) → T (are_octets rest) → T (are_octets packet)
  unfolding are_octets header
  header-octets l r =
      let octet : ℕ → Bool = λ x. ltb x 256 in
      let one : first_octet ack number < 256 = omega (arith, first) in
      let behind = big_of 2 minus_one ++ (big_of 4 ssrc ++ letters) in
      T_and (octet (first_octet ack number)) (every octet (behind ++ rest)) (lt→ltb (first_octet ack number) 256 one)
      (every-both octet behind rest
      (every-both octet (big_of 2 minus_one) (big_of 4 ssrc ++ letters) (every-big_of 2 minus_one) (every-both octet (big_of 4 ssrc) letters (every-big_of 4 ssrc) l))
      r)

-- what check 2 says of a packet's header
record HeadSays (p : List ℕ) : Type 0 where
  first : First (get_or p 0 0) (ack_asked p) (number_in p)
  second : get_or p 1 0 ≡ 204
  words : (big_at 2 p 2 + 1) * word ≡ length p

head_says : (p : List ℕ) → T (head_right p) → HeadSays p
unfolding head_right version_right ack_asked number_in
head_says p t =
    let a = eqb (get_or p 0 0 / 64) 2 in
    let b = eqb (get_or p 0 0 / 32 % 2) 0 in
    let c = eqb (get_or p 1 0) 204 in
    let d = eqb ((big_at 2 p 2 + 1) * word) (length p) in
    let u = T-and-left (a && b) (c && d) t in
    let v = T-and-right (a && b) (c && d) t in
    record {
      first = record {
        version = eqb→eq (get_or p 0 0 / 64) 2 (T-and-left a b u);
        padding = eqb→eq (get_or p 0 0 / 32 % 2) 0 (T-and-right a b u);
        asks = refl;
        says = refl;
      };
      second = eqb→eq (get_or p 1 0) 204 (T-and-left c d v);
      words = eqb→eq ((big_at 2 p 2 + 1) * word) (length p) (T-and-right c d v);
    }

-- the front of a packet past checks 1 and 2 is the header of what it says
pub header_is : (p : List ℕ) → T (are_octets p) → T (size_right p) → T (head_right p)
    → p ≡ header (first_octet (ack_asked p) (number_in p)) (first_field + length (drop first_field p)) (ssrc_in p) (letters_in p) ++ drop first_field p
unfolding header big_of ssrc_in letters_in
header_is p o s h =
    let size = sized p s in
    let head = head_says p h in
    let lt = octets-lt p o in
    let words : big_at 2 p 2 ≡ (first_field + length (drop first_field p)) / word - 1 = omega (arith, length-drop first_field p) in
    let one : get_or p 0 0 ≡ first_octet (ack_asked p) (number_in p) = first-is (get_or p 0 0) (ack_asked p) (number_in p) head.first in
    cc (drop-cons p 0 0 (omega arith), drop-cons p 1 0 (omega arith), drop-big_at p lt 2 2 (omega arith), drop-big_at p lt 4 4 (omega arith), take-append-drop 4 (drop 8 p), drop-drop 4 8 p)

-- and its SSRC goes into four octets
pub ssrc-narrow : (p : List ℕ) → T (are_octets p) → ssrc_in p < 256 ^ 4
unfolding ssrc_in
ssrc-narrow p o = big_at-lt 4 p 4 (octets-lt p o)
