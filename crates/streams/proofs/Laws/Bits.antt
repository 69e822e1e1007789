-- Laws of the byte of receivers: of each bit after one was set or cleared, and of the number of ones. They go by halving: the lowest bit of a
-- number is its rest by 2, and the others are the bits of its half. Assumes nothing.
use Rattle.std.specs.Prelude.{Option, Some, None, SomeIff, unwrap_or}
use mathlib.Core.Path.{◌≡◌, refl, sym, ◌∙◌}
use mathlib.Core.Logic.{⊎_elim}
use mathlib.Core.Bool.{Bool, true, false, not, ◌&&◌, ◌||◌, and-true, and-false}
use Prim.Native.Nat.{ℕ, zero, suc, ◌+◌, ◌-◌, ◌*◌, ◌/◌, ◌%◌, ◌^◌, ◌≤◌, ◌<◌}
use native.Mathlib.Nat.{one-mul, pow-suc, pow-succ', zero-div, div-eq_of_lt, div-one, div-div-eq-div-mul, le-div_iff_mul-le, le_of_suc-le-suc, not-suc-le-zero}
use native.Mathlib.Omega.{arith}
use lib.Arith.{bin_ind}
use lib.Pow.{pow_pos, pow_mono}
use lib.Count.{ones, ones_step}
use lib.Dec.{T, eqb, ltb→lt, lt→ltb, eqb→eq, eqb_refl, eqb-zero-suc, eqb-suc-zero, eqb-suc-suc}
use mir.Val.{bits}
use borrow.Author.Tests.{eqb-false}
use Rattle.std.proofs.Common.{w8, bit_and, bit_or}
use Rattle.std.proofs.lemmas.Bool.Decides.{nat_tests}
use Rattle.std.proofs.lemmas.Nat.{and_le_l}
use Rattle.std.proofs.lemmas.Nat.Bits.{same_from_bits, same_from_bits_below, bit_at-lt, bit_at_set_same, bit_at_set_other, bit_at_clear_same, bit_at_clear_other}
use Rattle.std.specs.Int.{bit_at, bit_not}
use Rattle.octets.specs.Choice.{pick}
use Rattle.octets.proofs.Choice.{le-or-lt, true-T, false-T, T_false, T-or-cases, pick-cases}
use Rattle.streams.specs.Record.{watches, set_bit, clear_bit}
use Rattle.streams.specs.Claims.{SetsOne, ClearsOne, OnSheetExactly}

-- no bit of 0 is set
pub watches-none : (r : ℕ) → watches 0 r ≡ false
unfolding watches
watches-none r = rw zero-div

-- the lowest bit
pub watches-zero : (b : ℕ) → watches b 0 ≡ eqb (b % 2) 1
unfolding watches
watches-zero b = rw div-one

-- the others are those of the half
pub watches-suc : (b r : ℕ) → watches b (suc r) ≡ watches (b / 2) r
unfolding watches
watches-suc b r = rw (pow-succ', ← div-div-eq-div-mul)

-- a bit that is set is 1
bit_one : (b r : ℕ) → T (watches b r) → b / 2 ^ r % 2 ≡ 1
unfolding watches
bit_one b r t = eqb→eq (b / 2 ^ r % 2) 1 t

-- one that is not set is 0
bit-zero : (b r : ℕ) → watches b r ≡ false → b / 2 ^ r % 2 ≡ 0
unfolding watches
bit-zero b r e = let other = eqb-false (b / 2 ^ r % 2) 1 e in omega arith

-- a bit that is set is part of the number
pub bit_le : (b r : ℕ) → T (watches b r) → 2 ^ r ≤ b
bit_le b r t = rw one-mul at ((le-div_iff_mul-le {x = 1} {y = b} (pow_pos r)).0 (omega (arith, bit_one b r t)))

-- ---- what puts the digit d, 0 or 1, at place r

module _ (op : ℕ → ℕ → ℕ) (d : ℕ) (small : d < 2) (lowest : (b : ℕ) → op b 0 ≡ b / 2 * 2 + d)
    (other : (b r : ℕ) → op b (suc r) ≡ op (b / 2) r * 2 + b % 2) where
  -- the half and the rest of the number with d at place 0
  half-zero : (b : ℕ) → op b 0 / 2 ≡ b / 2
  half-zero b = omega (arith, lowest b)

  rest-zero : (b : ℕ) → op b 0 % 2 ≡ d
  rest-zero b = omega (arith, lowest b)

  -- at any other place
  half-suc : (b r : ℕ) → op b (suc r) / 2 ≡ op (b / 2) r
  half-suc b r = omega (arith, other b r)

  rest-suc : (b r : ℕ) → op b (suc r) % 2 ≡ b % 2
  rest-suc b r = omega (arith, other b r)

  -- bit p is d where it is put, and as it was elsewhere
  watches-put : (b r p : ℕ) → watches (op b r) p ≡ pick (eqb p r) (eqb d 1) (watches b p)
  watches-put b zero zero = rw (watches-zero, rest-zero)
  watches-put b zero (suc p) = simp (watches-suc, half-zero, eqb-suc-zero)
  watches-put b (suc r) zero = simp (watches-zero, rest-suc, eqb-zero-suc)
  watches-put b (suc r) (suc p) = simp (watches-suc, half-suc, eqb-suc-suc) (watches-put (b / 2) r p)

  -- the ones with the digit that stood there are those before with d
  ones-put : (b r : ℕ) → ones (op b r) + b / 2 ^ r % 2 ≡ ones b + d
  ones-put b zero = rw (ones_step (op b 0), half-zero, rest-zero, ones_step b, div-one) (omega arith)
  ones-put b (suc r) =
      rw (ones_step (op b (suc r)), half-suc, rest-suc, ones_step b, pow-succ', ← div-div-eq-div-mul)
      (omega (arith, ones-put (b / 2) r))

-- ---- a bit set, and a bit cleared

-- to set puts a 1: at place 0
set-lowest : (b : ℕ) → set_bit b 0 ≡ b / 2 * 2 + 1
unfolding set_bit
set-lowest b =
    pick-cases (λ x. x ≡ b / 2 * 2 + 1) (watches b 0) b (b + 1)
    (λ t. omega (arith, bit_one b 0 t))
    (λ e. omega (arith, bit-zero b 0 e))

-- and at any other
set_other : (b r : ℕ) → set_bit b (suc r) ≡ set_bit (b / 2) r * 2 + b % 2
unfolding set_bit
set_other b r = rw (watches-suc, pow-suc) (by (watches (b / 2) r))
  where
    by : (c : Bool) → pick c b (b + 2 ^ r * 2) ≡ pick c (b / 2) (b / 2 + 2 ^ r) * 2 + b % 2
    by true = omega arith
    by false = omega arith

-- to clear puts a 0: at place 0
clear_lowest : (b : ℕ) → clear_bit b 0 ≡ b / 2 * 2 + 0
unfolding clear_bit
clear_lowest b =
    pick-cases (λ x. x ≡ b / 2 * 2 + 0) (watches b 0) (b - 1) b
    (λ t. omega (arith, bit_one b 0 t))
    (λ e. omega (arith, bit-zero b 0 e))

-- and at any other
clear_other : (b r : ℕ) → clear_bit b (suc r) ≡ clear_bit (b / 2) r * 2 + b % 2
unfolding clear_bit
clear_other b r = rw (watches-suc, pow-suc) (by (watches (b / 2) r) (bit_le (b / 2) r))
  where
    by : (c : Bool) → (T c → 2 ^ r ≤ b / 2) → pick c (b - 2 ^ r * 2) b ≡ pick c (b / 2 - 2 ^ r) (b / 2) * 2 + b % 2
    by true h = omega (arith, h tt)
    by false h = omega arith

-- after one bit was set, bit p
pub watches-set : SetsOne
watches-set b r p = watches-put set_bit 1 (omega arith) set-lowest set_other b r p ∙ by (eqb p r)
  where
    by : (c : Bool) → pick c true (watches b p) ≡ (c || watches b p)
    by true = refl
    by false = refl

-- after one bit was cleared, bit p
pub watches-clear : ClearsOne
watches-clear b r p = watches-put clear_bit 0 (omega arith) clear_lowest clear_other b r p ∙ by (eqb p r)
  where
    by : (c : Bool) → pick c false (watches b p) ≡ (watches b p && not c)
    by true = sym (and-false (watches b p))
    by false = sym (and-true (watches b p))

-- to clear a bit makes no number greater
pub clear-le : (b r : ℕ) → clear_bit b r ≤ b
unfolding clear_bit
clear-le b r = pick-cases (λ x. x ≤ b) (watches b r) (b - 2 ^ r) b (λ t. omega arith) (λ e. omega arith)

-- ---- the bits of a number below a power

-- a bit that is set is one of n
pub bit_below : (n b r : ℕ) → b < 2 ^ n → T (watches b r) → r < n
bit_below n b r h t = ⊎_elim (λ l. absurd (omega (arith, bit_le b r t, pow_mono l))) (λ l. l) (le-or-lt n r)

-- each bit that is set is one of n
abbrev BitsBelow : ℕ → ℕ → Type 0
BitsBelow n b = (r : ℕ) → T (watches b r) → r < n

-- so the number is below the power
below-bits : (b n : ℕ) → BitsBelow n b → b < 2 ^ n
below-bits = bin_ind (λ b. (n : ℕ) → BitsBelow n b → b < 2 ^ n) (λ n h. pow_pos n) step
  where
    step : (b : ℕ) → ((n : ℕ) → BitsBelow n (b / 2) → b / 2 < 2 ^ n) → (n : ℕ) → BitsBelow n b → b < 2 ^ n
    step b half zero h =
        let none = T_false (watches b 0) (λ t. not-suc-le-zero (h 0 t)) in
        omega (arith, half 0 (λ r t. absurd (not-suc-le-zero (h (suc r) (rw watches-suc t)))), bit-zero b 0 none)
    step b half (suc n) h = rw pow-suc (omega (arith, half n (λ r t. le_of_suc-le-suc (h (suc r) (rw watches-suc t)))))

-- one more bit of n
pub set_below : (n b r : ℕ) → b < 2 ^ n → r < n → set_bit b r < 2 ^ n
set_below n b r h l =
    below-bits (set_bit b r) n
    (λ p t. ⊎_elim (λ e. rw (eqb→eq p r e) l) (λ u. bit_below n b p h u) (T-or-cases (eqb p r) (watches b p) (rw watches-set at t)))

-- "no bit of a seat not on the sheet"
pub on_sheet_exactly : OnSheetExactly
on_sheet_exactly n b = ((λ t r u. bit_below n b r (ltb→lt b (2 ^ n) t) u), (λ h. lt→ltb b (2 ^ n) (below-bits b n h)))

-- ---- the number of ones

-- a bit more
pub ones-set : (b r : ℕ) → watches b r ≡ false → ones (set_bit b r) ≡ suc (ones b)
ones-set b r e = omega (arith, ones-put set_bit 1 (omega arith) set-lowest set_other b r, bit-zero b r e)

-- a bit less
pub ones_clear : (b r : ℕ) → T (watches b r) → suc (ones (clear_bit b r)) ≡ ones b
ones_clear b r t = omega (arith, ones-put clear_bit 0 (omega arith) clear_lowest clear_other b r, bit_one b r t)

-- ---- a byte as the processor shifts and masks it

-- shifted, also past its eight bits
pub shifted : (b r : ℕ) (o : Option ℕ) → b < 256 → SomeIff o (r < 8) (b / 2 ^ r) → unwrap_or o 0 ≡ b / 2 ^ r
shifted b r (Some x) small e = e.1
shifted b r None small e = sym (div-eq_of_lt (omega (arith, pow_mono {i = 8} {j = r} (omega (arith, e)))))

-- digits are the same where both or neither is 1
digits_same : (x y : ℕ) → x < 2 → y < 2 → eqb x 1 ≡ eqb y 1 → x ≡ y
digits_same x y a b e = grind (arith, nat_tests)

-- bit p after bit r was set by a disjunction ..
watches-or : (b r p : ℕ) → r < 8 → (c : Bool) → eqb p r ≡ c → watches (bit_or b (1 * 2 ^ r % 2 ^ bits w8)) p ≡ (c || watches b p)
unfolding watches
watches-or b r p h true e = rw (eqb→eq p r (true-T _ e), bit_at_set_same w8 b r h)
watches-or b r p h false e = rw (bit_at_set_other w8 b r h p (λ s. absurd (false-T (eqb p r) e (rw s (eqb_refl r)))))

pub or_sets : (b r : ℕ) → r < 8 → bit_or b (1 * 2 ^ r % 2 ^ bits w8) ≡ set_bit b r
unfolding watches
or_sets b r h =
    same_from_bits (bit_or b (1 * 2 ^ r % 2 ^ bits w8)) (set_bit b r)
    (λ p. digits_same (bit_at (bit_or b (1 * 2 ^ r % 2 ^ bits w8)) p) (bit_at (set_bit b r) p) (bit_at-lt _ p) (bit_at-lt _ p)
    (watches-or b r p h (eqb p r) refl ∙ sym (watches-set b r p)))

-- .. and after it was cleared by a mask
watches-and : (b r p : ℕ) → r < 8 → p < 8 → (c : Bool) → eqb p r ≡ c → watches (bit_and b (bit_not w8 (1 * 2 ^ r % 2 ^ bits w8))) p ≡ (watches b p && not c)
unfolding watches
watches-and b r p h l true e = rw (eqb→eq p r (true-T _ e), bit_at_clear_same w8 b r h, and-false)
watches-and b r p h l false e = rw (bit_at_clear_other w8 b r h p l (λ s. absurd (false-T (eqb p r) e (rw s (eqb_refl r)))), and-true)

pub and_clears : (b r : ℕ) → b < 256 → r < 8 → bit_and b (bit_not w8 (1 * 2 ^ r % 2 ^ bits w8)) ≡ clear_bit b r
unfolding watches
and_clears b r small h =
    same_from_bits_below 8 (bit_and b (bit_not w8 (1 * 2 ^ r % 2 ^ bits w8))) (clear_bit b r) (omega (arith, and_le_l b (bit_not w8 (1 * 2 ^ r % 2 ^ bits w8)))) (omega (arith, clear-le b r))
    (λ p l. digits_same (bit_at (bit_and b (bit_not w8 (1 * 2 ^ r % 2 ^ bits w8))) p) (bit_at (clear_bit b r) p) (bit_at-lt _ p) (bit_at-lt _ p)
    (watches-and b r p h l (eqb p r) refl ∙ sym (watches-clear b r p)))
