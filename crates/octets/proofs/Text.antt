-- Laws of numbers in decimal: a number's digits make the number, and digits without leading zeros are those of their number.
-- The count that bounds the digits is dropped once, in `decimal-small` and `decimal-large`; all else goes by `decimal-ind`. Assumes nothing.
use mathlib.Core.Path.{◌≡◌, refl, sym, ap, ◌∙◌, subst}
use mathlib.Core.Logic.{⊎_elim}
use mathlib.Core.Bool.{true, false, not, ◌&&◌}
use mathlib.Core.List.{List, [], ◌∷◌, ◌++◌, append-nil, append_assoc}
use Prim.Native.Nat.{ℕ, zero, suc, ◌+◌, ◌-◌, ◌*◌, ◌/◌, ◌%◌, ◌^◌, ◌≤◌, ◌<◌}
use native.Mathlib.Nat.{not-suc-le-zero, le_of_suc-le-suc, lt_of_lt_of_le, mul-le-mul_right, mul_assoc, mul-one, one-mul, pow-zero, pow-suc, pow-succ', div-lt_iff_lt-mul, zero-lt-suc}
use native.Mathlib.Omega.{arith}
use lib.ListN.{length, get_or, take, drop, length-append, get_or-append}
use lib.Seq.{take-take, take_at, get_or_at, get_or-take, length-take-le}
use lib.Dec.{T, leb, eqb, leb→le, le→leb}
use borrow.Author.Tests.{lt-ltb, le-ltb, ne_eqb, eqb-false, not-true}
use Rattle.octets.specs.Choice.{begins, every, front}
use Rattle.octets.specs.Claims.{DecimalDigits}
use Rattle.octets.specs.Text.{digit, value_from, value_of, decimal_by, decimal, plain}
use Rattle.octets.proofs.Choice.{le-or-lt, decide, T_true, T_false, false-T, T_and, T-and-left, T-and-right, begins-split, begins-of-append, every_append, every_front, front-append}
use Rattle.octets.proofs.Places.{begins-front}

-- ---- the equations of decimal

decimal_by-small : (f n : ℕ) → n < 10 → decimal_by (suc f) n ≡ (48 + n) ∷ []
unfolding decimal_by
decimal_by-small f n h = rw (lt-ltb n 10 h, decimal_by)

decimal_by-large : (f n : ℕ) → 10 ≤ n → decimal_by (suc f) n ≡ decimal_by f (n / 10) ++ ((48 + n % 10) ∷ [])
unfolding decimal_by
decimal_by-large f n h = rw (le-ltb n 10 h, decimal_by)

-- the count does not matter where it is large enough
decimal_by-any : (f g n : ℕ) → n < f → n < g → decimal_by f n ≡ decimal_by g n
decimal_by-any zero g n h l = absurd (not-suc-le-zero h)
decimal_by-any (suc f) zero n h l = absurd (not-suc-le-zero l)
decimal_by-any (suc f) (suc g) n h l =
    ⊎_elim
    (λ (big : 10 ≤ n). rw (decimal_by-large f n big, decimal_by-large g n big, decimal_by-any f g (n / 10) (omega arith) (omega arith)))
    (λ small. rw (decimal_by-small f n small, decimal_by-small g n small))
    (le-or-lt 10 n)

-- a number below ten is one digit
pub decimal-small : (n : ℕ) → n < 10 → decimal n ≡ (48 + n) ∷ []
unfolding decimal
decimal-small n h = decimal_by-small n n h

-- any other is the digits of its tenth, then its last digit
pub decimal-large : (n : ℕ) → 10 ≤ n → decimal n ≡ decimal (n / 10) ++ ((48 + n % 10) ∷ [])
unfolding decimal
decimal-large n h =
    rw (decimal_by-large n n h, decimal_by-any n (suc (n / 10)) (n / 10) (omega arith) (omega arith))

pub decimal_digits : DecimalDigits
decimal_digits = (decimal-small, decimal-large)

-- what holds of each number below ten, and of a number where it holds of its tenth, holds of every number
pub decimal-ind {ℓ} : (P : ℕ → Type ℓ) → ((n : ℕ) → n < 10 → P n) → ((n : ℕ) → 10 ≤ n → P (n / 10) → P n) → (n : ℕ) → P n
decimal-ind P small large n = go (suc n) n (omega arith)
  where
    go : (f m : ℕ) → m < f → P m
    go zero m h = absurd (not-suc-le-zero h)
    go (suc f) m h = ⊎_elim (λ (l : 10 ≤ m). large m l (go f (m / 10) (omega arith))) (λ s. small m s) (le-or-lt 10 m)

-- ---- digits

-- the digit of a number below ten
pub digit-of : (d : ℕ) → d < 10 → T (digit (48 + d))
digit-of d h = T_and (leb 48 (48 + d)) (leb (48 + d) 57) (le→leb 48 (48 + d) (omega arith)) (le→leb (48 + d) 57 (omega arith))

-- a digit is at least that of zero
pub digit_low : (c : ℕ) → T (digit c) → 48 ≤ c
digit_low c t = leb→le 48 c (T-and-left (leb 48 c) (leb c 57) t)

-- a digit is at most that of nine
pub digit-high : (c : ℕ) → T (digit c) → c ≤ 57
digit-high c t = leb→le c 57 (T-and-right (leb 48 c) (leb c 57) t)

-- ---- what the digits of a number are

-- digits with one more are digits
pub digits_snoc : (ds : List ℕ) (d : ℕ) → T (every digit ds) → d < 10 → T (every digit (ds ++ ((48 + d) ∷ [])))
digits_snoc ds d t h =
    rw every_append (T_and (every digit ds) (every digit ((48 + d) ∷ [])) t (T_and (digit (48 + d)) true (digit-of d h) tt))

-- those of a number are digits
pub digits_decimal : (n : ℕ) → T (every digit (decimal n))
digits_decimal =
    decimal-ind (λ n. T (every digit (decimal n)))
    (λ n h. rw (decimal-small n h) (digits_snoc [] n tt h))
    (λ n h r. rw (decimal-large n h) (digits_snoc (decimal (n / 10)) (n % 10) r (omega arith)))

-- there is one at least
pub length-decimal-pos : (n : ℕ) → 1 ≤ length (decimal n)
length-decimal-pos =
    decimal-ind (λ n. 1 ≤ length (decimal n))
    (λ n h. rw (decimal-small n h) (omega arith))
    (λ n h r. rw (decimal-large n h, length-append) (omega arith))

-- a number below a power of ten has no more than the power says
pub length-decimal-le : (k n : ℕ) → n < 10 ^ suc k → length (decimal n) ≤ suc k
length-decimal-le zero n h = rw (decimal-small n h) (omega arith)
length-decimal-le (suc k) n h =
    ⊎_elim
    (λ big. rw (decimal-large n big, length-append) (omega (arith, length-decimal-le k (n / 10) tenth)))
    (λ small. rw (decimal-small n small) (omega arith))
    (le-or-lt 10 n)
  where
    tenth : n / 10 < 10 ^ suc k
    tenth = (div-lt_iff_lt-mul (zero-lt-suc 9)).1 (rw (pow-suc 10 (suc k)) at h)

-- a number has no more digits than it counts, and one
pub length-decimal : (n : ℕ) → length (decimal n) ≤ n + 1
length-decimal =
    decimal-ind (λ n. length (decimal n) ≤ n + 1)
    (λ n l. rw (decimal-small n l) (omega arith))
    (λ n l h. rw (decimal-large n l, length-append) (omega arith))

-- those of a number above zero do not begin with a zero
pub decimal-lead : (n : ℕ) → 0 < n → 48 < get_or (decimal n) 0 0
decimal-lead =
    decimal-ind (λ n. 0 < n → 48 < get_or (decimal n) 0 0)
    (λ n h z. rw (decimal-small n h) (omega arith))
    (λ n h r z. rw (decimal-large n h, get_or-append (decimal (n / 10)) ((48 + n % 10) ∷ []) 0 0 (length-decimal-pos (n / 10))) (r (omega arith)))

-- ---- the number that digits make

-- some digits, then more
pub value-append : (a : ℕ) (xs ys : List ℕ) → value_from a (xs ++ ys) ≡ value_from (value_from a xs) ys
value-append a [] ys = refl
value-append a (x ∷ xs) ys = value-append (a * 10 + (x - 48)) xs ys

-- one digit more
pub value-snoc : (a : ℕ) (xs : List ℕ) (c : ℕ) → value_from a (xs ++ (c ∷ [])) ≡ value_from a xs * 10 + (c - 48)
value-snoc a xs c = value-append a xs (c ∷ [])

-- the digits of a number make the number
pub value-decimal : (n : ℕ) → value_of (decimal n) ≡ n
value-decimal =
    decimal-ind (λ n. value_of (decimal n) ≡ n)
    (λ n h. rw (decimal-small n h) (omega arith))
    (λ n h r. rw (decimal-large n h, value-snoc 0 (decimal (n / 10)), r) (omega arith))

-- each digit more makes the bound of a number ten times as large
pub value-lt : (a : ℕ) (ds : List ℕ) → T (every digit ds) → value_from a ds < (a + 1) * 10 ^ length ds
value-lt a [] t = rw (pow-zero, mul-one) (omega arith)
value-lt a (c ∷ ds) t =
    let h = digit-high c (T-and-left (digit c) (every digit ds) t) in
    lt_of_lt_of_le (value-lt (a * 10 + (c - 48)) ds (T-and-right (digit c) (every digit ds) t))
    (rw (pow-succ', ← mul_assoc) (mul-le-mul_right (10 ^ length ds) (omega arith)))

-- k digits make a number below the k-th power of ten
pub value_of-lt : (ds : List ℕ) → T (every digit ds) → value_of ds < 10 ^ length ds
value_of-lt ds t = rw one-mul at (value-lt 0 ds t)

-- a smaller number has no more digits
pub length-decimal-mono : (m n : ℕ) → m ≤ n → length (decimal m) ≤ length (decimal n)
length-decimal-mono m n h = by (length (decimal n)) (length-decimal-pos n) below
  where
    below : m < 10 ^ length (decimal n)
    below = let l : n < 10 ^ length (decimal n) = rw (value-decimal n) at (value_of-lt (decimal n) (digits_decimal n)) in omega arith

    by : (k : ℕ) → 1 ≤ k → m < 10 ^ k → length (decimal m) ≤ k
    by zero p l = absurd (not-suc-le-zero p)
    by (suc k) p l = length-decimal-le k m l

-- ---- without leading zeros

-- digits that do not begin with a zero
pub plain-lead : (ds : List ℕ) → 1 ≤ length ds → 48 < get_or ds 0 0 → T (plain ds)
plain-lead [] h l = absurd (not-suc-le-zero h)
plain-lead (c ∷ []) h l = tt
plain-lead (c ∷ d ∷ ds) h l = rw (ne_eqb c 48 (λ e. omega arith)) tt

-- a number in decimal has no leading zeros
pub plain-decimal : (n : ℕ) → T (plain (decimal n))
plain-decimal n =
    ⊎_elim
    (λ (h : 10 ≤ n). plain-lead (decimal n) (length-decimal-pos n) (decimal-lead n (omega arith)))
    (λ h. rw (decimal-small n h) tt)
    (le-or-lt 10 n)

-- one digit is that of its number
decimal_digit : (c : ℕ) → T (digit c) → decimal (0 + (c - 48)) ≡ c ∷ []
decimal_digit c t =
    let low = digit_low c t in
    let high = digit-high c t in
    let back : 48 + (0 + (c - 48)) ≡ c = omega arith in
    rw (decimal-small (0 + (c - 48)) (omega arith), back)

-- a number above zero with one digit more
pub decimal-snoc : (a c : ℕ) → 0 < a → T (digit c) → decimal (a * 10 + (c - 48)) ≡ decimal a ++ (c ∷ [])
decimal-snoc a c h t =
    let low = digit_low c t in
    let high = digit-high c t in
    let tenth : (a * 10 + (c - 48)) / 10 ≡ a = omega arith in
    let last : 48 + (a * 10 + (c - 48)) % 10 ≡ c = omega arith in
    rw (decimal-large (a * 10 + (c - 48)) (omega arith), tenth, last)

-- and with any digits more
pub decimal-value_from : (a : ℕ) (ds : List ℕ) → 0 < a → T (every digit ds) → decimal (value_from a ds) ≡ decimal a ++ ds
decimal-value_from a [] h t = sym (append-nil (decimal a))
decimal-value_from a (c ∷ ds) h t =
    let first = T-and-left (digit c) (every digit ds) t in
    let rest = T-and-right (digit c) (every digit ds) t in
    rw (decimal-value_from (a * 10 + (c - 48)) ds (omega arith) rest, decimal-snoc a c h first, append_assoc)

-- digits without leading zeros are those of their number
pub decimal-value : (ds : List ℕ) → T (every digit ds) → T (plain ds) → decimal (value_of ds) ≡ ds
decimal-value [] t u = absurd u
decimal-value (c ∷ []) t u = decimal_digit c (T-and-left (digit c) true t)
decimal-value (c ∷ d ∷ ds) t u =
    let first = T-and-left (digit c) (every digit (d ∷ ds)) t in
    let low = digit_low c first in
    let apart = eqb-false c 48 (not-true (eqb c 48) (T_true (not (eqb c 48)) u)) in
    rw (decimal_digit c first) at (decimal-value_from (0 + (c - 48)) (d ∷ ds) (omega arith) (T-and-right (digit c) (every digit (d ∷ ds)) t))

-- ---- digits from the last backwards

module _ (n i : ℕ) (e : length (decimal n) ≡ i + 1) where
  -- all but the last of a number of ten and more are those of its tenth
  length-tenth : 10 ≤ n → length (decimal (n / 10)) ≡ i
  length-tenth big = omega (arith, simp length-append at (ap length (decimal-large n big)))

  -- a number below ten has one
  only-digit : n < 10 → i ≡ 0
  only-digit small = omega (arith, ap length (decimal-small n small))

  -- a number's last digit
  pub decimal-last : get_or (decimal n) i 0 ≡ 48 + n % 10
  decimal-last =
      ⊎_elim
      (λ big. rw (decimal-large n big) (get_or_at (decimal (n / 10)) (48 + n % 10) [] 0 i (length-tenth big)))
      (λ small. let m : n % 10 ≡ n = omega arith in rw (decimal-small n small, only-digit small, m))
      (le-or-lt 10 n)

  -- those before it, if there are any, are its tenth's
  pub decimal-tenth : 0 < i → take i (decimal n) ≡ decimal (n / 10)
  decimal-tenth z =
      ⊎_elim
      (λ big. rw (decimal-large n big) (take_at (decimal (n / 10)) ((48 + n % 10) ∷ []) i (length-tenth big)))
      (λ small. absurd (let o = only-digit small in omega arith))
      (le-or-lt 10 n)

-- the number whose digits are the first i + 1 of a list ends with the list's at i
pub decimal-at : (ds : List ℕ) (n i : ℕ) → i < length ds → decimal n ≡ take (i + 1) ds → 48 + n % 10 ≡ get_or ds i 0
decimal-at ds n i h e =
    sym (decimal-last n i (ap length e ∙ length-take-le (i + 1) ds (omega arith)))
    ∙ (ap (λ (l : List ℕ). get_or l i 0) e ∙ get_or-take (i + 1) ds i 0 (omega arith))

-- and the first i are its tenth's
pub decimal-before : (ds : List ℕ) (n i : ℕ) → i < length ds → decimal n ≡ take (i + 1) ds → 0 < i → decimal (n / 10) ≡ take i ds
decimal-before ds n i h e z =
    sym (decimal-tenth n i (ap length e ∙ length-take-le (i + 1) ds (omega arith)) z)
    ∙ (ap (take i) e ∙ take-take i (i + 1) ds (omega arith))

-- ---- a number at the front of a text

-- of two digits and more the first decides whether they are plain
pub plain-take : (n : ℕ) (s : List ℕ) → 2 ≤ n → n ≤ length s → plain (take n s) ≡ not (eqb (get_or s 0 0) 48)
plain-take zero s h l = absurd (not-suc-le-zero h)
plain-take (suc zero) s h l = absurd (not-suc-le-zero (le_of_suc-le-suc h))
plain-take (suc (suc n)) [] h l = absurd (not-suc-le-zero l)
plain-take (suc (suc n)) (x ∷ []) h l = absurd (not-suc-le-zero (le_of_suc-le-suc l))
plain-take (suc (suc n)) (x ∷ y ∷ s) h l = refl

-- the digits of what begins with a number, and then with no digit, are that number's
pub front-decimal : (n : ℕ) (s : List ℕ) (c : ℕ) (u : List ℕ) → digit c ≡ false → T (begins (decimal n ++ (c ∷ u)) s) → front digit s ≡ decimal n
front-decimal n s c u other t =
    let rest = drop (length (decimal n ++ (c ∷ u))) s in
    ap (front digit) (begins-split (decimal n ++ (c ∷ u)) s t ∙ append_assoc (decimal n) (c ∷ u) rest)
    ∙ front-append digit (decimal n) (u ++ rest) c (digits_decimal n) other

-- so a list begins with the number that its digits make, and then with no digit, where they are plain
pub begins-decimal : (s : List ℕ) (c : ℕ) (u : List ℕ) → digit c ≡ false
    → begins (decimal (value_of (front digit s)) ++ (c ∷ u)) s ≡ (plain (front digit s) && begins (c ∷ u) (drop (length (front digit s)) s))
begins-decimal s c u other =
    let ds = front digit s in
    ⊎_elim
    (λ t. rw (decimal-value ds (every_front digit s) t, begins-of-append ds (c ∷ u) s, T_true (begins ds s) (begins-front digit s), T_true (plain ds) t))
    (λ e. rw e
    (T_false (begins (decimal (value_of ds) ++ (c ∷ u)) s)
    (λ t. false-T (plain ds) e (subst (λ (z : List ℕ). T (plain z)) (sym (front-decimal (value_of ds) s c u other t)) (plain-decimal (value_of ds))))))
    (decide (plain ds))
