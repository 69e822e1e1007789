-- Laws of big-endian numbers in octets, over any width: a number splits where its octets do, so a wide one is made of narrow ones.
-- Assumes nothing.
use mathlib.Core.Path.{◌≡◌, refl, sym, ap, ◌∙◌}
use Prim.Native.Nat.{ℕ, zero, suc, ◌+◌, ◌*◌, ◌/◌, ◌%◌, ◌^◌, ◌≤◌, ◌<◌}
use native.Mathlib.Nat.{add-zero, add-suc, add_assoc, add-mul, mul_assoc, mul-one, pow-zero, pow-suc, pow-succ', div-one, div-div-eq-div-mul, mod-one, one-le-pow, mod-lt, mod-eq_of_lt}
use native.Mathlib.Omega.{arith}
use mathlib.Core.List.{List, [], ◌∷◌, ◌++◌, append-nil, append_assoc}
use mir.Syntax.{w32}
use Rattle.std.specs.Int.{from_be_bytes, to_be_bytes}
use lib.ListN.{length, get_or, take, drop, length-append, length-drop, take-append-drop, get_or-eq_default, get_or-append}
use lib.Seq.{take-suc, drop-drop, get_or-drop, get_or-append-add, get_or_at}
use lib.Arith.{digits_lt, digits_div, digits_mod, mod-mul}
use lib.Dec.{T, ltb, eqb, eqb→eq}
use borrow.Author.Tests.{eq-eqb, lt-ltb}
use Rattle.octets.specs.Choice.{same, every}
use Rattle.octets.specs.Big.{big_at, big_of}
use Rattle.octets.proofs.Choice.{test-eq, true-T, same-eq, eq-same, every-both}

-- ---- a number read at a place

-- the number of v + w octets: that of the first v, then that of the w after them
pub big_at-add : (v w : ℕ) (s : List ℕ) (at : ℕ) → big_at (v + w) s at ≡ big_at v s at * 256 ^ w + big_at w s (at + v)
unfolding big_at
big_at-add v zero s at = simp (add-zero, pow-zero, mul-one)
big_at-add v (suc w) s at = simp (add-suc, big_at-add v w s at, pow-suc, add-mul, mul_assoc, add_assoc)

-- two octets of a slice, taken by themselves
pub big_at-two : (s : List ℕ) (at : ℕ) → big_at 2 (get_or s at 0 ∷ get_or s (at + 1) 0 ∷ []) 0 ≡ big_at 2 s at
unfolding big_at
big_at-two s at = rw add-zero refl

-- two octets of what is left from a place on
pub big_at-pair : (s : List ℕ) (at : ℕ) → big_at 2 (get_or (drop at s) 0 0 ∷ get_or (drop at s) 1 0 ∷ []) 0 ≡ big_at 2 s at
unfolding big_at
big_at-pair s at = simp get_or-drop refl

-- four octets of what is left from a place on, as std reads them
pub big_at-four : (s : List ℕ) (at : ℕ)
    → from_be_bytes w32 (get_or (drop at s) 0 0 ∷ get_or (drop at s) 1 0 ∷ get_or (drop at s) 2 0 ∷ get_or (drop at s) 3 0 ∷ []) ≡ big_at 4 s at
unfolding big_at
big_at-four s at = simp get_or-drop (omega arith)

-- nothing stands at or past the end
pub big_at-end : (w : ℕ) (s : List ℕ) (at : ℕ) → length s ≤ at → big_at w s at ≡ 0
unfolding big_at
big_at-end zero s at h = refl
big_at-end (suc w) s at h = rw (big_at-end w s at h, get_or-eq_default s 0 {n = at + w} (omega arith))

-- octets make a number below the width's power
pub big_at-lt : (w : ℕ) (s : List ℕ) (at : ℕ) → ((i : ℕ) → get_or s i 0 < 256) → big_at w s at < 256 ^ w
unfolding big_at
big_at-lt zero s at h = omega (arith, pow-zero 256)
big_at-lt (suc w) s at h = rw pow-suc (digits_lt (big_at-lt w s at h) (h (at + w)))

-- a number of what is left from a place on
pub big_at-drop : (w n : ℕ) (s : List ℕ) (at : ℕ) → big_at w (drop n s) at ≡ big_at w s (n + at)
unfolding big_at
big_at-drop zero n s at = refl
big_at-drop (suc w) n s at = simp (big_at-drop w n s at, get_or-drop, add_assoc)

-- ---- a number as octets

pos : 0 < 256
pos = omega arith

-- the low w + 1 octets of a number: the low w of those above the lowest, then the lowest
mod-step : (w n : ℕ) → n % (256 ^ w * 256) ≡ n / 256 % 256 ^ w * 256 + n % 256
mod-step w n = mod-mul n (one-le-pow w 256 pos) pos

-- there are w of them
pub length-big_of : (w n : ℕ) → length (big_of w n) ≡ w
unfolding big_of
length-big_of zero n = refl
length-big_of (suc w) n = simp (length-append, length-big_of w (n / 256)) (omega arith)

-- two octets
pub big_of-two : (n : ℕ) → big_of 2 n ≡ n / 256 % 256 ∷ n % 256 ∷ []
unfolding big_of
big_of-two n = refl

-- four octets as std makes them
pub big_of-four : (n : ℕ) → to_be_bytes w32 n ≡ big_of 4 n
unfolding big_of
big_of-four n = simp div-div-eq-div-mul refl

pub ruleset four_octets = (big_of-four)

-- v + w octets: the high v, then the low w
pub big_of-add : (v w n : ℕ) → big_of (v + w) n ≡ big_of v (n / 256 ^ w) ++ big_of w n
unfolding big_of
big_of-add v zero n = simp (add-zero, pow-zero, div-one, append-nil)
big_of-add v (suc w) n = simp (add-suc, big_of-add v w (n / 256), pow-succ', div-div-eq-div-mul, append_assoc)

-- only the low w octets of the number count
pub big_of-mod : (w n : ℕ) → big_of w (n % 256 ^ w) ≡ big_of w n
unfolding big_of
big_of-mod zero n = refl
big_of-mod (suc w) n =
    rw (pow-suc, mod-step w n, digits_div (n / 256 % 256 ^ w) (mod-lt n pos), digits_mod (n / 256 % 256 ^ w) (mod-lt n pos), big_of-mod w (n / 256))

-- its octets are octets
pub every-big_of : (w n : ℕ) → T (every (λ (x : ℕ). ltb x 256) (big_of w n))
unfolding big_of
every-big_of zero n = tt
every-big_of (suc w) n =
    every-both (λ (x : ℕ). ltb x 256) (big_of w (n / 256)) (n % 256 ∷ []) (every-big_of w (n / 256)) (rw (lt-ltb (n % 256) 256 (omega arith)) tt)

-- ---- what is put reads back

-- a number past the first of two lists
pub big_at-append-add : (w : ℕ) (xs ys : List ℕ) (at : ℕ) → big_at w (xs ++ ys) (length xs + at) ≡ big_at w ys at
unfolding big_at
big_at-append-add zero xs ys at = refl
big_at-append-add (suc w) xs ys at = simp (big_at-append-add w xs ys at, add_assoc, get_or-append-add)

-- a number within the first of two lists
pub big_at-append-le : (w : ℕ) (xs ys : List ℕ) (at : ℕ) → at + w ≤ length xs → big_at w (xs ++ ys) at ≡ big_at w xs at
unfolding big_at
big_at-append-le zero xs ys at h = refl
big_at-append-le (suc w) xs ys at h =
    rw (big_at-append-le w xs ys at (omega arith), get_or-append xs ys 0 (at + w) (omega arith))

-- the octets of a number make the number, as far as they go
pub big_at-big_of : (w n : ℕ) → big_at w (big_of w n) 0 ≡ n % 256 ^ w
unfolding big_at big_of
big_at-big_of zero n = simp (pow-zero, mod-one)
big_at-big_of (suc w) n =
    let l : length (big_of w (n / 256)) ≡ 0 + w = omega (arith, length-big_of w (n / 256)) in
    rw (big_at-append-le w (big_of w (n / 256)) (n % 256 ∷ []) 0 (omega arith), get_or_at (big_of w (n / 256)) (n % 256) [] 0 (0 + w) l)
    (rw (big_at-big_of w (n / 256), pow-suc, mod-step w n))

-- the same in the midst of a longer list
pub big_at-put : (w n : ℕ) (xs ys : List ℕ) → big_at w (xs ++ big_of w n ++ ys) (length xs) ≡ n % 256 ^ w
big_at-put w n xs ys =
    rw append_assoc (rw add-zero at (big_at-append-add w xs (big_of w n ++ ys) 0))
    ∙ big_at-append-le w (big_of w n) ys 0 (omega (arith, length-big_of w n))
    ∙ big_at-big_of w n

-- ---- octets told by their number

-- numbers below the width's power with the same octets are the same
pub big_of-inj : (w m n : ℕ) → m < 256 ^ w → n < 256 ^ w → big_of w m ≡ big_of w n → m ≡ n
big_of-inj w m n h l e =
    sym (mod-eq_of_lt h) ∙ sym (big_at-big_of w m) ∙ ap (λ (s : List ℕ). big_at w s 0) e ∙ big_at-big_of w n ∙ mod-eq_of_lt l

module _ (s : List ℕ) (octets : (i : ℕ) → get_or s i 0 < 256) where
  -- the octets at a place are those of the number that they make
  pub big_of-big_at : (w at : ℕ) → at + w ≤ length s → big_of w (big_at w s at) ≡ take w (drop at s)
  unfolding big_of big_at
  big_of-big_at zero at h = refl
  big_of-big_at (suc w) at h =
      let l : w < length (drop at s) = rw length-drop (omega arith) in
      rw (digits_div (big_at w s at) (octets (at + w)), digits_mod (big_at w s at) (octets (at + w)), big_of-big_at w at (omega arith), take-suc (drop at s) w 0 l, get_or-drop)

  -- so they are given ones exactly if their number is the given ones'
  pub same-big_of : (w at n : ℕ) → at + w ≤ length s → n < 256 ^ w → same (take w (drop at s)) (big_of w n) ≡ eqb (big_at w s at) n
  same-big_of w at n h l =
      test-eq (same (take w (drop at s)) (big_of w n)) (eqb (big_at w s at) n)
      (λ t. true-T (eqb (big_at w s at) n)
      (eq-eqb (big_at w s at) n (big_of-inj w (big_at w s at) n (big_at-lt w s at octets) l (big_of-big_at w at h ∙ same-eq (take w (drop at s)) (big_of w n) t))))
      (λ t. eq-same (take w (drop at s)) (big_of w n) (sym (big_of-big_at w at h) ∙ ap (big_of w) (eqb→eq (big_at w s at) n t)))

-- what is left from a place on: the octets of the number there, then what is left behind them
pub drop-big_at : (s : List ℕ) → ((i : ℕ) → get_or s i 0 < 256) → (w at : ℕ) → at + w ≤ length s
    → drop at s ≡ big_of w (big_at w s at) ++ drop (at + w) s
drop-big_at s o w at h = sym (take-append-drop w (drop at s)) ∙ rw (drop-drop, big_of-big_at s o w at h)
