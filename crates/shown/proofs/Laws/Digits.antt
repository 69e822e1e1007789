-- Laws of how many digits a number has. Assumes nothing.
use mathlib.Core.Path.{◌≡◌}
use Prim.Native.Nat.{ℕ, zero, suc, ◌+◌, ◌*◌, ◌/◌, ◌^◌, ◌≤◌, ◌<◌, max}
use native.Mathlib.Nat.{pow-suc, pow-succ', le-div_iff_mul-le, zero-lt-suc, max-eq_left}
use native.Mathlib.Omega.{arith}
use lib.ListN.{length, length-append}
use Rattle.octets.specs.Text.{decimal}
use Rattle.octets.proofs.Text.{decimal-small, decimal-large, length-decimal-pos, length-decimal-le}

-- a power of ten is not 0
power-pos : (k : ℕ) → 1 ≤ 10 ^ k
power-pos zero = omega arith
power-pos (suc k) = rw pow-suc (omega (arith, power-pos k))

-- a number has more digits than the power of ten that is no greater says
length-decimal-ge : (k n : ℕ) → 10 ^ k ≤ n → suc k ≤ length (decimal n)
length-decimal-ge zero n h = length-decimal-pos n
length-decimal-ge (suc k) n h =
    let tens : 10 ^ k * 10 ≤ n = rw pow-suc at h in
    let big : 10 ≤ n = omega (arith, power-pos k) in
    let tenth : 10 ^ k ≤ n / 10 = (le-div_iff_mul-le (zero-lt-suc 9)).1 tens in
    rw (decimal-large n big, length-append) (omega (arith, length-decimal-ge k (n / 10) tenth))

-- between two powers of ten all numbers have as many
pub digits : (k n : ℕ) → 10 ^ k ≤ n → n < 10 * 10 ^ k → length (decimal n) ≡ k + 1
digits k n l h =
    let below : n < 10 ^ suc k = rw pow-succ' h in
    omega (arith, length-decimal-ge k n l, length-decimal-le k n below)

-- 0 has one, as 1 has
pub digits-one : (n : ℕ) → length (decimal (max n 1)) ≡ length (decimal n)
digits-one zero = rw (decimal-small 0 (omega arith), decimal-small 1 (omega arith))
digits-one (suc n) = let one : 1 ≤ suc n = omega arith in rw (max-eq_left one)
