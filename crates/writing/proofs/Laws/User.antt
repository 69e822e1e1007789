-- How a User ID's field is put: over a last word of zeros, which is then its padding (`puts-user`). Assumes nothing.
use mathlib.Core.Path.{◌≡◌, ◌∙◌}
use mathlib.Core.List.{List, ◌∷◌, ◌++◌}
use Prim.Native.Nat.{ℕ, zero, suc, ◌+◌, ◌-◌, ◌≤◌}
use native.Mathlib.Nat.{sub-zero}
use native.Mathlib.Omega.{arith}
use lib.ListN.{length, set, drop, replicate}
use Rattle.octets.specs.Big.{big_of}
use Rattle.octets.specs.Buffer.{padded, put_at}
use Rattle.octets.proofs.Buffer.{length-put_at, put_at-pair, put_at-under}
use Rattle.fields.specs.Walk.{to_word}
use Rattle.fields.specs.Layout.{laid}
use Rattle.plan.specs.Plan.{user_content}

-- behind a User ID come zeros up to the next word
laid-user : (user : List ℕ) → laid (user_content user) ≡ (6 ∷ length user ∷ user) ++ replicate (to_word (2 + length user) - (2 + length user)) 0
unfolding laid padded
laid-user user =
    let two : suc (suc (length user)) ≡ 2 + length user = omega arith in
    rw two

-- what is left of so many
drop-replicate : (m n x : ℕ) → drop m (replicate n x) ≡ replicate (n - m) x
drop-replicate zero n x = rw sub-zero
drop-replicate (suc m) zero x =
    let none : zero - suc m ≡ zero = omega arith in
    rw none
drop-replicate (suc m) (suc n) x =
    let same : suc n - suc m ≡ n - m = omega arith in
    rw same (drop-replicate m n x)

-- so it is put over a last word of zeros
pub puts-user : (s : List ℕ) (at : ℕ) (user : List ℕ) → at + to_word (2 + length user) ≤ length s
    → put_at (set (set (put_at s (at + to_word (2 + length user) - 4) (big_of 4 0)) at 6) (at + 1) (length user)) (at + 2) user ≡ put_at s at (laid (user_content user))
unfolding to_word big_of
puts-user s at user room =
    let size = to_word (2 + length user) in
    let k = size - 4 in
    let place : at + size - 4 ≡ at + k = omega arith in
    let xs : List ℕ = 6 ∷ length user ∷ user in
    let left : 4 - (length xs - k) ≡ size - (2 + length user) = omega arith in
    rw (put_at-pair (put_at s (at + size - 4) (replicate 4 0)) at 6 (length user) user (rw length-put_at (omega arith)), place)
    (put_at-under s at k xs (replicate 4 0) (omega arith) (omega arith) (omega arith)
    ∙ rw (drop-replicate, left, laid-user))
