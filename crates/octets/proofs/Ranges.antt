-- Laws of std's tests over a range of numbers: a test holds of each number of it, or of some. Assumes nothing.
use mathlib.Core.Path.{◌≡◌, sym, subst, ◌∙◌}
use mathlib.Core.Logic.{◌↔◌, ⊎_elim}
use mathlib.Core.Bool.{Bool, true, ◌&&◌, and-true, and_assoc}
use mathlib.Core.List.{List, [], ◌∷◌}
use Prim.Native.Nat.{ℕ, zero, suc, ◌+◌, ◌-◌, ◌≤◌, ◌<◌}
use native.Mathlib.Nat.{eq-or-lt_of_le}
use native.Mathlib.Omega.{arith}
use lib.Dec.{T}
use Rattle.std.specs.List.{fold, list_all, range_with_len}
use Rattle.octets.proofs.Choice.{T_and, T-and-left, T-and-right}

module _ (p : ℕ → Bool) where
  -- it holds of each of the n numbers from a on
  each_of : (a n : ℕ) → T (list_all p (range_with_len a n)) → (k : ℕ) → k < a + n → a ≤ k → T (p k)
  each_of a zero t k h l = absurd (omega arith)
  each_of a (suc n) t k h l =
      let rest = list_all p (range_with_len (a + 1) n) in
      ⊎_elim
      (λ e. subst (λ (i : ℕ). T (p i)) e (T-and-left (p a) rest t))
      (λ m. each_of (a + 1) n (T-and-right (p a) rest t) k (omega arith) (omega arith))
      (eq-or-lt_of_le l)

  of_each : (a n : ℕ) → ((k : ℕ) → k < a + n → a ≤ k → T (p k)) → T (list_all p (range_with_len a n))
  of_each a zero f = tt
  of_each a (suc n) f = T_and (p a) _ (f a (omega arith) (omega arith)) (of_each (a + 1) n (λ k h l. f k (omega arith) (omega arith)))

  -- so of each from a on that is below b
  pub all_over : (a b : ℕ) (r : Bool) → r ≡ list_all p (range_with_len a (b - a)) → T r ↔ ((k : ℕ) → k < b → a ≤ k → T (p k))
  all_over a b r e =
      ((λ t k h l. each_of a (b - a) (rw e at t) k (omega arith) l), λ f. rw e (of_each a (b - a) (λ k h l. f k (omega arith) l)))

  -- one after the other, with no exit before the last
  fold_and : (b : Bool) (xs : List ℕ) → fold (λ good k. good && p k) b xs ≡ (b && list_all p xs)
  fold_and b [] = sym (and-true b)
  fold_and b (x ∷ xs) = fold_and (b && p x) xs ∙ and_assoc b (p x) (list_all p xs)

  pub fold_over : (a b : ℕ) (r : Bool) → r ≡ fold (λ good k. good && p k) true (range_with_len a (b - a)) → T r ↔ ((k : ℕ) → k < b → a ≤ k → T (p k))
  fold_over a b r e = all_over a b r (e ∙ fold_and true (range_with_len a (b - a)))
