-- Laws of the value whose row some numbers are: the likely one by the numbers, where a row's likely value is the row's own. Assumes nothing.
use mathlib.Core.Path.{◌≡◌, refl, sym, ap, ◌∙◌, subst}
use mathlib.Core.List.{List, [], ◌∷◌}
use mathlib.Core.Option.{none, some, none-ne-some, some-injective}
use Prim.Native.Nat.{ℕ, zero, suc}
use native.Mathlib.Omega.{arith}
use lib.ListN.{length, get_or, get_or-eq_default}
use lib.Dec.{T}
use Rattle.octets.specs.Choice.{same, All, some_of}
use Rattle.octets.proofs.Choice.{T_false, NoneFrom, none_from, pick-cases, same-eq}
use Rattle.rows.specs.Rows.{whose}

-- what holds of each holds of the one at any place, if it holds of what stands past the end
pub all_get_or : {A : Type 0} (P : A → Type 0) (xs : List A) (d : A) → All P xs → P d → (i : ℕ) → P (get_or xs i d)
all_get_or P [] d h p i = p
all_get_or P (x ∷ xs) d h p zero = h.0
all_get_or P (x ∷ xs) d h p (suc i) = all_get_or P xs d h.1 p i

-- and of each by another, if that follows
pub all_weaker : {A : Type 0} (P Q : A → Type 0) → ((x : A) → P x → Q x) → (xs : List A) → All P xs → All Q xs
all_weaker P Q f [] h = tt
all_weaker P Q f (x ∷ xs) h = (f x h.0, all_weaker P Q f xs h.1)

-- the last arm of a `match` on a number, which stands for 0 too
pub get_or-rest : {A : Type 0} (d : A) (xs : List A) (k : ℕ) → NoneFrom 1 (length xs) k → get_or (d ∷ xs) k d ≡ d
get_or-rest d xs zero t = refl
get_or-rest d xs (suc k) t = let past = none_from 1 (length xs) (suc k) (omega arith) t in get_or-eq_default xs d (omega arith)

module _ {A : Type 0} (row : A → List ℕ) (likely : List ℕ → A) (numbers : List ℕ) where
  -- a value with these numbers is the likely one
  own-likely : (x : A) → likely (row x) ≡ x → T (same (row x) numbers) → likely numbers ≡ x
  own-likely x e t = ap likely (sym (same-eq (row x) numbers t)) ∙ e

  -- the numbers are not the likely value's row: they are none's
  pub whose-none : (xs : List A) → All (λ x. likely (row x) ≡ x) xs → (row (likely numbers) ≡ numbers → ⊥) → whose row xs numbers ≡ none
  whose-none [] h n = refl
  whose-none (x ∷ xs) h n =
      let other = T_false (same (row x) numbers) (λ t. n (ap row (own-likely x h.0 t) ∙ same-eq (row x) numbers t)) in
      rw other (whose-none xs h.1 n)

  -- one of the values has these numbers: it is the likely one
  pub whose-some : (xs : List A) → All (λ x. likely (row x) ≡ x) xs → T (some_of (λ x. same (row x) numbers) xs)
      → whose row xs numbers ≡ some (likely numbers)
  whose-some [] h t = absurd t
  whose-some (x ∷ xs) h t =
      pick-cases (λ o. o ≡ some (likely numbers)) (same (row x) numbers) (some x) (whose row xs numbers)
      (λ s. ap some (sym (own-likely x h.0 s)))
      (λ f. whose-some xs h.1 (rw f at t))

-- numbers that are some value's are its row
pub whose-row : {A : Type 0} (row : A → List ℕ) (numbers : List ℕ) (x : A) (xs : List A) → whose row xs numbers ≡ some x → row x ≡ numbers
whose-row row numbers x [] e = absurd (none-ne-some x e)
whose-row {A} row numbers x (y ∷ xs) e =
    pick-cases (λ o. o ≡ some x → row x ≡ numbers) (same (row y) numbers) (some y) (whose row xs numbers)
    (λ t q. subst (λ (z : A). row z ≡ numbers) (some-injective y x q) (same-eq (row y) numbers t))
    (λ f q. whose-row row numbers x xs q)
    e
