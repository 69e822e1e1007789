-- Laws of the first element of which a test holds. Assumes nothing.
use mathlib.Core.Path.{◌≡◌, refl, sym, subst}
use mathlib.Core.Bool.{Bool}
use mathlib.Core.List.{List, [], ◌∷◌}
use mathlib.Core.Option.{some, none-ne-some, some-injective}
use lib.Dec.{T}
use Rattle.octets.specs.Choice.{All, first_by}
use Rattle.octets.proofs.Choice.{false-T, pick-cases}

module _ {A : Type 0} (t : A → Bool) (x : A) where
  -- it passes the test, and what holds of each holds of it
  pub first-all {ℓ} : (P : A → Type ℓ) (xs : List A) → All P xs → first_by t xs ≡ some x → P x × T (t x)
  first-all P [] h e = absurd (none-ne-some x e)
  first-all P (y ∷ xs) h e =
      pick-cases (λ o. o ≡ some x → P x × T (t x)) (t y) (some y) (first_by t xs)
      (λ b q. subst (λ (z : A). P z × T (t z)) (some-injective y x q) (h.0, b))
      (λ f q. first-all P xs h.1 q)
      e

  -- by another test that it passes there is a first too
  pub first-other : (u : A → Bool) (xs : List A) → first_by t xs ≡ some x → T (u x) → (y : A) × (first_by u xs ≡ some y)
  first-other u [] e b = absurd (none-ne-some x e)
  first-other u (y ∷ xs) e b =
      pick-cases (λ o. (z : A) × (o ≡ some z)) (u y) (some y) (first_by u xs)
      (λ c. (y, refl))
      (λ f. pick-cases (λ o. o ≡ some x → (z : A) × (first_by u xs ≡ some z)) (t y) (some y) (first_by t xs)
      (λ c q. absurd (false-T (u y) f (subst (λ (z : A). T (u z)) (sym (some-injective y x q)) b)))
      (λ g q. first-other u xs q b)
      e)
