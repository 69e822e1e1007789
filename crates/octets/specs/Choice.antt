-- Choice by a test, and the tests on lists that the definitions of every crate are written with.
-- Assumes nothing.
use Rattle.std.specs.Prelude.{ℕ, zero, suc, Bool, true, false, ◌&&◌, ◌||◌, List, [], ◌∷◌, eqb}
use Rattle.std.proofs.Math.Option.{Option, none, some, map}

-- the first where the test holds, else the second
abbrev pub pick {ℓ} : {A : Type ℓ} → Bool → A → A → A
pick true a b = a
pick false a b = b

-- the two lists hold the same numbers
abbrev pub same : List ℕ → List ℕ → Bool
same [] [] = true
same [] (y ∷ ys) = false
same (x ∷ xs) [] = false
same (x ∷ xs) (y ∷ ys) = eqb x y && same xs ys

-- the list s begins with xs
abbrev pub begins : List ℕ → List ℕ → Bool
begins [] s = true
begins (x ∷ xs) [] = false
begins (x ∷ xs) (y ∷ s) = eqb x y && begins xs s

-- the test holds of each element
abbrev pub every {ℓ} : {A : Type ℓ} → (A → Bool) → List A → Bool
every p [] = true
every p (x ∷ xs) = p x && every p xs

-- the test holds of some element
abbrev pub some_of {ℓ} : {A : Type ℓ} → (A → Bool) → List A → Bool
some_of p [] = false
some_of p (x ∷ xs) = p x || some_of p xs

-- the elements of which the test holds
abbrev pub keep {ℓ} : {A : Type ℓ} → (A → Bool) → List A → List A
keep p [] = []
keep p (x ∷ xs) = pick (p x) (x ∷ keep p xs) (keep p xs)

-- the longest front of the list of which the test holds
abbrev pub front : (ℕ → Bool) → List ℕ → List ℕ
front p [] = []
front p (x ∷ xs) = pick (p x) (x ∷ front p xs) []

-- the place of the first element of which the test holds
abbrev pub first_place {ℓ} : {A : Type ℓ} → (A → Bool) → List A → Option ℕ
first_place p [] = none
first_place p (x ∷ xs) = pick (p x) (some zero) (map suc (first_place p xs))

-- the first element of which the test holds
abbrev pub first_by {ℓ} : {A : Type ℓ} → (A → Bool) → List A → Option A
first_by p [] = none
first_by p (x ∷ xs) = pick (p x) (some x) (first_by p xs)

-- what holds of each element
abbrev pub All {ℓ} : {A : Type 0} → (A → Type ℓ) → List A → Type ℓ
All P [] = Unit {ℓ}
All P (x ∷ xs) = P x × All P xs
