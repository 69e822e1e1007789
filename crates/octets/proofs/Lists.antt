-- Laws on lists that the library lacks: elements one by one, and what `take` and `drop` do to one another. Assumes nothing.
use mathlib.Core.Path.{◌≡◌, refl, ap, ◌∙◌}
use mathlib.Core.List.{List, [], ◌∷◌, ◌++◌}
use mathlib.Core.Option.{some}
use Prim.Native.Nat.{ℕ, zero, suc, ◌+◌, ◌-◌, ◌≤◌}
use native.Mathlib.Nat.{sub-zero, zero-sub, suc-sub-suc}
use native.Mathlib.Omega.{arith}
use lib.ListN.{length, get_or, get_elem?, take, drop, length-drop}
use lib.Seq.{drop-cons, take_all, take-nil, slice}
pub use Rattle.std.proofs.lemmas.List.{get_or_default}

-- ---- the elements of a list, one by one

-- the next n elements from a place on
abbrev pub listed : ℕ → ℕ → List ℕ → List ℕ
listed zero at l = []
listed (suc n) at l = get_or l at 0 ∷ listed n (suc at) l

-- they are so many of what is left from the place on
pub listed-take : (n at : ℕ) (l : List ℕ) → at + n ≤ length l → listed n at l ≡ take n (drop at l)
listed-take zero at l h = refl
listed-take (suc n) at l h = rw (drop-cons l at 0 (omega arith), listed-take n (suc at) l (omega arith))

-- they are what is left of it, where the list ends with them
pub listed-drop : (n at : ℕ) (l : List ℕ) → length l ≡ at + n → listed n at l ≡ drop at l
listed-drop n at l e =
    let d : length (drop at l) ≡ length l - at = length-drop at l in
    listed-take n at l (omega arith) ∙ take_all n (drop at l) (omega arith)

-- ---- take, drop, slice

-- so many of what is left from a place on are those up to an end
pub take-drop-slice {ℓ} : {A : Type ℓ} (a e : ℕ) (l : List A) → take (e - a) (drop a l) ≡ slice a e l
take-drop-slice zero e l = rw sub-zero
take-drop-slice (suc a) e [] = rw (take-nil (e - suc a), take-nil e)
take-drop-slice (suc a) zero (x ∷ l) = rw zero-sub
take-drop-slice (suc a) (suc e) (x ∷ l) = rw suc-sub-suc (take-drop-slice a e l)

-- ---- an element, if there is one

-- an element is the first of what is left behind those before it
pub getElem?-drop : {A : Type 0} (n : ℕ) (l : List A) → get_elem? l n ≡ get_elem? (drop n l) 0
getElem?-drop zero l = refl
getElem?-drop (suc n) [] = refl
getElem?-drop (suc n) (x ∷ l) = getElem?-drop n l

-- one element more stands at the end
pub getElem?-snoc : {A : Type 0} (xs : List A) (x : A) → get_elem? (xs ++ (x ∷ [])) (length xs) ≡ some x
getElem?-snoc [] x = refl
getElem?-snoc (y ∷ xs) x = getElem?-snoc xs x

-- and nowhere else
pub getElem?-snoc-other : {A : Type 0} (xs : List A) (x : A) (k : ℕ) → (length xs ≡ k → ⊥) → get_elem? (xs ++ (x ∷ [])) k ≡ get_elem? xs k
getElem?-snoc-other [] x zero n = absurd (n refl)
getElem?-snoc-other [] x (suc k) n = refl
getElem?-snoc-other (y ∷ xs) x zero n = refl
getElem?-snoc-other (y ∷ xs) x (suc k) n = getElem?-snoc-other xs x k (λ e. n (ap suc e))
