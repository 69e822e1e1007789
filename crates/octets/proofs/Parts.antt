-- Laws of parts of lists: no more than there is, the first of two lists one behind the other, and lists that stand behind one another.
-- Assumes nothing.
use mathlib.Core.Path.{◌≡◌, refl, sym, ap, ◌∙◌}
use mathlib.Core.Logic.{⊎_elim}
use mathlib.Core.List.{List, [], ◌∷◌, ◌++◌, flatten, append_assoc, append-nil}
use Prim.Native.Nat.{ℕ, zero, suc, ◌+◌, ◌-◌, ◌≤◌, ◌<◌, min}
use native.Mathlib.Nat.{le_of_suc-le-suc, not-suc-le-zero}
use native.Mathlib.Numerals.{add-one}
use native.Mathlib.Omega.{arith}
use lib.ListN.{length, get_or, take}
use lib.Seq.{take_all, take-suc, take-append-le, take-append-add}
use Rattle.std.proofs.lemmas.List.{take_min}
use Rattle.octets.proofs.Choice.{le-or-lt}

-- ---- no more than there is

-- ---- the first of a list

-- two elements more
pub take-pair : (xs : List ℕ) (n : ℕ) → n + 1 < length xs → take (n + 2) xs ≡ take n xs ++ (get_or xs n 0 ∷ get_or xs (n + 1) 0 ∷ [])
take-pair xs n h =
    let e : n + 2 ≡ suc (suc n) = omega arith in
    rw (e, take-suc xs (suc n) 0 (omega arith), take-suc xs n 0 (omega arith), append_assoc, add-one)

-- what is cut off behind so many elements does not matter to so many of what goes on
pub take-take-append {ℓ} : {A : Type ℓ} (n : ℕ) (xs ys : List A) → take n (take n xs ++ ys) ≡ take n (xs ++ ys)
take-take-append zero xs ys = refl
take-take-append (suc n) [] ys = refl
take-take-append (suc n) (x ∷ xs) ys = ap (λ (l : List _). x ∷ l) (take-take-append n xs ys)

-- the first k of two lists, one behind the other: as many of the first as there are, and the others of the second
pub take-both : {A : Type 0} (xs ys : List A) (k n m : ℕ) → n ≡ min (length xs) k → m ≡ min (length ys) (k - n) → take n xs ++ take m ys ≡ take k (xs ++ ys)
take-both xs ys k n m e f =
    ⊎_elim
    (λ (h : length xs ≤ k).
    let i : k ≡ length xs + (k - n) = omega arith in
    let c : m ≡ min (k - n) (length ys) = omega arith in
    rw (take_all n xs (omega arith), c, take_min)
    (sym (ap (λ (j : ℕ). take j (xs ++ ys)) i ∙ take-append-add xs ys (k - n))))
    (λ (h : k < length xs).
    let i : n ≡ k = omega arith in
    let j : m ≡ 0 = omega arith in
    rw (i, j, append-nil, take-append-le k xs ys (omega arith)))
    (le-or-lt (length xs) k)

-- ---- lists behind one another

-- all of two lists of texts
pub flatten-append {ℓ} : {A : Type ℓ} (xs ys : List (List A)) → flatten (xs ++ ys) ≡ flatten xs ++ flatten ys
unfolding flatten
flatten-append [] ys = refl
flatten-append (x ∷ xs) ys =
    ap (λ (l : List _). x ++ l) (flatten-append xs ys) ∙ sym (append_assoc x (flatten xs) (flatten ys))

-- one more
pub flatten-next : {A : Type 0} (ls : List (List A)) (k : ℕ) → k < length ls → flatten (take (suc k) ls) ≡ flatten (take k ls) ++ get_or ls k []
unfolding flatten
flatten-next [] k h = absurd (not-suc-le-zero h)
flatten-next (l ∷ ls) zero h = append-nil l
flatten-next (l ∷ ls) (suc k) h = rw (flatten-next ls k (le_of_suc-le-suc h), append_assoc)
