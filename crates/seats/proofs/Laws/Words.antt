-- The words of the definitions in those of std's iterators and slices. Assumes nothing.
use mathlib.Core.Path.{◌≡◌, refl, sym, ap, ◌∙◌}
use mathlib.Core.Bool.{Bool, true, false, not, cond, ◌&&◌, ◌||◌, and-true, and_assoc}
use mathlib.Core.List.{List, [], ◌∷◌}
use mathlib.Core.Option.{Option as Place, none, some, map}
use Prim.Native.Nat.{ℕ, zero, suc, ◌+◌, ◌<◌, suc-le-suc}
use native.Mathlib.Nat.{zero-lt-suc, le_of_suc-le-suc, not-suc-le-zero}
use native.Mathlib.Omega.{arith}
use lib.ListN.{length, get_or, take}
use lib.Seq.{take-suc}
use native.Mathlib.Numerals.{add-one}
use lib.Dec.{ltb, eqb}
use borrow.Author.Tests.{ltb-true, ltb-false, lt-ltb, le-ltb}
use Rattle.std.specs.Prelude.{Option, Some, None, is_some, position}
use Rattle.std.specs.List.{prefix_len, position_or_len, list_any, starts_with}
use Rattle.std.specs.Bool.{Decides}
use Rattle.std.specs.Cmp.Lexicographic.{pointwise}
use Rattle.std.proofs.lemmas.Slice.Eq.{bytes_eq-Decides}
use Rattle.octets.specs.Choice.{pick, same, every, front, first_place}
use Rattle.octets.proofs.Choice.{T_true, true-T, test-eq, same-eq, eq-same, every_append}
use Rattle.octets.proofs.Places.{length-front-every}
use Rattle.sheet.specs.Judge.{user_id}
use Rattle.sheet.specs.Value.{name_of}
use Rattle.sheet.specs.Find.{seat_of_user, is_none, new_name}
use Rattle.sheet.specs.Inner.{nonzero}
use Rattle.sheet.proofs.Laws.Rows.{same-name_of, new_name-taken, new_name-free}
use Rattle.seats.specs.Found.{found_said}

-- the longest front of which a test holds
pub take-front : (p : ℕ → Bool) (xs : List ℕ) → take (prefix_len p xs) xs ≡ front p xs
take-front p [] = refl
take-front p (x ∷ xs) = by-test (p x) (take-front p xs)
  where
    by-test : (b : Bool) → take (prefix_len p xs) xs ≡ front p xs → take (cond b (1 + prefix_len p xs) 0) (x ∷ xs) ≡ pick b (x ∷ front p xs) []
    by-test true e =
        let more : 1 + prefix_len p xs ≡ suc (prefix_len p xs) = omega arith in
        rw more (ap (λ (ys : List ℕ). x ∷ ys) e)
    by-test false e = refl

-- the place of the first element of which a test holds
pub first-place : {A : Type 0} (p : A → Bool) (xs : List A) → found_said (position p xs) ≡ first_place p xs
first-place p [] = refl
first-place p (x ∷ xs) = by-test (p x) (ltb n (length xs)) refl (first-place p xs)
  where
    n : ℕ
    n = position_or_len p xs

    by-test : (b inside : Bool) → ltb n (length xs) ≡ inside → found_said (cond inside (Some n) None) ≡ first_place p xs
        → found_said (cond (ltb (cond (not b) (1 + n) 0) (suc (length xs))) (Some (cond (not b) (1 + n) 0)) None) ≡ pick b (some 0) (map suc (first_place p xs))
    by-test true inside q e = rw (lt-ltb 0 (suc (length xs)) (omega arith))
    by-test false true q e = rw (lt-ltb (1 + n) (suc (length xs)) (omega (arith, ltb-true n (length xs) q)), ← e) (ap some (omega arith))
    by-test false false q e = rw (le-ltb (1 + n) (suc (length xs)) (omega (arith, ltb-false n (length xs) q)), ← e)

-- a test that decides whether two lists are equal
same-decides : (xs ys : List ℕ) (r : Bool) → Decides r (xs ≡ ys) → r ≡ same xs ys
same-decides xs ys r d = test-eq r (same xs ys) (λ t. eq-same xs ys (d.0 (T_true r t))) (λ t. true-T r (d.1 (same-eq xs ys t)))

-- the front of a list compared
same-starts : (xs ys : List ℕ) → starts_with eqb xs ys ≡ same (take (length ys) xs) ys
same-starts xs ys =
    let front = take (length ys) xs in
    let d = bytes_eq-Decides ys front in
    same-decides front ys (pointwise eqb ys front) (λ e. sym (d.0 e), λ e. d.1 (sym e))

-- no octet is zero
none-zero : (xs : List ℕ) → not (list_any (λ x. eqb x 0) xs) ≡ every nonzero xs
none-zero [] = refl
none-zero (x ∷ xs) = by-test (eqb x 0) (none-zero xs)
  where
    by-test : (b : Bool) → not (list_any (λ y. eqb y 0) xs) ≡ every nonzero xs → not (b || list_any (λ y. eqb y 0) xs) ≡ (not b && every nonzero xs)
    by-test true e = refl
    by-test false e = e

-- A row's name is a given one: the octet behind it is zero, the row begins with it and it has no zero.
pub name_asked : (row name : List ℕ) (last : ℕ) (starts holds : Bool) → last ≡ get_or row (length name) 0 → starts ≡ starts_with eqb row name
    → holds ≡ list_any (λ x. eqb x 0) name → same (name_of row) name ≡ (eqb last 0 && (starts && not holds))
name_asked row name last starts holds l s h =
    same-name_of row name
    ∙ rw (l, s, h, same-starts row name, none-zero name)
    (unfold name_of in rw (length-front-every nonzero name))

-- one octet more is visible
pub every_more : (p : ℕ → Bool) (xs : List ℕ) (i : ℕ) → i < length xs → every p (take (i + 1) xs) ≡ (every p (take i xs) && p (get_or xs i 0))
every_more p xs i h = rw (add-one, take-suc xs i 0, every_append) (rw and-true)

-- none passes a test, where another test says the same of each
pub none-any : {A : Type 0} (p q : A → Bool) (xs : List A) (d : A) → ((i : ℕ) → i < length xs → p (get_or xs i d) ≡ q (get_or xs i d))
    → is_none (first_place p xs) ≡ not (list_any q xs)
none-any p q [] d h = refl
none-any p q (x ∷ xs) d h = rw (h 0 (zero-lt-suc (length xs))) (by-test (q x) (none-any p q xs d (λ i l. h (suc i) (suc-le-suc l))))
  where
    unmapped : (o : Place ℕ) → is_none (map suc o) ≡ is_none o
    unmapped none = refl
    unmapped (some n) = refl

    by-test : (b : Bool) → is_none (first_place p xs) ≡ not (list_any q xs) → is_none (pick b (some 0) (map suc (first_place p xs))) ≡ not (b || list_any q xs)
    by-test true e = refl
    by-test false e = unmapped (first_place p xs) ∙ e

-- where a name can be a User ID, it is new where no seat is found
pub found-new : (seats : ℕ) (users : List (List ℕ)) (name : List ℕ) (found : Option ℕ) (r : Bool)
    → user_id name ≡ true → found_said found ≡ seat_of_user seats users name → is_some found ≡ not r → r ≡ new_name seats users name
found-new seats users name (Some s) false u f e = sym (new_name-taken seats users name s (sym f))
found-new seats users name (Some s) true u f e = cc
found-new seats users name None false u f e = cc
found-new seats users name None true u f e = sym (new_name-free seats users name u (sym f))

-- one octet more is the same
pub same_more : (xs ys : List ℕ) (i : ℕ) → i < length xs → i < length ys
    → same (take (i + 1) xs) (take (i + 1) ys) ≡ (same (take i xs) (take i ys) && eqb (get_or xs i 0) (get_or ys i 0))
same_more xs ys i h l = rw add-one (go xs ys i h l)
  where
    go : (xs ys : List ℕ) (i : ℕ) → i < length xs → i < length ys
        → same (take (suc i) xs) (take (suc i) ys) ≡ (same (take i xs) (take i ys) && eqb (get_or xs i 0) (get_or ys i 0))
    go [] ys i h l = absurd (not-suc-le-zero h)
    go (x ∷ xs) [] i h l = absurd (not-suc-le-zero l)
    go (x ∷ xs) (y ∷ ys) zero h l = and-true (eqb x y)
    go (x ∷ xs) (y ∷ ys) (suc i) h l =
        rw (go xs ys i (le_of_suc-le-suc h) (le_of_suc-le-suc l)) (sym (and_assoc (eqb x y) (same (take i xs) (take i ys)) (eqb (get_or xs i 0) (get_or ys i 0))))
