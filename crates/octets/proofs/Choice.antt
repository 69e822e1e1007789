-- Laws of choice by a test, and of the tests on lists: what a test that holds says, and when it holds.
-- Assumes nothing.
use mathlib.Core.Path.{◌≡◌, refl, sym, ap, ap₂, subst}
use mathlib.Core.Logic.{◌⊎◌, inl, inr, ⊎_elim, ◌↔◌}
use mathlib.Core.Bool.{Bool, true, false, not, ◌&&◌, ◌||◌, and-eq-true_iff, and_assoc, or_assoc}
use mathlib.Core.List.{List, [], ◌∷◌, ◌++◌, map}
use mathlib.Core.Option
use mathlib.Core.Option.{none, some, some-ne-none, none-ne-some, some-injective, map-eq-none_iff, map-eq-some_iff}
use Prim.Native.Nat.{ℕ, zero, suc, ◌+◌, ◌≤◌, ◌<◌, zero-le, suc-le-suc}
use native.Mathlib.Nat.{le_of_suc-le-suc, not-suc-le-zero, zero-lt-suc, eq-or-lt_of_le}
use native.Mathlib.Omega.{arith}
use lib.ListN.{length, get_or, drop, replicate}
use lib.Dec.{T, leb, eqb, leb→le, eqb→eq, eqb_refl}
use borrow.Author.Tests.{leb-false}
use Rattle.octets.specs.Choice.{pick, same, begins, every, some_of, front, first_place}

-- ---- a test and its value

-- a test that holds is true
pub T_true : (b : Bool) → T b → b ≡ true
T_true true t = refl
T_true false t = absurd t

-- a test that is true holds
pub true-T : (b : Bool) → b ≡ true → T b
true-T b e = rw e tt

-- a test that does not hold is false
pub T_false : (b : Bool) → (T b → ⊥) → b ≡ false
T_false true h = absurd (h tt)
T_false false h = refl

-- a test that is false does not hold
pub false-T : (b : Bool) → b ≡ false → T b → ⊥
false-T b e t = rw e at t

-- a test holds or is false
pub decide : (b : Bool) → T b ⊎ (b ≡ false)
decide true = inl tt
decide false = inr refl

-- of two numbers the first is at most the second, or the second is below it
pub le-or-lt : (a b : ℕ) → (a ≤ b) ⊎ (b < a)
le-or-lt a b = ⊎_elim (λ t. inl (leb→le a b t)) (λ e. inr (leb-false a b e)) (decide (leb a b))

-- two tests that hold together are one
pub test-eq : (a b : Bool) → (T a → T b) → (T b → T a) → a ≡ b
test-eq true b f g = sym (T_true b (f tt))
test-eq false b f g = sym (T_false b g)

-- ---- both tests, and either

-- both hold, so the two do
pub T_and : (a b : Bool) → T a → T b → T (a && b)
T_and true b t u = u
T_and false b t u = t

-- the two hold, so the first does
pub T-and-left : (a b : Bool) → T (a && b) → T a
T-and-left true b t = tt
T-and-left false b t = t

-- the two hold, so the second does
pub T-and-right : (a b : Bool) → T (a && b) → T b
T-and-right true b t = t
T-and-right false b t = absurd t

-- the two are true, so the first is
pub and-true_left : (a b : Bool) → (a && b) ≡ true → a ≡ true
and-true_left a b e = ((and-eq-true_iff a b).0 e).0

-- the two are true, so the second is
pub and-true_right : (a b : Bool) → (a && b) ≡ true → b ≡ true
and-true_right a b e = ((and-eq-true_iff a b).0 e).1

-- the first holds, so one of the two does
pub T-or-left : (a b : Bool) → T a → T (a || b)
T-or-left true b t = tt
T-or-left false b t = absurd t

-- the second holds, so one of the two does
pub T-or-right : (a b : Bool) → T b → T (a || b)
T-or-right true b t = tt
T-or-right false b t = t

-- one of the two holds, so the first or the second does
pub T-or-cases : (a b : Bool) → T (a || b) → T a ⊎ T b
T-or-cases true b t = inl tt
T-or-cases false b t = inr t

-- the one holds and the other does not: that is false exactly if the other holds where the one does
pub unless : (a b : Bool) → ((a && not b) ≡ false) ↔ (T a → T b)
unless true true = ((λ e t. tt), (λ h. refl))
unless true false = ((λ e t. false-T true e tt), (λ h. absurd (h tt)))
unless false b = ((λ e t. absurd t), (λ h. refl))

-- the one does not hold or the other does exactly if the other holds where the one does
pub implies : (a b : Bool) → T (not a || b) ↔ (T a → T b)
implies true b = ((λ t u. t), (λ h. h tt))
implies false b = ((λ t u. absurd u), (λ h. tt))

-- neither holds
pub or-false-both : (a b : Bool) → (a || b) ≡ false → (a ≡ false) × (b ≡ false)
or-false-both true b e = absurd (false-T true e tt)
or-false-both false b e = (refl, e)

-- ---- pick

-- a test that is true picks the first
pub pick_true {ℓ} : {A : Type ℓ} (b : Bool) (x y : A) → b ≡ true → pick b x y ≡ x
pick_true b x y e = rw e

-- a test that is false picks the second
pub pick-false {ℓ} : {A : Type ℓ} (b : Bool) (x y : A) → b ≡ false → pick b x y ≡ y
pick-false b x y e = rw e

-- a choice between the same is no choice
pub pick_same {ℓ} : {A : Type ℓ} (b : Bool) (x : A) → pick b x x ≡ x
pick_same true x = refl
pick_same false x = refl

-- what holds of the first where the test holds, and of the second where it is false, holds of the one picked
pub pick-cases {ℓ κ} : {A : Type ℓ} (P : A → Type κ) (b : Bool) (x y : A) → (T b → P x) → (b ≡ false → P y) → P (pick b x y)
pick-cases P true x y f g = f tt
pick-cases P false x y f g = g refl

-- ---- same: two lists hold the same numbers

-- a list is the same as itself
pub same_refl : (xs : List ℕ) → T (same xs xs)
same_refl [] = tt
same_refl (x ∷ xs) = T_and (eqb x x) (same xs xs) (eqb_refl x) (same_refl xs)

-- equal lists are the same
pub eq-same : (xs ys : List ℕ) → xs ≡ ys → T (same xs ys)
eq-same xs ys e = rw (← e) (same_refl xs)

-- lists that are the same are equal
pub same-eq : (xs ys : List ℕ) → T (same xs ys) → xs ≡ ys
same-eq [] [] t = refl
same-eq [] (y ∷ ys) t = absurd t
same-eq (x ∷ xs) [] t = absurd t
same-eq (x ∷ xs) (y ∷ ys) t =
    rw (eqb→eq x y (T-and-left (eqb x y) (same xs ys) t), same-eq xs ys (T-and-right (eqb x y) (same xs ys) t))

-- ---- begins: a list begins with another

-- a list with more behind it begins with it
pub begins-append : (xs s : List ℕ) → T (begins xs (xs ++ s))
begins-append [] s = tt
begins-append (x ∷ xs) s = T_and (eqb x x) (begins xs (xs ++ s)) (eqb_refl x) (begins-append xs s)

-- what a list begins with, and the rest, are the list
pub begins-split : (xs s : List ℕ) → T (begins xs s) → s ≡ xs ++ drop (length xs) s
begins-split [] s t = refl
begins-split (x ∷ xs) [] t = absurd t
begins-split (x ∷ xs) (y ∷ s) t =
    ap₂ (λ (z : ℕ) (zs : List ℕ). z ∷ zs)
    (sym (eqb→eq x y (T-and-left (eqb x y) (begins xs s) t)))
    (begins-split xs s (T-and-right (eqb x y) (begins xs s) t))

-- a list begins with two, one after the other
pub begins-of-append : (xs ys s : List ℕ) → begins (xs ++ ys) s ≡ (begins xs s && begins ys (drop (length xs) s))
begins-of-append [] ys s = refl
begins-of-append (x ∷ xs) ys [] = refl
begins-of-append (x ∷ xs) ys (y ∷ s) = rw (begins-of-append xs ys s) (sym (and_assoc (eqb x y) (begins xs s) (begins ys (drop (length xs) s))))

-- ---- a test at every number below a bound: how what holds of a small table is computed

-- a test at every number below n
abbrev pub all_below : ℕ → (ℕ → Bool) → Bool
all_below zero p = true
all_below (suc n) p = p n && all_below n p

-- so the test holds at each of them
pub below : (n : ℕ) (p : ℕ → Bool) → T (all_below n p) → (k : ℕ) → k < n → T (p k)
below zero p t k l = absurd (not-suc-le-zero l)
below (suc n) p t k l =
    ⊎_elim (λ h. below n p (T-and-right (p n) (all_below n p) t) k h)
    (λ h. subst (λ (i : ℕ). T (p i)) (omega arith) (T-and-left (p n) (all_below n p) t))
    (le-or-lt (suc k) n)

-- none of the n numbers from a on, as the last arm of a `match` is told
abbrev pub NoneFrom : ℕ → ℕ → ℕ → Type 0
NoneFrom a zero k = Unit {0}
NoneFrom a (suc n) k = NoneFrom a n k × (k ≡ a + n → ⊥)

-- so a number that is a or more is past them
pub none_from : (a n k : ℕ) → a ≤ k → NoneFrom a n k → a + n ≤ k
none_from a zero k h t = omega arith
none_from a (suc n) k h t =
    ⊎_elim (λ e. absurd (t.1 (sym e))) (λ l. omega arith) (eq-or-lt_of_le (none_from a n k h t.0))

-- ---- every: a test holds of each element

module _ {ℓ} {A : Type ℓ} (p : A → Bool) where
  -- of each element of two lists
  pub every_append : (xs ys : List A) → every p (xs ++ ys) ≡ (every p xs && every p ys)
  every_append [] ys = refl
  every_append (x ∷ xs) ys = rw (every_append xs ys) (sym (and_assoc (p x) (every p xs) (every p ys)))

  -- of an element however often it stands there
  pub every-replicate : (n : ℕ) (a : A) → T (p a) → T (every p (replicate n a))
  every-replicate zero a t = tt
  every-replicate (suc n) a t = T_and (p a) (every p (replicate n a)) t (every-replicate n a t)

  -- it holds of each element, so at each index
  pub every-get_or : (xs : List A) (i : ℕ) (d : A) → T (every p xs) → i < length xs → T (p (get_or xs i d))
  every-get_or [] i d t h = absurd (not-suc-le-zero h)
  every-get_or (x ∷ xs) zero d t h = T-and-left (p x) (every p xs) t
  every-get_or (x ∷ xs) (suc i) d t h = every-get_or xs i d (T-and-right (p x) (every p xs) t) (le_of_suc-le-suc h)

  -- and of what stands for an element past the end
  pub every-get_or-or : (xs : List A) (i : ℕ) (d : A) → T (every p xs) → T (p d) → T (p (get_or xs i d))
  every-get_or-or [] i d t s = s
  every-get_or-or (x ∷ xs) zero d t s = T-and-left (p x) (every p xs) t
  every-get_or-or (x ∷ xs) (suc i) d t s = every-get_or-or xs i d (T-and-right (p x) (every p xs) t) s

  -- the test holds at each index, so of each element
  pub get_or-every : (xs : List A) (d : A) → ((i : ℕ) → i < length xs → T (p (get_or xs i d))) → T (every p xs)
  get_or-every [] d h = tt
  get_or-every (x ∷ xs) d h =
      T_and (p x) (every p xs) (h zero (zero-lt-suc (length xs))) (get_or-every xs d (λ i l. h (suc i) (suc-le-suc l)))

-- a test that holds of each element holds of each that is left
pub every_drop : {A : Type 0} (p : A → Bool) (n : ℕ) (l : List A) → T (every p l) → T (every p (drop n l))
every_drop p zero l t = t
every_drop p (suc n) [] t = t
every_drop p (suc n) (x ∷ l) t = every_drop p n l (T-and-right (p x) (every p l) t)

-- what holds of each by one test holds by a weaker one
pub every-weaker : {A : Type 0} (p q : A → Bool) → ((x : A) → T (p x) → T (q x)) → (l : List A) → T (every p l) → T (every q l)
every-weaker p q h [] t = tt
every-weaker p q h (x ∷ l) t =
    T_and (q x) (every q l) (h x (T-and-left (p x) (every p l) t)) (every-weaker p q h l (T-and-right (p x) (every p l) t))

-- one that holds of each element of two lists holds of each of the two together
pub every-both : {A : Type 0} (p : A → Bool) (xs ys : List A) → T (every p xs) → T (every p ys) → T (every p (xs ++ ys))
every-both p xs ys t u = rw every_append (T_and (every p xs) (every p ys) t u)

-- ---- front: the longest front of which a test holds

module _ (p : ℕ → Bool) where
  -- an element that fails ends the front
  pub front-cons-false : (x : ℕ) (xs : List ℕ) → p x ≡ false → front p (x ∷ xs) ≡ []
  front-cons-false x xs e = rw e

  -- each element of the front passes
  pub every_front : (s : List ℕ) → T (every p (front p s))
  every_front [] = tt
  every_front (x ∷ xs) =
      pick-cases (λ l. T (every p l)) (p x) (x ∷ front p xs) [] (λ t. T_and (p x) (every p (front p xs)) t (every_front xs)) (λ e. tt)

  -- the front and the rest are the list
  pub front-split : (s : List ℕ) → s ≡ front p s ++ drop (length (front p s)) s
  front-split [] = refl
  front-split (x ∷ xs) =
      pick-cases (λ l. x ∷ xs ≡ l ++ drop (length l) (x ∷ xs)) (p x) (x ∷ front p xs) []
      (λ t. ap (λ (r : List ℕ). x ∷ r) (front-split xs))
      (λ e. refl)

  -- the front is no longer than the list
  pub length-front-le : (s : List ℕ) → length (front p s) ≤ length s
  length-front-le [] = zero-le
  length-front-le (x ∷ xs) =
      pick-cases (λ l. length l ≤ suc (length xs)) (p x) (x ∷ front p xs) [] (λ t. suc-le-suc (length-front-le xs)) (λ e. zero-le)

  -- the element after the front fails
  pub front-stop : (s : List ℕ) → length (front p s) < length s → p (get_or s (length (front p s)) 0) ≡ false
  front-stop [] h = absurd (not-suc-le-zero h)
  front-stop (x ∷ xs) h =
      pick-cases (λ l. length l < suc (length xs) → p (get_or (x ∷ xs) (length l) 0) ≡ false) (p x) (x ∷ front p xs) []
      (λ t l. front-stop xs (le_of_suc-le-suc l))
      (λ e l. e)
      h

  -- elements that all pass are the front
  pub front-all : (xs : List ℕ) → T (every p xs) → front p xs ≡ xs
  front-all [] t = refl
  front-all (x ∷ xs) t =
      rw (T_true (p x) (T-and-left (p x) (every p xs) t), front-all xs (T-and-right (p x) (every p xs) t))

  -- up to one that fails
  pub front-append : (xs ys : List ℕ) (c : ℕ) → T (every p xs) → p c ≡ false → front p (xs ++ (c ∷ ys)) ≡ xs
  front-append [] ys c t e = front-cons-false c ys e
  front-append (x ∷ xs) ys c t e =
      rw (T_true (p x) (T-and-left (p x) (every p xs) t), front-append xs ys c (T-and-right (p x) (every p xs) t) e)

-- ---- some_of: a test holds of some element

module _ {ℓ} {A : Type ℓ} (p : A → Bool) where
  -- it holds at an index, so of some element
  pub some-of-get_or : (xs : List A) (i : ℕ) (d : A) → i < length xs → T (p (get_or xs i d)) → T (some_of p xs)
  some-of-get_or [] i d h t = absurd (not-suc-le-zero h)
  some-of-get_or (x ∷ xs) zero d h t = T-or-left (p x) (some_of p xs) t
  some-of-get_or (x ∷ xs) (suc i) d h t = T-or-right (p x) (some_of p xs) (some-of-get_or xs i d (le_of_suc-le-suc h) t)

  -- the test fails at each index, so of each element
  pub some-of-false : (xs : List A) (d : A) → ((i : ℕ) → i < length xs → p (get_or xs i d) ≡ false) → some_of p xs ≡ false
  some-of-false [] d h = refl
  some-of-false (x ∷ xs) d h =
      rw (h zero (zero-lt-suc (length xs)), some-of-false xs d (λ i l. h (suc i) (suc-le-suc l)))

-- of two lists, in one or the other
pub some-of-append : {A : Type 0} (p : A → Bool) (xs ys : List A) → some_of p (xs ++ ys) ≡ (some_of p xs || some_of p ys)
some-of-append p [] ys = refl
some-of-append p (x ∷ xs) ys = rw (some-of-append p xs ys) (sym (or_assoc (p x) (some_of p xs) (some_of p ys)))

-- a test of what each is mapped to
pub some-of-map : {A B : Type 0} (p : B → Bool) (f : A → B) (xs : List A) → some_of p (map f xs) ≡ some_of (λ (x : A). p (f x)) xs
some-of-map p f [] = refl
some-of-map p f (x ∷ xs) = rw (some-of-map p f xs)

-- ---- first_place: where a test first holds of an element

-- i is the first index at which the test holds
pub record FirstAt {ℓ} {A : Type ℓ} (p : A → Bool) (xs : List A) (d : A) (i : ℕ) : Type 0 where
  pub inside : i < length xs
  pub passes : p (get_or xs i d) ≡ true
  pub earlier : (k : ℕ) → k < i → p (get_or xs k d) ≡ false

module _ {ℓ} {A : Type ℓ} (p : A → Bool) where
  -- the first element passes
  first-here : (x : A) (xs : List A) (d : A) → p x ≡ true → FirstAt p (x ∷ xs) d zero
  first-here x xs d e = record { inside = zero-lt-suc (length xs); passes = e; earlier = λ k l. absurd (not-suc-le-zero l) }

  -- one that fails goes before
  first-after : (x : A) (xs : List A) (d : A) (i : ℕ) → p x ≡ false → FirstAt p xs d i → FirstAt p (x ∷ xs) d (suc i)
  first-after x xs d i e f = record { inside = suc-le-suc f.inside; passes = f.passes; earlier = go }
    where
      go : (k : ℕ) → k < suc i → p (get_or (x ∷ xs) k d) ≡ false
      go zero l = e
      go (suc k) l = f.earlier k (le_of_suc-le-suc l)

  -- and is taken away again
  first_rest : (x : A) (xs : List A) (d : A) (i : ℕ) → FirstAt p (x ∷ xs) d (suc i) → FirstAt p xs d i
  first_rest x xs d i f = record { inside = le_of_suc-le-suc f.inside; passes = f.passes; earlier = λ k l. f.earlier (suc k) (suc-le-suc l) }

  -- no element passes: there is no place
  pub first-place-none : (xs : List A) (d : A) → ((i : ℕ) → i < length xs → p (get_or xs i d) ≡ false) → first_place p xs ≡ none
  first-place-none [] d h = refl
  first-place-none (x ∷ xs) d h =
      rw (h zero (zero-lt-suc (length xs)), first-place-none xs d (λ i l. h (suc i) (suc-le-suc l)))

  -- the first that passes: its index is the place
  pub first-place-some : (xs : List A) (d : A) (i : ℕ) → FirstAt p xs d i → first_place p xs ≡ some i
  first-place-some [] d i f = absurd (not-suc-le-zero f.inside)
  first-place-some (x ∷ xs) d zero f = rw f.passes
  first-place-some (x ∷ xs) d (suc i) f =
      rw (f.earlier zero (zero-lt-suc i), first-place-some xs d i (first_rest x xs d i f))

  -- no place: no element passes
  pub none-first-place : (xs : List A) (d : A) → first_place p xs ≡ none → (i : ℕ) → i < length xs → p (get_or xs i d) ≡ false
  none-first-place [] d e i h = absurd (not-suc-le-zero h)
  none-first-place (x ∷ xs) d e zero h =
      pick-cases (λ o. o ≡ none → p x ≡ false) (p x) (some zero) (Option.map suc (first_place p xs))
      (λ t q. absurd (some-ne-none zero q))
      (λ f q. f)
      e
  none-first-place (x ∷ xs) d e (suc i) h =
      pick-cases (λ o. o ≡ none → p (get_or xs i d) ≡ false) (p x) (some zero) (Option.map suc (first_place p xs))
      (λ t q. absurd (some-ne-none zero q))
      (λ f q. none-first-place xs d ((map-eq-none_iff suc (first_place p xs)).0 q) i (le_of_suc-le-suc h))
      e

  -- a place: the index of the first that passes
  pub some-first-place : (xs : List A) (d : A) (i : ℕ) → first_place p xs ≡ some i → FirstAt p xs d i
  some-first-place [] d i e = absurd (none-ne-some i e)
  some-first-place (x ∷ xs) d i e =
      pick-cases (λ o. o ≡ some i → FirstAt p (x ∷ xs) d i) (p x) (some zero) (Option.map suc (first_place p xs))
      (λ t q. subst (FirstAt p (x ∷ xs) d) (some-injective zero i q) (first-here x xs d (T_true (p x) t)))
      (λ f q.
      let m = (map-eq-some_iff suc (first_place p xs)).0 q in
      subst (FirstAt p (x ∷ xs) d) m.2 (first-after x xs d m.0 f (some-first-place xs d m.0 m.1)))
      e
