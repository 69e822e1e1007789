-- Laws of the elements of a list of which a test holds: of two lists, under another test, and how many there are.
-- Assumes nothing.
use mathlib.Core.Path.{◌≡◌, refl, ◌∙◌}
use mathlib.Core.Logic.{⊎_elim}
use mathlib.Core.Bool.{Bool, true, false}
use mathlib.Core.List.{List, [], ◌∷◌, ◌++◌, append-nil}
use lib.ListN.{length, drop, length-append}
use lib.Seq.{drop-drop}
use lib.Dec.{T}
use Rattle.octets.specs.Choice.{pick, every, keep, some_of}
use Rattle.octets.proofs.Choice.{T_true, decide, T_and, T-and-left, T-and-right, or-false-both, pick-cases}

module _ {A : Type 0} (p : A → Bool) where
  -- of two lists, one after the other
  pub keep_append : (xs ys : List A) → keep p (xs ++ ys) ≡ keep p xs ++ keep p ys
  keep_append [] ys = refl
  keep_append (x ∷ xs) ys =
      pick-cases (λ l. pick (p x) (x ∷ keep p (xs ++ ys)) (keep p (xs ++ ys)) ≡ l ++ keep p ys) (p x) (x ∷ keep p xs) (keep p xs)
      (λ t. rw (T_true (p x) t, keep_append xs ys))
      (λ e. rw (e, keep_append xs ys))

  -- a test that holds of each element keeps all
  pub keep_all : (xs : List A) → T (every p xs) → keep p xs ≡ xs
  keep_all [] t = refl
  keep_all (x ∷ xs) t =
      rw (T_true (p x) (T-and-left (p x) (every p xs) t), keep_all xs (T-and-right (p x) (every p xs) t))

  -- the test holds of each of them
  pub every-keep : (xs : List A) → T (every p (keep p xs))
  every-keep [] = tt
  every-keep (x ∷ xs) =
      pick-cases (λ l. T (every p l)) (p x) (x ∷ keep p xs) (keep p xs) (λ t. T_and (p x) (every p (keep p xs)) t (every-keep xs)) (λ e. every-keep xs)

  -- a test that holds of each element holds of each that another keeps
  pub every-kept : (q : A → Bool) (xs : List A) → T (every q xs) → T (every q (keep p xs))
  every-kept q [] t = t
  every-kept q (x ∷ xs) t =
      let rest = every-kept q xs (T-and-right (q x) (every q xs) t) in
      pick-cases (λ l. T (every q l)) (p x) (x ∷ keep p xs) (keep p xs) (λ u. T_and (q x) (every q (keep p xs)) (T-and-left (q x) (every q xs) t) rest) (λ e. rest)

  -- it holds of none, so none is kept
  pub keep-none : (xs : List A) → some_of p xs ≡ false → keep p xs ≡ []
  keep-none [] e = refl
  keep-none (x ∷ xs) e =
      let both = or-false-both (p x) (some_of p xs) e in
      rw both.0 (keep-none xs both.1)

  -- of what another test keeps: all, or nothing, where that test is the same on each
  pub keep-keep : (q : A → Bool) (b : Bool) → ((x : A) → T (p x) → q x ≡ b) → (xs : List A) → keep p (keep q xs) ≡ pick b (keep p xs) []
  keep-keep q true h [] = refl
  keep-keep q false h [] = refl
  keep-keep q b h (x ∷ xs) =
      ⊎_elim
      (λ t. rw (h x t) (kept b (T_true (p x) t) (keep-keep q b h xs)))
      (λ e. pick-cases (λ l. keep p l ≡ pick b (pick (p x) (x ∷ keep p xs) (keep p xs)) []) (q x) (x ∷ keep q xs) (keep q xs)
      (λ t. rw e (keep-keep q b h xs))
      (λ f. rw e (keep-keep q b h xs)))
      (decide (p x))
    where
      kept : (c : Bool) → p x ≡ true → keep p (keep q xs) ≡ pick c (keep p xs) []
          → keep p (pick c (x ∷ keep q xs) (keep q xs)) ≡ pick c (pick (p x) (x ∷ keep p xs) (keep p xs)) []
      kept true t e = rw (t, e)
      kept false t e = e

  -- what is left behind so many, with one element more
  pub drop-keep-snoc : {B : Type 0} (xs : List A) (x : A) (l : List B)
      → drop (length (keep p (xs ++ (x ∷ [])))) l ≡ pick (p x) (drop 1 (drop (length (keep p xs)) l)) (drop (length (keep p xs)) l)
  drop-keep-snoc xs x l =
      rw (keep_append xs (x ∷ []), length-append, ← drop-drop)
      (pick-cases (λ k. drop (length k) (drop (length (keep p xs)) l) ≡ pick (p x) (drop 1 (drop (length (keep p xs)) l)) (drop (length (keep p xs)) l)) (p x) (x ∷ []) []
      (λ t. rw (T_true (p x) t))
      (λ e. rw e))

  -- one element more, which is kept
  pub keep-snoc-true : (xs : List A) (x : A) → p x ≡ true → keep p (xs ++ (x ∷ [])) ≡ keep p xs ++ (x ∷ [])
  keep-snoc-true xs x e = keep_append xs (x ∷ []) ∙ rw e

  -- one that is not
  pub keep-snoc-false : (xs : List A) (x : A) → p x ≡ false → keep p (xs ++ (x ∷ [])) ≡ keep p xs
  keep-snoc-false xs x e = keep_append xs (x ∷ []) ∙ rw e (append-nil (keep p xs))
