-- Laws on what stands at a place of a text: what it begins with there, and the front of which a test holds. Assumes nothing.
use mathlib.Core.Path.{◌≡◌, refl, sym, ap, ◌∙◌, subst}
use mathlib.Core.Logic.{⊎_elim}
use mathlib.Core.Bool.{Bool, ◌&&◌}
use mathlib.Core.List.{List, [], ◌∷◌}
use Prim.Native.Nat.{ℕ, suc, ◌+◌, ◌-◌, ◌≤◌}
use native.Mathlib.Omega.{arith}
use lib.ListN.{length, take, drop, length-append}
use lib.Seq.{drop-drop, take-append_seam}
use lib.Dec.{T, eqb, eqb→eq, eqb-zero-suc, eqb-suc-suc}
use borrow.Author.Tests.{ne_eqb, eqb-false}
use Rattle.octets.specs.Choice.{begins, every, front}
use Rattle.octets.proofs.Choice.{T_true, decide, pick-cases, begins-append, begins-split, front-split}

-- ---- begins: lengths

-- which of two numbers stands first does not matter
pub eqb_comm : (a b : ℕ) → eqb a b ≡ eqb b a
eqb_comm a b =
    ⊎_elim (λ t. rw (eqb→eq a b t)) (λ e. e ∙ sym (ne_eqb b a (λ q. eqb-false a b e (sym q)))) (decide (eqb a b))

-- a list is at least as long as what it begins with
pub begins-length : (xs s : List ℕ) → T (begins xs s) → length xs ≤ length s
begins-length xs s t = omega (arith, simp length-append at (ap length (begins-split xs s t)))

-- ---- front: the front of a list, and of what stands from a place a on, up to its end e

module _ (p : ℕ → Bool) where
  -- a list begins with its front
  pub begins-front : (s : List ℕ) → T (begins (front p s) s)
  begins-front s =
      subst (λ (z : List ℕ). T (begins (front p s) z)) (sym (front-split p s))
      (begins-append (front p s) (drop (length (front p s)) s))

  -- so many of its elements are the front
  pub take-front : (s : List ℕ) → take (length (front p s)) s ≡ front p s
  take-front s =
      subst (λ (z : List ℕ). take (length (front p s)) z ≡ front p s) (sym (front-split p s))
      (take-append_seam (front p s) (drop (length (front p s)) s))

  -- the front is as long as the list where each element passes, and not elsewhere
  pub length-front-every : (s : List ℕ) → eqb (length (front p s)) (length s) ≡ every p s
  length-front-every [] = refl
  length-front-every (x ∷ xs) =
      pick-cases (λ l. eqb (length l) (suc (length xs)) ≡ (p x && every p xs)) (p x) (x ∷ front p xs) []
      (λ t. rw (eqb-suc-suc, T_true (p x) t) (length-front-every xs))
      (λ e. rw (eqb-zero-suc, e))

  module _ (t : List ℕ) (a e : ℕ) (ends : e ≡ a + length (front p (drop a t))) where
    -- the octets from the place to the end are the front
    pub take-front-between : take (e - a) (drop a t) ≡ front p (drop a t)
    take-front-between =
        let n : e - a ≡ length (front p (drop a t)) = omega arith in
        rw n (take-front (drop a t))

    -- behind the front the text goes on at its end
    pub drop-front-end : drop (length (front p (drop a t))) (drop a t) ≡ drop e t
    drop-front-end = rw (drop-drop, ends)
