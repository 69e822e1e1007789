-- Laws of the lines of a text. Assumes nothing.
use mathlib.Core.Path.{◌≡◌, refl, sym, ap, ◌∙◌}
use mathlib.Core.Logic.{⊎_elim}
use mathlib.Core.Bool.{false, not}
use Prim.Native.Nat.{ℕ}
use mathlib.Core.List.{List, [], ◌∷◌, ◌++◌, append_assoc, append-nil, flatten}
use lib.Dec.{T, eqb, eqb→eq}
use borrow.Author.Tests.{not-true}
use Rattle.octets.specs.Choice.{every}
use Rattle.octets.proofs.Choice.{T_true, decide, T_and, T-and-left, T-and-right, every-both}
use Rattle.sheet_line.specs.Line.{lf}
use Rattle.lines.specs.Lines.{in_line, before, lines_of}
use Rattle.lines.specs.Claims.{one_line, with_lfs, LinesExactly}
use Rattle.lines.specs.Pieces.{ended_from, left_from, last_of}

-- ---- a text and more behind it

-- the lines that end in both
pub ended-append : (line s t : List ℕ) → ended_from line (s ++ t) ≡ ended_from line s ++ ended_from (left_from line s) t
unfolding ended_from left_from
ended-append line [] t = refl
ended-append line (c ∷ s) t =
    ⊎_elim
    (λ b. rw (T_true (eqb c lf) b) (ap (λ (x : List (List ℕ)). line ∷ x) (ended-append [] s t)))
    (λ e. rw e (ended-append (line ++ (c ∷ [])) s t))
    (decide (eqb c lf))

-- what is left behind the last LF of both
pub left-append : (line s t : List ℕ) → left_from line (s ++ t) ≡ left_from (left_from line s) t
unfolding left_from
left-append line [] t = refl
left-append line (c ∷ s) t =
    ⊎_elim
    (λ b. rw (T_true (eqb c lf) b) (left-append [] s t))
    (λ e. rw e (left-append (line ++ (c ∷ [])) s t))
    (decide (eqb c lf))

-- ---- a text with no LF in it

-- its first octet is none
first-none : (c : ℕ) (s : List ℕ) → T (one_line (c ∷ s)) → eqb c lf ≡ false
unfolding one_line
first-none c s h = not-true (eqb c lf) (T_true (not (eqb c lf)) (T-and-left (not (eqb c lf)) (one_line s) h))

-- nor is there one behind it
rest-none : (c : ℕ) (s : List ℕ) → T (one_line (c ∷ s)) → T (one_line s)
unfolding one_line
rest-none c s h = T-and-right (not (eqb c lf)) (one_line s) h

pub ended-none : (line s : List ℕ) → T (one_line s) → ended_from line s ≡ []
unfolding ended_from
ended-none line [] h = refl
ended-none line (c ∷ s) h = rw (first-none c s h) (ended-none (line ++ (c ∷ [])) s (rest-none c s h))

pub left-none : (line s : List ℕ) → T (one_line s) → left_from line s ≡ line ++ s
unfolding left_from
left-none line [] h = sym (append-nil line)
left-none line (c ∷ s) h =
    rw (first-none c s h) (left-none (line ++ (c ∷ [])) s (rest-none c s h) ∙ append_assoc line (c ∷ []) s)

-- ---- up to the first LF

pub ended-lf : (line s t : List ℕ) → T (one_line s) → ended_from line (s ++ (lf ∷ t)) ≡ (line ++ s) ∷ ended_from [] t
unfolding ended_from
ended-lf line s t h = rw (ended-append line s (lf ∷ t), ended-none line s h, left-none line s h)

pub left-lf : (line s t : List ℕ) → T (one_line s) → left_from line (s ++ (lf ∷ t)) ≡ left_from [] t
unfolding left_from
left-lf line s t h = left-append line s (lf ∷ t)

-- ---- the text back from its lines, and the lines from the text

-- a line with one octet more that is no LF
one_more : (line : List ℕ) (c : ℕ) → T (one_line line) → eqb c lf ≡ false → T (one_line (line ++ (c ∷ [])))
unfolding one_line
one_more line c h e = every-both in_line line (c ∷ []) h (rw e tt)

-- nothing has none in it
no-lf : T (one_line [])
unfolding one_line
no-lf = tt

-- no line that ends has an LF in it
ended-one_line : (line t : List ℕ) → T (one_line line) → T (every one_line (ended_from line t))
unfolding ended_from
ended-one_line line [] h = tt
ended-one_line line (c ∷ t) h =
    ⊎_elim
    (λ b. rw (T_true (eqb c lf) b) (T_and (one_line line) (every one_line (ended_from [] t)) h (ended-one_line [] t no-lf)))
    (λ e. rw e (ended-one_line (line ++ (c ∷ [])) t (one_more line c h e)))
    (decide (eqb c lf))

-- nor what is left
left_one_line : (line t : List ℕ) → T (one_line line) → T (one_line (left_from line t))
unfolding left_from
left_one_line line [] h = h
left_one_line line (c ∷ t) h =
    ⊎_elim
    (λ b. rw (T_true (eqb c lf) b) (left_one_line [] t no-lf))
    (λ e. rw e (left_one_line (line ++ (c ∷ [])) t (one_more line c h e)))
    (decide (eqb c lf))

-- a line more
with-lf : (line : List ℕ) (lines : List (List ℕ)) (left : List ℕ) → with_lfs (line ∷ lines) ++ left ≡ line ++ (lf ∷ (with_lfs lines ++ left))
unfolding with_lfs flatten
with-lf line lines left =
    append_assoc (line ++ (lf ∷ [])) (with_lfs lines) left ∙ append_assoc line (lf ∷ []) (with_lfs lines ++ left)

-- the lines with an LF behind each and what is left are the line begun and the text
lines-back : (line t : List ℕ) → with_lfs (ended_from line t) ++ left_from line t ≡ line ++ t
unfolding ended_from left_from with_lfs flatten
lines-back line [] = sym (append-nil line)
lines-back line (c ∷ t) =
    ⊎_elim
    (λ b. rw (T_true (eqb c lf) b)
    (with-lf line (ended_from [] t) (left_from [] t) ∙ rw (lines-back [] t, eqb→eq c lf b)))
    (λ e. rw e (lines-back (line ++ (c ∷ [])) t ∙ append_assoc line (c ∷ []) t))
    (decide (eqb c lf))

-- lines with an LF behind each, and what is left, are the lines of that text
lines-forth : (ended : List (List ℕ)) (left : List ℕ) → T (every one_line ended) → T (one_line left)
    → (ended_from [] (with_lfs ended ++ left) ≡ ended) × (left_from [] (with_lfs ended ++ left) ≡ left)
unfolding with_lfs flatten
lines-forth [] left h l = (ended-none [] left l, left-none [] left l)
lines-forth (line ∷ lines) left h l =
    let one = T-and-left (one_line line) (every one_line lines) h in
    let more = lines-forth lines left (T-and-right (one_line line) (every one_line lines) h) l in
    let rest = with_lfs lines ++ left in (
      ap (ended_from []) (with-lf line lines left) ∙ ended-lf [] line rest one ∙ ap (λ (x : List (List ℕ)). line ∷ x) more.0,
      ap (left_from []) (with-lf line lines left) ∙ left-lf [] line rest one ∙ more.1,
    )

-- ---- the lines of a whole text

-- those that end and the last, the first of them begun already
abbrev lines_from : List ℕ → List ℕ → List (List ℕ)
lines_from line t = ended_from line t ++ last_of (left_from line t)

-- an octet before the line begun is one before the first of them
lines_from-before : (c : ℕ) (line t : List ℕ) → lines_from (c ∷ line) t ≡ before c (lines_from line t)
unfolding ended_from left_from last_of before
lines_from-before c [] [] = refl
lines_from-before c (d ∷ line) [] = refl
lines_from-before c line (d ∷ t) =
    ⊎_elim
    (λ b. rw (T_true (eqb d lf) b))
    (λ e. rw e (lines_from-before c (line ++ (d ∷ [])) t))
    (decide (eqb d lf))

-- the lines of a text are those that end, and the last where it is not empty
pub lines_of-ended : (t : List ℕ) → lines_of t ≡ ended_from [] t ++ last_of (left_from [] t)
unfolding lines_of ended_from left_from last_of
lines_of-ended [] = refl
lines_of-ended (c ∷ t) =
    ⊎_elim
    (λ b. rw (T_true (eqb c lf) b) (ap (λ (x : List (List ℕ)). [] ∷ x) (lines_of-ended t)))
    (λ e. rw e (ap (before c) (lines_of-ended t) ∙ sym (lines_from-before c [] t)))
    (decide (eqb c lf))

-- ---- the claim

pub lines_exactly : LinesExactly
lines_exactly t = (
  (ended_from [] t, left_from [] t, (ended-one_line [] t no-lf, left_one_line [] t no-lf, sym (lines-back [] t))),
  λ ended left h.
      let w = lines-forth ended left h.0 h.1 in
      lines_of-ended t ∙ rw (h.2, w.0, w.1),
)
