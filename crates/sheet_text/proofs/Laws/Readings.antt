-- Laws on the reading: a text reads to entries exactly if they are a sheet's and the text begins with theirs. Assumes nothing.
use mathlib.Core.Path.{◌≡◌, refl, sym, ap, ◌∙◌}
use mathlib.Core.Logic.{⊎_elim}
use mathlib.Core.Bool.{true, false}
use mathlib.Core.List.{List, [], ◌∷◌, ◌++◌, append-nil, append_assoc}
use Prim.Native.Nat.{ℕ, zero, suc, ◌+◌, ◌≤◌, ◌<◌}
use native.Mathlib.Nat.{le_refl}
use native.Mathlib.Numerals.{add-one}
use native.Mathlib.Omega.{arith}
use lib.ListN.{length, length-append}
use lib.Seq.{drop-append_seam}
use lib.Dec.{T}
use Rattle.std.specs.Prelude.{Err}
use Rattle.octets.specs.Choice.{pick, begins}
use Rattle.octets.proofs.Choice.{pick-cases, T_true, decide, T_and, T-and-left, T-and-right, begins-append, begins-split}
use Rattle.sheet.specs.declared.Refusal.{Refusal}
use Rattle.sheet.specs.Refusal.{refusal_line}
use Rattle.sheet.specs.Table.{row_at}
use Rattle.sheet.specs.Judge.{Entry, numbers_in, good, in_turn, whole, valid}
use Rattle.sheet.proofs.Laws.Entries.{good-shaped, numbers_in-append, whole-front}
use Rattle.sheet_line.specs.Line.{line_of, entry_in}
use Rattle.sheet_text.specs.Text.{text_from, text_of}
use Rattle.sheet_text.specs.Reading.{Outcome, reads, refused, good_line, behind, read_by, outcome, bad_line, reading_of, read_of}
use Rattle.sheet_line.proofs.Laws.LineAt.{line_pos}
use Rattle.sheet_text.proofs.Laws.Lines.{entry_line}

-- ---- one line

-- the entry in the line at the front of a text
abbrev pub entry_at : List Entry → List ℕ → Entry
entry_at b s = entry_in (row_at (length b)) s

-- its entry is good
pub good_line-good : (b : List Entry) (s : List ℕ) → T (good_line b s) → T (good b (entry_at b s))
unfolding good_line
good_line-good b s t = T-and-right (begins (line_of (row_at (length b)) (entry_at b s)) s) (good b (entry_at b s)) t

-- the text is its line and what is behind it
pub good_line-split : (b : List Entry) (s : List ℕ) → T (good_line b s) → s ≡ line_of (row_at (length b)) (entry_at b s) ++ behind b s
unfolding good_line behind
good_line-split b s t =
    begins-split (line_of (row_at (length b)) (entry_at b s)) s
    (T-and-left (begins (line_of (row_at (length b)) (entry_at b s)) s) (good b (entry_at b s)) t)

module _ (b : List Entry) (e : Entry) (u : List ℕ) (g : T (good b e)) where
  -- a good entry is read off its line
  pub entry_at-line : entry_at b (line_of (row_at (length b)) e ++ u) ≡ e
  entry_at-line = entry_line (row_at (length b)) e u (good-shaped b e g)

  -- its line is good
  pub good_line-line : T (good_line b (line_of (row_at (length b)) e ++ u))
  unfolding good_line
  good_line-line =
      rw entry_at-line
      (T_and (begins (line_of (row_at (length b)) e) (line_of (row_at (length b)) e ++ u)) (good b e) (begins-append (line_of (row_at (length b)) e) u) g)

  -- what follows is behind it
  pub behind-line : behind b (line_of (row_at (length b)) e ++ u) ≡ u
  unfolding behind
  behind-line = rw entry_at-line (drop-append_seam (line_of (row_at (length b)) e) u)

-- ---- read_by: one line after the other

-- a whole sheet is read
pub read_by-whole : (f : ℕ) (b : List Entry) (s : List ℕ) → whole (numbers_in b) ≡ true → read_by f b s ≡ reads b
unfolding read_by
read_by-whole zero b s w = rw w
read_by-whole (suc f) b s w = rw w

-- with no line allowed for, the next is named
pub read_by-none : (b : List Entry) (s : List ℕ) → whole (numbers_in b) ≡ false → read_by zero b s ≡ refused (length b + 1)
unfolding read_by
read_by-none b s w = rw w

-- a bad line is named
pub read_by-bad : (f : ℕ) (b : List Entry) (s : List ℕ) → whole (numbers_in b) ≡ false → good_line b s ≡ false → read_by f b s ≡ refused (length b + 1)
unfolding read_by
read_by-bad zero b s w g = rw w
read_by-bad (suc f) b s w g = rw (w, g)

-- behind a good line the reading goes on
pub read_by-good : (f : ℕ) (b : List Entry) (s : List ℕ) → whole (numbers_in b) ≡ false → good_line b s ≡ true
    → read_by (suc f) b s ≡ read_by f (b ++ (entry_at b s ∷ [])) (behind b s)
unfolding read_by
read_by-good f b s w g = rw (w, g)

-- what is behind a line is shorter
pub length-behind : (b : List Entry) (s : List ℕ) → T (good_line b s) → length (behind b s) < length s
length-behind b s t =
    let l : length s ≡ length (line_of (row_at (length b)) (entry_at b s)) + length (behind b s) =
    ap length (good_line-split b s t) ∙ length-append (line_of (row_at (length b)) (entry_at b s)) (behind b s) in
    omega (arith, line_pos (row_at (length b)) (entry_at b s))

-- one entry more
pub length-snoc : (b : List Entry) (e : Entry) → length (b ++ (e ∷ [])) ≡ suc (length b)
length-snoc b e = length-append b (e ∷ []) ∙ add-one (length b)

-- ---- what was read

-- what was read from b on: more good entries, whose text the text begins with, up to a whole sheet
pub record ReadOn (b : List Entry) (s : List ℕ) (es : List Entry) : Type 0 where
  pub more : List Entry
  pub rest : List ℕ
  pub all : es ≡ b ++ more
  pub good : T (in_turn good b more)
  pub whole : T (Rattle.sheet.specs.Judge.whole (numbers_in es))
  pub text : s ≡ text_from (length b) more ++ rest

-- a good line before the text of more is the text of one more
pub text-more : (b : List Entry) (s : List ℕ) (more : List Entry) (rest : List ℕ) → T (good_line b s)
    → behind b s ≡ text_from (length (b ++ (entry_at b s ∷ []))) more ++ rest → s ≡ text_from (length b) (entry_at b s ∷ more) ++ rest
unfolding text_from
text-more b s more rest t e =
    good_line-split b s t
    ∙ ap (λ (x : List ℕ). line_of (row_at (length b)) (entry_at b s) ++ x) (rw (length-snoc b (entry_at b s)) at e)
    ∙ sym (append_assoc (line_of (row_at (length b)) (entry_at b s)) (text_from (suc (length b)) more) rest)

read_more : (b : List Entry) (s : List ℕ) (es : List Entry) → T (good_line b s) → ReadOn (b ++ (entry_at b s ∷ [])) (behind b s) es → ReadOn b s es
unfolding in_turn
read_more b s es t r =
    record {
      more = entry_at b s ∷ r.more;
      rest = r.rest;
      all = r.all ∙ append_assoc b (entry_at b s ∷ []) r.more;
      good = T_and (good b (entry_at b s)) (in_turn good (b ++ (entry_at b s ∷ [])) r.more) (good_line-good b s t) r.good;
      whole = r.whole;
      text = text-more b s r.more r.rest t r.text;
    }

-- at a whole sheet, at a bad line, or at a good one
module _ (b : List Entry) (s : List ℕ) (es : List Entry) where
  read_whole : (f : ℕ) → read_by f b s ≡ reads es → T (whole (numbers_in b)) → ReadOn b s es
  unfolding text_from in_turn
  read_whole f p w =
      let q : es ≡ b = cc (read_by-whole f b s (T_true (whole (numbers_in b)) w)) in
      record { more = []; rest = s; all = q ∙ sym (append-nil b); good = tt; whole = rw q w; text = refl }

  read-bad : (f : ℕ) → read_by f b s ≡ reads es → whole (numbers_in b) ≡ false → good_line b s ≡ false → ⊥
  read-bad f p w g = let z : ◌≡◌ {A = ℕ} 0 1 = cc (read_by-bad f b s w g) in omega arith

read-on : (f : ℕ) (b : List Entry) (s : List ℕ) (es : List Entry) → read_by f b s ≡ reads es → ReadOn b s es
read-on zero b s es p =
    ⊎_elim (λ w. read_whole b s es zero p w)
    (λ w. let z : ◌≡◌ {A = ℕ} 0 1 = cc (read_by-none b s w) in absurd (omega arith))
    (decide (whole (numbers_in b)))
read-on (suc f) b s es p =
    ⊎_elim (λ w. read_whole b s es (suc f) p w)
    (λ w. ⊎_elim
    (λ g. read_more b s es g (read-on f (b ++ (entry_at b s ∷ [])) (behind b s) es (sym (read_by-good f b s w (T_true (good_line b s) g)) ∙ p)))
    (λ g. absurd (read-bad b s es (suc f) p w g))
    (decide (good_line b s)))
    (decide (whole (numbers_in b)))

-- ---- what is read

-- a good entry's line takes the reading on
pub read-line : (f : ℕ) (b : List Entry) (e : Entry) (v : List ℕ) → T (good b e) → whole (numbers_in b) ≡ false
    → read_by (suc f) b (line_of (row_at (length b)) e ++ v) ≡ read_by f (b ++ (e ∷ [])) v
read-line f b e v g w =
    rw (read_by-good f b (line_of (row_at (length b)) e ++ v) w (T_true (good_line b (line_of (row_at (length b)) e ++ v)) (good_line-line b e v g)), entry_at-line b e v g, behind-line b e v g)

read_back_lem : (more : List Entry) (f : ℕ) (b : List Entry) (u : List ℕ) → T (in_turn good b more) → T (whole (numbers_in (b ++ more)))
    → length (text_from (length b) more ++ u) ≤ f → read_by f b (text_from (length b) more ++ u) ≡ reads (b ++ more)
unfolding text_from in_turn
read_back_lem [] f b u t w h = rw (append-nil b) (read_by-whole f b u (T_true (whole (numbers_in b)) (rw (append-nil b) at w)))
read_back_lem (e ∷ es) zero b u t w h =
    let l : length ((line_of (row_at (length b)) e ++ text_from (suc (length b)) es) ++ u) ≡ length (line_of (row_at (length b)) e) + length (text_from (suc (length b)) es) + length u =
    simp length-append in
    absurd (omega (arith, line_pos (row_at (length b)) e))
read_back_lem (e ∷ es) (suc f) b u t w h =
    let line = line_of (row_at (length b)) e in
    let v = text_from (suc (length b)) es ++ u in
    let g : T (good b e) = T-and-left (good b e) (in_turn good (b ++ (e ∷ [])) es) t in
    let w' : T (whole (numbers_in ((b ++ (e ∷ [])) ++ es))) = rw (append_assoc b (e ∷ []) es) w in
    let a : (line ++ text_from (suc (length b)) es) ++ u ≡ line ++ v = append_assoc line (text_from (suc (length b)) es) u in
    let l : length (line ++ v) ≡ length line + length v = length-append line v in
    let h' : length (line ++ v) ≤ suc f = rw a at h in
    let ih : read_by f (b ++ (e ∷ [])) v ≡ reads ((b ++ (e ∷ [])) ++ es) =
    rw (length-snoc b e) at (read_back_lem es f (b ++ (e ∷ [])) u (T-and-right (good b e) (in_turn good (b ++ (e ∷ [])) es) t) w' (rw (length-snoc b e) (omega (arith, line_pos (row_at (length b)) e)))) in
    rw (a, read-line f b e v g (whole-front (numbers_in b) e.number (numbers_in es) (rw (numbers_in-append b (e ∷ es)) at w)), ih, append_assoc b (e ∷ []) es)

-- ---- which texts read

-- what reads is a sheet's, and its text is the front
pub outcome-reads : (t : List ℕ) (es : List Entry) → outcome t ≡ reads es → T (valid es) × ((u : List ℕ) × (t ≡ text_of es ++ u))
unfolding outcome valid text_of
outcome-reads t es p =
    let r = read-on (length t) [] t es p in (
      T_and (in_turn good [] es) (whole (numbers_in es)) (rw r.all r.good) r.whole,
      (r.rest, r.text ∙ ap (λ (x : List Entry). text_from 0 x ++ r.rest) (sym r.all)),
    )

-- a text with a sheet's in front reads to it
pub reads-outcome : (es : List Entry) (u : List ℕ) → T (valid es) → outcome (text_of es ++ u) ≡ reads es
unfolding outcome valid text_of
reads-outcome es u t =
    read_back_lem es (length (text_from 0 es ++ u)) [] u (T-and-left (in_turn good [] es) (whole (numbers_in es)) t) (T-and-right (in_turn good [] es) (whole (numbers_in es)) t) (le_refl _)

-- ---- which line may be named

-- no line is named past the last that was read
read_by-at : (f : ℕ) (b : List Entry) (s : List ℕ) (k : ℕ) → read_by f b s ≡ refused k → k ≤ length b + f + 1
unfolding read_by
read_by-at zero b s =
    pick-cases (λ (o : Outcome). (k : ℕ) → o ≡ refused k → k ≤ length b + 0 + 1) (whole (numbers_in b)) (reads b) (refused (length b + 1))
    (λ _ k p. cc) (λ _ k p. let e : length b + 1 ≡ k = cc in omega arith)
read_by-at (suc f) b s =
    let next = b ++ (entry_in (row_at (length b)) s ∷ []) in
    let more = read_by f next (behind b s) in
    let P : Outcome → Type 0 = λ o. (k : ℕ) → o ≡ refused k → k ≤ length b + suc f + 1 in
    pick-cases P (whole (numbers_in b)) (reads b) (pick (good_line b s) more (refused (length b + 1)))
    (λ _ k p. cc)
    (λ _. pick-cases P (good_line b s) more (refused (length b + 1))
    (λ _ k p. omega (arith, read_by-at f next (behind b s) k p, length-append b (entry_in (row_at (length b)) s ∷ [])))
    (λ _ k p. let e : length b + 1 ≡ k = cc in omega arith))

-- a refusal is that of the outcome's line
pub refused-as : (o : Outcome) (r : Refusal) → reading_of o ≡ Err r → (k : ℕ) × (o ≡ refused k) × (r ≡ bad_line k)
unfolding reading_of
refused-as (reads es) r p = cc
refused-as (refused k) r p = (k, refl, cc)

-- nor past the octets of the text
pub read_at : (t : List ℕ) (r : Refusal) → read_of t ≡ Err r → refusal_line r ≤ length t + 1
unfolding read_of outcome
read_at t r p =
    let w = refused-as (outcome t) r p in
    rw w.2 (omega (arith, read_by-at (length t) [] t w.0 w.1))
