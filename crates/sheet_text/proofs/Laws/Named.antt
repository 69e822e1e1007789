-- Laws on the line that a refusal names: the lines before it are the front of some sheet, and with it they are of none.
-- Assumes nothing.
use mathlib.Core.Path.{◌≡◌, refl, sym, ap, ◌∙◌, subst}
use mathlib.Core.Logic.{⊎_elim}
use mathlib.Core.Bool.{false}
use mathlib.Core.List.{List, [], ◌∷◌, ◌++◌, append-nil, append_assoc}
use Prim.Native.Nat.{ℕ, zero, suc, ◌+◌, ◌≤◌, ◌<◌}
use native.Mathlib.Omega.{arith}
use lib.ListN.{length, drop, length-append}
use lib.Dec.{T}
use Rattle.octets.proofs.Choice.{T_true, decide, T-and-left, T-and-right}
use Rattle.sheet.specs.Table.{row_at}
use Rattle.sheet.specs.Judge.{Entry, numbers_in, good, in_turn, whole}
use Rattle.sheet.proofs.Laws.Entries.{in_turn-snoc, good-shaped, numbers_in-append, Open, open_more, whole-front}
use Rattle.sheet_line.specs.Line.{line_of}
use Rattle.sheet_text.specs.Text.{text_from}
use Rattle.sheet_text.specs.Reading.{refused, good_line, behind, read_by, first_line, lines}
use Rattle.sheet_line.proofs.Laws.LineAt.{line_pos}
use Rattle.sheet_text.proofs.Laws.Lines.{first_line-split, lines-line}
use Rattle.sheet_text.proofs.Laws.Readings.{text-more, entry_at, good_line-good, read_by-whole, read_by-none, read_by-bad, read_by-good, length-snoc, read-line}

-- ---- a refusal goes by the way that led there

-- where a reading was refused: behind a good line, or at this one
module _ (b : List Entry) (s : List ℕ) (k : ℕ) where
  refused-open : (f : ℕ) → read_by f b s ≡ refused k → whole (numbers_in b) ≡ false
  refused-open f p =
      ⊎_elim
      (λ w. let z : ◌≡◌ {A = ℕ} 0 1 = cc (read_by-whole f b s (T_true (whole (numbers_in b)) w)) in absurd (omega arith))
      (λ w. w)
      (decide (whole (numbers_in b)))

  refused-here : (f : ℕ) → read_by f b s ≡ refused k → good_line b s ≡ false → k ≡ length b + 1
  refused-here f p g = cc (read_by-bad f b s (refused-open f p) g)

  refused_none : read_by zero b s ≡ refused k → k ≡ length b + 1
  refused_none p = cc (read_by-none b s (refused-open zero p))

  refused-behind : (f : ℕ) → read_by (suc f) b s ≡ refused k → T (good_line b s) → read_by f (b ++ (entry_at b s ∷ [])) (behind b s) ≡ refused k
  refused-behind f p g = sym (read_by-good f b s (refused-open (suc f) p) (T_true (good_line b s) g)) ∙ p

-- the line that is named is behind those that were read
pub refused-past : (f : ℕ) (b : List Entry) (s : List ℕ) (k : ℕ) → read_by f b s ≡ refused k → length b < k
refused-past zero b s k p = let q : k ≡ length b + 1 = refused_none b s k p in omega arith
refused-past (suc f) b s k p =
    ⊎_elim
    (λ g. let h : length (b ++ (entry_at b s ∷ [])) < k = refused-past f (b ++ (entry_at b s ∷ [])) (behind b s) k (refused-behind b s k f p g) in
    let l : length (b ++ (entry_at b s ∷ [])) ≡ suc (length b) = length-snoc b (entry_at b s) in
    omega arith)
    (λ g. let q : k ≡ length b + 1 = refused-here b s k (suc f) p g in omega arith)
    (decide (good_line b s))

-- ---- no sheet has the lines up to the one that is named

-- a text whose first lines are those of a good entry's line and more begins with that line, and the rest has the rest
pub record Begun (b : List Entry) (e : Entry) (s text : List ℕ) (j : ℕ) : Type 0 where
  pub rest : List ℕ
  pub split : s ≡ line_of (row_at (length b)) e ++ rest
  pub lines_rest : lines j rest ≡ lines j text

begun : (b : List Entry) (e : Entry) (s text : List ℕ) (j : ℕ) → T (good b e)
    → lines (suc j) s ≡ lines (suc j) (line_of (row_at (length b)) e ++ text) → Begun b e s text j
unfolding lines
begun b e s text j g p =
    let line = line_of (row_at (length b)) e in
    let q : first_line s ∷ lines j (drop (length (first_line s)) s) ≡ line ∷ lines j text = p ∙ lines-line j (length b) e text (good-shaped b e g) in
    let h : first_line s ≡ line = cc in
    record {
      rest = drop (length (first_line s)) s;
      split = first_line-split s ∙ ap (λ (l : List ℕ). l ++ drop (length (first_line s)) s) h;
      lines_rest = cc;
    }

length-begun : {b : List Entry} {e : Entry} {s text : List ℕ} {j : ℕ} (c : Begun b e s text j)
    → length s ≡ length (line_of (row_at (length b)) e) + length c.rest
length-begun {b} {e} c = ap length c.split ∙ length-append (line_of (row_at (length b)) e) c.rest

-- no sheet has the lines up to the one that is named
pub none-begins : (f : ℕ) (b : List Entry) (s : List ℕ) (k m : ℕ) (more : List Entry)
    → read_by f b s ≡ refused k → k ≡ length b + m → T (in_turn good b more) → T (whole (numbers_in (b ++ more))) → length s ≤ f
    → lines m s ≡ lines m (text_from (length b) more) → ⊥
unfolding in_turn text_from
none-begins f b s k m [] p q t w h e =
    let z : ◌≡◌ {A = ℕ} 0 1 = cc (read_by-whole f b s (T_true (whole (numbers_in b)) (rw (append-nil b) at w))) in omega arith
none-begins f b s k zero (x ∷ xs) p q t w h e = let l : length b < k = refused-past f b s k p in omega arith
none-begins zero b s k (suc j) (x ∷ xs) p q t w h e =
    let c = begun b x s (text_from (suc (length b)) xs) j (T-and-left (good b x) (in_turn good (b ++ (x ∷ [])) xs) t) e in
    omega (arith, line_pos (row_at (length b)) x, length-begun c)
none-begins (suc f) b s k (suc j) (x ∷ xs) p q t w h e =
    let g : T (good b x) = T-and-left (good b x) (in_turn good (b ++ (x ∷ [])) xs) t in
    let c = begun b x s (text_from (suc (length b)) xs) j g e in
    let m : length (b ++ (x ∷ [])) ≡ suc (length b) = length-snoc b x in
    let o : whole (numbers_in b) ≡ false = whole-front (numbers_in b) x.number (numbers_in xs) (rw (numbers_in-append b (x ∷ xs)) at w) in
    let r : read_by f (b ++ (x ∷ [])) c.rest ≡ refused k =
    sym (read-line f b x c.rest g o) ∙ sym (ap (λ (y : List ℕ). read_by (suc f) b y) c.split) ∙ p in
    none-begins f (b ++ (x ∷ [])) c.rest k j xs r (omega arith) (T-and-right (good b x) (in_turn good (b ++ (x ∷ [])) xs) t)
    (rw (append_assoc b (x ∷ []) xs) w)
    (omega (arith, line_pos (row_at (length b)) x, length-begun c))
    (rw m c.lines_rest)

-- ---- some sheet has the lines before it

-- a good front of j lines behind those that were read
pub record Front (b : List Entry) (s : List ℕ) (j : ℕ) : Type 0 where
  pub more : List Entry
  pub rest : List ℕ
  pub count : length more ≡ j
  pub goods : T (in_turn good [] (b ++ more))
  pub fits : Open (numbers_in (b ++ more))
  pub text : s ≡ text_from (length b) more ++ rest

front-more : (b : List Entry) (s : List ℕ) (j : ℕ) → T (good_line b s) → Front (b ++ (entry_at b s ∷ [])) (behind b s) j → Front b s (suc j)
front-more b s j g r =
    let a : (b ++ (entry_at b s ∷ [])) ++ r.more ≡ b ++ (entry_at b s ∷ r.more) = append_assoc b (entry_at b s ∷ []) r.more in
    record {
      more = entry_at b s ∷ r.more;
      rest = r.rest;
      count = ap suc r.count;
      goods = rw a at r.goods;
      fits = subst (λ (es : List Entry). Open (numbers_in es)) a r.fits;
      text = text-more b s r.more r.rest g r.text;
    }

-- before the line that is named so many good lines stand
pub some_begins : (f : ℕ) (b : List Entry) (s : List ℕ) (k j : ℕ) → read_by f b s ≡ refused k → length b + j < k
    → T (in_turn good [] b) → Open (numbers_in b) → Front b s j
unfolding text_from
some_begins f b s k zero p h t o =
    record { more = []; rest = s; count = refl; goods = rw (append-nil b) t; fits = subst (λ (es : List Entry). Open (numbers_in es)) (sym (append-nil b)) o; text = refl }
some_begins zero b s k (suc j) p h t o = let q : k ≡ length b + 1 = refused_none b s k p in absurd (omega arith)
some_begins (suc f) b s k (suc j) p h t o =
    ⊎_elim
    (λ g.
    let l : length (b ++ (entry_at b s ∷ [])) ≡ suc (length b) = length-snoc b (entry_at b s) in
    front-more b s j g
    (some_begins f (b ++ (entry_at b s ∷ [])) (behind b s) k j (refused-behind b s k f p g) (omega arith)
    (in_turn-snoc good b (entry_at b s) t (good_line-good b s g))
    (subst Open (sym (numbers_in-append b (entry_at b s ∷ []))) (open_more (numbers_in b) (entry_at b s).number o (refused-open b s k (suc f) p)))))
    (λ g. let q : k ≡ length b + 1 = refused-here b s k (suc f) p g in absurd (omega arith))
    (decide (good_line b s))

-- what stands behind a good front's lines is not among them
pub lines-front : (more b : List Entry) (u v : List ℕ) → T (in_turn good b more)
    → lines (length more) (text_from (length b) more ++ u) ≡ lines (length more) (text_from (length b) more ++ v)
unfolding in_turn text_from lines
lines-front [] b u v t = refl
lines-front (e ∷ es) b u v t =
    let g : T (good b e) = T-and-left (good b e) (in_turn good (b ++ (e ∷ [])) es) t in
    let line = line_of (row_at (length b)) e in
    let text = text_from (suc (length b)) es in
    let ih : lines (length es) (text ++ u) ≡ lines (length es) (text ++ v) =
    rw (length-snoc b e) at (lines-front es (b ++ (e ∷ [])) u v (T-and-right (good b e) (in_turn good (b ++ (e ∷ [])) es) t)) in
    ap (λ (x : List ℕ). lines (suc (length es)) x) (append_assoc line text u)
    ∙ lines-line (length es) (length b) e (text ++ u) (good-shaped b e g)
    ∙ ap (λ (ls : List (List ℕ)). line ∷ ls) ih
    ∙ sym (lines-line (length es) (length b) e (text ++ v) (good-shaped b e g))
    ∙ sym (ap (λ (x : List ℕ). lines (suc (length es)) x) (append_assoc line text v))
