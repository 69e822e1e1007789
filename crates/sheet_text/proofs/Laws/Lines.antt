-- Laws on the text of a line: a good entry's line is one line, and the entry is read off it again. Assumes nothing.
use mathlib.Core.Path.{◌≡◌, refl, sym, ap, ap₂, ◌∙◌}
use mathlib.Core.Bool.{Bool, true, false}
use mathlib.Core.List.{List, [], ◌∷◌, ◌++◌, append-nil, append_assoc}
use Prim.Native.Nat.{ℕ, suc, ◌+◌, ◌≤◌, ◌<◌}
use native.Mathlib.Nat.{add-zero, zero-add, suc-add, add-suc}
use native.Mathlib.Omega.{arith}
use lib.ListN.{length, drop, length-append}
use lib.Seq.{drop-append_seam, drop-append-add, drop-drop}
use lib.Dec.{T, T_not, leb, eqb, leb→le}
use borrow.Author.Tests.{ne_eqb}
use Rattle.octets.specs.Choice.{pick, same, every, front}
use Rattle.octets.specs.Text.{decimal, value_of, digit}
use Rattle.octets.proofs.Choice.{every-weaker, T_false, T_and, T-and-left, T-and-right, same-eq, front-append, every_append}
use Rattle.octets.proofs.Text.{value-decimal, digits_decimal, digit_low}
use Rattle.sheet.specs.Table.{Row, row_at}
use Rattle.sheet.specs.Judge.{Entry, visible}
use Rattle.sheet.proofs.Laws.Entries.{shaped}
use Rattle.sheet_line.specs.Line.{lf, comma, tail_of, line_of, digits_after, name_after, entry_in}
use Rattle.sheet_text.specs.Text.{text_from, text_of}
use Rattle.sheet_text.specs.Reading.{first_line, lines}
use Rattle.sheet_line.proofs.Laws.Keys.{plain_octet, key-plain}

-- ---- the entry is read off its line

-- what follows a number begins with an octet that is no digit
pub record Stops (s : List ℕ) : Type 0 where
  pub stop : ℕ
  pub rest : List ℕ
  pub is : s ≡ stop ∷ rest
  pub no_digit : digit stop ≡ false

stops-by : (b : Bool) (name : List ℕ) → Stops (pick b (comma ∷ name ++ (lf ∷ [])) (lf ∷ []))
stops-by true name = record { stop = comma; rest = name ++ (lf ∷ []); is = refl; no_digit = refl }
stops-by false name = record { stop = lf; rest = []; is = refl; no_digit = refl }

-- so it is behind every number
pub tail-stops : (r : Row) (name : List ℕ) → Stops (tail_of r name)
unfolding tail_of
tail-stops r name = stops-by r.named name

-- a line and what follows it, part by part
line_parts : (r : Row) (e : Entry) (u : List ℕ) → line_of r e ++ u ≡ r.key ++ (decimal e.number ++ (tail_of r e.name ++ u))
unfolding line_of
line_parts r e u = simp append_assoc

-- the digits on an entry's line are its number's
pub digits_line : (r : Row) (e : Entry) (u : List ℕ) → digits_after r (line_of r e ++ u) ≡ decimal e.number
unfolding digits_after
digits_line r e u =
    let s = tail-stops r e.name in
    rw (line_parts r e u, drop-append_seam r.key (decimal e.number ++ (tail_of r e.name ++ u)), s.is)
    (front-append digit (decimal e.number) (s.rest ++ u) s.stop (digits_decimal e.number) s.no_digit)

-- behind the digits and one octet more
after-digits : (r : Row) (e : Entry) (u : List ℕ)
    → drop (length r.key + length (decimal e.number) + 1) (line_of r e ++ u) ≡ drop 1 (tail_of r e.name ++ u)
after-digits r e u =
    rw (line_parts r e u, ← (drop-drop 1 (length r.key + length (decimal e.number)) (r.key ++ (decimal e.number ++ (tail_of r e.name ++ u)))), drop-append-add r.key (decimal e.number ++ (tail_of r e.name ++ u)) (length (decimal e.number)), drop-append_seam (decimal e.number) (tail_of r e.name ++ u))

name_by : (b : Bool) (name u : List ℕ) → T (pick b (every visible name) (same name []))
    → pick b (front visible (drop 1 (pick b (comma ∷ name ++ (lf ∷ [])) (lf ∷ []) ++ u))) [] ≡ name
name_by true name u t = rw (append_assoc name (lf ∷ []) u) (front-append visible name u lf t refl)
name_by false name u t = sym (same-eq name [] t)

-- the entry is read off its line, whatever follows
pub entry_line : (r : Row) (e : Entry) (u : List ℕ) → T (shaped r e.name) → entry_in r (line_of r e ++ u) ≡ e
unfolding entry_in name_after tail_of
entry_line r e u t =
    let n : value_of (digits_after r (line_of r e ++ u)) ≡ e.number = rw (digits_line r e u) (value-decimal e.number) in
    let m : pick r.named (front visible (drop (length r.key + length (digits_after r (line_of r e ++ u)) + 1) (line_of r e ++ u))) [] ≡ e.name =
    rw (digits_line r e u, after-digits r e u) (name_by r.named e.name u t) in
    λ i. record { number = n i; name = m i }

-- ---- a line's text is one line

above-lf : (c : ℕ) → lf < c → T (plain_octet c)
above-lf c h = rw (ne_eqb c lf (λ q. omega arith)) tt

digits-plain : (cs : List ℕ) → T (every digit cs) → T (every plain_octet cs)
digits-plain cs t = every-weaker digit plain_octet (λ c d. above-lf c (let l : 48 ≤ c = digit_low c d in omega arith)) cs t

visible_plain : (cs : List ℕ) → T (every visible cs) → T (every plain_octet cs)
visible_plain cs t =
    every-weaker visible plain_octet (λ c d. above-lf c (let l : 33 ≤ c = leb→le 33 c (T-and-left (leb 33 c) (leb c 126) d) in omega arith)) cs t

-- what stands before a line's LF
abbrev body : Row → Entry → List ℕ
body r e = r.key ++ (decimal e.number ++ pick r.named (comma ∷ e.name) [])

tail_body : (b : Bool) (name : List ℕ) → pick b (comma ∷ name ++ (lf ∷ [])) (lf ∷ []) ≡ pick b (comma ∷ name) [] ++ (lf ∷ [])
tail_body true name = refl
tail_body false name = refl

line_body : (r : Row) (e : Entry) → line_of r e ≡ body r e ++ (lf ∷ [])
unfolding line_of tail_of
line_body r e = rw (tail_body r.named e.name) (simp append_assoc)

name-plain : (b : Bool) (name : List ℕ) → T (pick b (every visible name) (same name [])) → T (every plain_octet (pick b (comma ∷ name) []))
name-plain true name t = visible_plain name t
name-plain false name t = tt

body-plain : (r : Row) (e : Entry) → T (every plain_octet r.key) → T (shaped r e.name) → T (every plain_octet (body r e))
body-plain r e k t =
    rw (every_append plain_octet r.key (decimal e.number ++ pick r.named (comma ∷ e.name) []), every_append plain_octet (decimal e.number) (pick r.named (comma ∷ e.name) []))
    (T_and (every plain_octet r.key) _ k
    (T_and (every plain_octet (decimal e.number)) _ (digits-plain (decimal e.number) (digits_decimal e.number)) (name-plain r.named e.name t)))

first_line-plain : (cs u : List ℕ) → T (every plain_octet cs) → first_line (cs ++ (lf ∷ u)) ≡ cs ++ (lf ∷ [])
unfolding first_line
first_line-plain [] u t = refl
first_line-plain (c ∷ cs) u t =
    let e : eqb c lf ≡ false = T_false (eqb c lf) (T_not (eqb c lf) (T-and-left (plain_octet c) (every plain_octet cs) t)) in
    rw e (ap (λ (l : List ℕ). c ∷ l) (first_line-plain cs u (T-and-right (plain_octet c) (every plain_octet cs) t)))

-- the first line of a text that begins with a line
pub first_line-line : (k : ℕ) (e : Entry) (u : List ℕ) → T (shaped (row_at k) e.name) → first_line (line_of (row_at k) e ++ u) ≡ line_of (row_at k) e
first_line-line k e u t =
    rw (line_body (row_at k) e, append_assoc (body (row_at k) e) (lf ∷ []) u)
    (first_line-plain (body (row_at k) e) u (body-plain (row_at k) e (key-plain k) t))

split_by : (b : Bool) (c : ℕ) (cs l : List ℕ) → cs ≡ l ++ drop (length l) cs
    → c ∷ cs ≡ pick b (c ∷ []) (c ∷ l) ++ drop (length (pick b (c ∷ []) (c ∷ l))) (c ∷ cs)
split_by true c cs l e = refl
split_by false c cs l e = ap (λ (m : List ℕ). c ∷ m) e

-- a text is its first line and the rest
pub first_line-split : (s : List ℕ) → s ≡ first_line s ++ drop (length (first_line s)) s
unfolding first_line
first_line-split [] = refl
first_line-split (c ∷ cs) = split_by (eqb c lf) c cs (first_line cs) (first_line-split cs)

-- the lines of a text that begins with a line
pub lines-line : (j k : ℕ) (e : Entry) (u : List ℕ) → T (shaped (row_at k) e.name)
    → lines (suc j) (line_of (row_at k) e ++ u) ≡ line_of (row_at k) e ∷ lines j u
unfolding lines
lines-line j k e u t = rw (first_line-line k e u t, drop-append_seam (line_of (row_at k) e) u)

-- ---- the text of several lines

-- the text of two lists of entries
pub text_from-append : (k : ℕ) (xs ys : List Entry) → text_from k (xs ++ ys) ≡ text_from k xs ++ text_from (k + length xs) ys
unfolding text_from
text_from-append k [] ys = rw (add-zero k)
text_from-append k (x ∷ xs) ys =
    rw (text_from-append (suc k) xs ys, suc-add k (length xs), add-suc k (length xs)) (sym (append_assoc (line_of (row_at k) x) (text_from (suc k) xs) (text_from (suc (k + length xs)) ys)))

-- one line more is as much longer
pub length-text_of-snoc : (b : List Entry) (e : Entry) → length (text_of (b ++ (e ∷ []))) ≡ length (text_of b) + length (line_of (row_at (length b)) e)
unfolding text_of text_from
length-text_of-snoc b e =
    ap length (text_from-append 0 b (e ∷ []))
    ∙ length-append (text_from 0 b) (line_of (row_at (0 + length b)) e ++ [])
    ∙ ap₂ (λ (k : ℕ) (x : List ℕ). length (text_from 0 b) + length (line_of (row_at k) e ++ x)) (zero-add (length b)) refl
    ∙ ap (λ (x : List ℕ). length (text_from 0 b) + length x) (append-nil (line_of (row_at (length b)) e))
