-- Laws of one line of a sheet as text: its key, the digits of its number and what follows them, each at its place in the text.
-- The heart is octets' `begins-decimal`: a number in decimal stands there where the digits have no leading zero. Assumes nothing.
use mathlib.Core.Path.{◌≡◌, refl, sym, ap, ◌∙◌}
use mathlib.Core.Bool.{Bool, true, false, ◌&&◌, and-false}
use mathlib.Core.List.{List, [], ◌∷◌, ◌++◌}
use Rattle.std.specs.Prelude.{Option, Some, None}
use Rattle.std.specs.Bool.{then_some}
use Rattle.std.specs.List.{starts_with, slice_range}
use Prim.Native.Nat.{ℕ, ◌+◌, ◌-◌, ◌≤◌, ◌<◌, min}
use native.Mathlib.Omega.{arith}
use lib.ListN.{length, take, drop, length-append, length-take, length-drop}
use lib.Seq.{drop-drop, take_all}
use lib.Dec.{T, eqb}
use Rattle.octets.specs.Choice.{begins, front}
use Rattle.octets.specs.Text.{digit, value_of, decimal, plain}
use Rattle.octets.proofs.Choice.{T_true, T_false, true-T, pick-cases, begins-of-append, every_front}
use Rattle.octets.proofs.Places.{begins-length, begins-front, take-front-between, drop-front-end}
use Rattle.octets.proofs.Text.{begins-decimal, decimal-value, length-decimal-pos}
use Rattle.sheet.specs.Table.{Row}
use Rattle.sheet.specs.Judge.{Entry, visible}
use Rattle.sheet.specs.Inner.{cap}
use Rattle.sheet_line.specs.declared.Line.{Line}
use Rattle.sheet_line.specs.declared.Rest.{Rest}
use Rattle.sheet_line.specs.Line.{lf, comma, tail_of, line_of, digits_after, name_after, entry_in, line_at}
use Rattle.sheet_line.specs.Inner.{tail_name, TailIs, LineIs}

-- ---- what follows a number on a line with a number alone: LF

-- LF stands there or not
pub tail-alone : (t : List ℕ) (at : ℕ) (r : Row) → r.named ≡ false → (found : Bool) → found ≡ begins (lf ∷ []) (drop at t)
    → TailIs t at r (then_some found (record { name = at; end = at }))
unfolding tail_of
tail-alone t at r alone true b =
    let l = rw length-drop at (begins-length (lf ∷ []) (drop at t) (true-T (begins (lf ∷ []) (drop at t)) (sym b))) in
    let none : at - at ≡ 0 = omega arith in
    rw alone (true-T (begins (lf ∷ []) (drop at t)) (sym b), record { from = omega arith; within = omega arith; octets = rw none }, refl)
tail-alone t at r alone false b = rw alone (sym b)

-- ---- and on a seat's line: the comma, what is visible, and LF where that ends

begins-seat : (s : List ℕ)
    → begins (comma ∷ front visible (drop 1 s) ++ (lf ∷ [])) s
    ≡ (begins (comma ∷ []) s && begins (lf ∷ []) (drop (length (front visible (drop 1 s))) (drop 1 s)))
begins-seat s =
    let name = front visible (drop 1 s) in
    begins-of-append (comma ∷ []) (name ++ (lf ∷ [])) s
    ∙ rw (begins-of-append name (lf ∷ []) (drop 1 s), T_true (begins name (drop 1 s)) (begins-front visible (drop 1 s)))

module _ (t : List ℕ) (at e : ℕ) (r : Row) (seat : r.named ≡ true) (ends : e ≡ at + 1 + length (front visible (drop (at + 1) t))) where
  begins-seat-tail : begins (tail_of r (tail_name r (drop at t))) (drop at t) ≡ (begins (comma ∷ []) (drop at t) && begins (lf ∷ []) (drop e t))
  unfolding tail_of
  begins-seat-tail = rw seat (begins-seat (drop at t) ∙ rw (drop-drop 1 at t, drop-front-end visible t (at + 1) e ends))

  length-seat-tail : e + 1 ≡ at + length (tail_of r (tail_name r (drop at t)))
  unfolding tail_of
  length-seat-tail = rw (seat, drop-drop 1 at t) (omega (arith, length-append (front visible (drop (at + 1) t)) (lf ∷ [])))

  -- no comma
  pub tail-no-comma : begins (comma ∷ []) (drop at t) ≡ false → TailIs t at r None
  tail-no-comma b = rw (begins-seat-tail, b)

  -- a comma, and LF where the User ID ends or not
  pub tail-seat : begins (comma ∷ []) (drop at t) ≡ true → (found : Bool) → found ≡ begins (lf ∷ []) (drop e t)
      → TailIs t at r (then_some found (record { name = at + 1; end = e }))
  tail-seat b true d =
      let l = rw length-drop at (begins-length (lf ∷ []) (drop e t) (true-T (begins (lf ∷ []) (drop e t)) (sym d))) in
      let name = take-front-between visible t (at + 1) e ends in
      (rw (begins-seat-tail, b, ← d) tt, rw (seat, drop-drop 1 at t) (record { from = omega arith; within = omega arith; octets = name }), length-seat-tail)
  tail-seat b false d = rw (begins-seat-tail, ← d, and-false)

-- ---- a key at a place

-- a list begins with another
starts-begins : (xs s : List ℕ) → starts_with eqb s xs ≡ begins xs s
starts-begins [] s = refl
starts-begins (x ∷ xs) [] = refl
starts-begins (x ∷ xs) (y ∷ s) = ap (λ (b : Bool). eqb x y && b) (starts-begins xs s)

-- what is left of a text begins with the key of its line
pub key-found : (t : List ℕ) (at : ℕ) (r : Row) (rest key : List ℕ) (found : Bool) → rest ≡ slice_range t at (length t) → key ≡ r.key
    → found ≡ starts_with eqb rest key → found ≡ begins r.key (drop at t)
key-found t at r rest key found left is e =
    e ∙ rw (left, is, take_all (length t - at) (drop at t) (omega (arith, length-drop at t))) (starts-begins r.key (drop at t))

-- ---- a line: the key, the digits, what follows them

-- what follows a number begins with no digit
begins-number : (r : Row) (name s : List ℕ)
    → begins (decimal (value_of (front digit s)) ++ tail_of r name) s
    ≡ (plain (front digit s) && begins (tail_of r name) (drop (length (front digit s)) s))
unfolding tail_of
begins-number r name s =
    pick-cases
    (λ u. begins (decimal (value_of (front digit s)) ++ u) s ≡ (plain (front digit s) && begins u (drop (length (front digit s)) s)))
    r.named
    (comma ∷ name ++ (lf ∷ []))
    (lf ∷ [])
    (λ _. begins-decimal s comma (name ++ (lf ∷ [])) refl)
    (λ _. begins-decimal s lf [] refl)

-- the digits of the line at a place stand from start to end
module _ (t : List ℕ) (at start end : ℕ) (r : Row) (starts : start ≡ at + length r.key) (ends : end ≡ start + length (front digit (drop start t))) where
  after-key : drop (length r.key) (drop at t) ≡ drop start t
  after-key = rw (drop-drop, starts)

  -- the entry's number is the digits'
  pub entry-number : (entry_in r (drop at t)).number ≡ value_of (front digit (drop start t))
  unfolding entry_in digits_after
  entry-number = rw after-key

  -- the entry's name stands behind them
  pub entry-name : (entry_in r (drop at t)).name ≡ tail_name r (drop end t)
  unfolding entry_in name_after digits_after
  entry-name =
      let behind = length r.key + length (front digit (drop start t)) + 1 in
      let places : at + behind ≡ end + 1 = omega arith in
      rw (after-key, drop-drop behind at t, places, drop-drop 1 end t)

  -- the text begins with the entry's line exactly if key, digits and tail are right
  pub begins-line : begins (line_of r (entry_in r (drop at t))) (drop at t)
      ≡ (begins r.key (drop at t) && (plain (front digit (drop start t)) && begins (tail_of r (tail_name r (drop end t))) (drop end t)))
  unfolding line_of
  begins-line =
      let n = value_of (front digit (drop start t)) in
      let name = tail_name r (drop end t) in
      rw (entry-number, entry-name, begins-of-append r.key (decimal n ++ tail_of r name) (drop at t))
      (rw (after-key, begins-number r name (drop start t), drop-front-end digit t start end ends))

  -- the line ends where its tail does
  pub length-line : T (plain (front digit (drop start t)))
      → at + length (line_of r (entry_in r (drop at t))) ≡ end + length (tail_of r (tail_name r (drop end t)))
  unfolding line_of
  length-line p =
      let ds = front digit (drop start t) in
      let tail = tail_of r (tail_name r (drop end t)) in
      rw (entry-number, entry-name, decimal-value ds (every_front digit (drop start t)) p)
      (omega (arith, length-append r.key (ds ++ tail), length-append ds tail))

  -- no key
  pub line-no-key : begins r.key (drop at t) ≡ false → LineIs t at r None
  line-no-key b = rw (begins-line, b)

  -- no digits, or a leading zero
  pub line-not-plain : plain (take (end - start) (drop start t)) ≡ false → LineIs t at r None
  line-not-plain p = rw (begins-line, rw (take-front-between digit t start end ends) at p, and-false)

  -- a tail that is not right
  pub line-bad-tail : TailIs t end r None → LineIs t at r None
  line-bad-tail b = rw (begins-line, b, and-false, and-false)

  -- all three right
  pub line-good : (n : ℕ) (rest : Rest) → begins r.key (drop at t) ≡ true → n ≡ min (value_of (front digit (drop start t))) cap
      → plain (take (end - start) (drop start t)) ≡ true → TailIs t end r (Some rest)
      → LineIs t at r (Some (record { number = n; name = rest.name; end = rest.end }))
  line-good n rest k v p f =
      let whole = rw (take-front-between digit t start end ends) at p in
      let length-of = length-line (true-T (plain (front digit (drop start t))) whole) in
      (rw (begins-line, k, whole) f.0, rw entry-number v, rw entry-name f.1, f.2 ∙ sym length-of)

-- ---- the line as the definition says it

-- a line is not empty
pub line_pos : (r : Row) (e : Entry) → 1 ≤ length (line_of r e)
unfolding line_of
line_pos r e =
    let p : 1 ≤ length (decimal e.number) = length-decimal-pos e.number in
    simp length-append (omega arith)

-- none stands past the text
pub line-past : (t : List ℕ) (at : ℕ) (r : Row) → length t < at → LineIs t at r None
line-past t at r h =
    let e = entry_in r (drop at t) in
    T_false (begins (line_of r e) (drop at t))
    (λ w. omega (arith, line_pos r e, rw length-drop at (begins-length (line_of r e) (drop at t) w)))

-- what was found is what the definition says
pub line_is : (t : List ℕ) (at : ℕ) (r : Row) (x : Option Line) → LineIs t at r x → x ≡ line_at t at r
unfolding line_at
line_is t at r (Some line) h =
    let name = (entry_in r (drop at t)).name in
    let wide : min (line.end - line.name) (length t - line.name) ≡ length name = rw (length-take, length-drop) at (ap length h.2.octets) in
    let end : line.end ≡ at + length (line_of r (entry_in r (drop at t))) - 1 = omega (arith, h.3) in
    let from : line.name ≡ line.end - length name = omega (arith, wide, h.2.from, h.2.within) in
    rw (T_true (begins (line_of r (entry_in r (drop at t))) (drop at t)) h.0, ← h.1, ← end, ← from)
line_is t at r None h = rw h
