-- Laws of the lines in a piece, which are put one after the other. Assumes nothing.
use mathlib.Core.Path.{◌≡◌, refl, sym, ap, ◌∙◌}
use Prim.Native.Nat.{ℕ, zero, suc, ◌+◌, ◌-◌, ◌*◌, ◌≤◌, ◌<◌}
use native.Mathlib.Numerals.{add-one}
use native.Mathlib.Omega.{arith}
use mathlib.Core.List.{List, [], ◌∷◌, ◌++◌, map, flatten, append-nil, append_assoc}
use lib.ListN.{length, get_or, take, drop, take-append-drop, length-append, length-drop}
use lib.Seq.{take_all, drop-cons, length-take-le}
use lib.Dec.{T}
use borrow.Author.Tests.{eqb-true, eq-eqb, ne_eqb, le-leb, lt-leb}
use Rattle.std.specs.Prelude.{None, Some}
use Rattle.memchr.specs.Find.{IsFirstByte, is_byte}
use Rattle.octets.specs.Buffer.{put_at}
use Rattle.octets.proofs.Choice.{T_and}
use Rattle.octets.proofs.Buffer.{put_at-next, put_at-nil, put_both, length-put_at}
use Rattle.sheet_line.specs.Line.{lf}
use Rattle.kinds.specs.declared.Numbers.{Numbers}
use Rattle.shown.specs.Line.{line_by, line_room}
use Rattle.shown.specs.Promises.{Put, put≡}
use Rattle.shown.proofs.Laws.Fits.{line_fits, fitting-whole, fitting-none}
use Rattle.lines.specs.declared.held.Held.{Held}
use Rattle.lines.specs.declared.Kept.{Kept}
use Rattle.lines.specs.Lines.{in_line}
use Rattle.lines.specs.Claims.{one_line}
use Rattle.lines.specs.Pieces.{ended_from, left_from, lines_text, lines_room, held_in, held_of, kept_of}
use Rattle.lines.specs.Promises.{kept_then, put_lines≡}
use Rattle.lines.proofs.Laws.Lines.{ended-none, left-none, ended-lf, left-lf}
use Rattle.lines.proofs.Laws.Held.{line-put}
use Rattle.lines.proofs.Laws.Fits.{lines_fit}

-- ---- the first LF in a piece

-- octets that are no LF are in a line
none-one : (s : List ℕ) (n : ℕ) → ((i : ℕ) → i < n → get_or s i 0 ≡ lf → ⊥) → T (one_line (take n s))
unfolding one_line
none-one [] zero f = tt
none-one [] (suc n) f = tt
none-one (c ∷ s) zero f = tt
none-one (c ∷ s) (suc n) f =
    T_and (in_line c) (one_line (take n s)) (rw (ne_eqb c lf (f 0 (omega arith))) tt) (none-one s n (λ i h. f (suc i) (omega arith)))

-- Where it stands: in front of it is one line.
pub record First (s : List ℕ) (k : ℕ) : Type 0 where
  pub inside : k < length s
  pub one : T (one_line (take k s))
  pub lf_at : get_or s k 0 ≡ lf

-- what a search for it finds
pub found : (s : List ℕ) (k : ℕ) → IsFirstByte (is_byte 10) s (Some k) → First s k
found s k f =
    record {
      inside = f.0.high;
      one = none-one s k (λ i h e. f.0.before i (omega arith) h (eq-eqb (get_or s i 0) lf e));
      lf_at = eqb-true (get_or s k 0) lf f.1;
    }

-- what it finds where there is none
pub not_found : (s : List ℕ) → IsFirstByte (is_byte 10) s None → T (one_line s)
not_found s f = rw (take_all (length s) s (omega arith)) at (none-one s (length s) (λ i h e. f i (omega arith) h (eq-eqb (get_or s i 0) lf e)))

-- what stands behind a place
pub behind_all : (s : List ℕ) (k : ℕ) → take (length s - k) (drop k s) ≡ drop k s
behind_all s k = take_all (length s - k) (drop k s) (omega (arith, length-drop k s))

-- ---- the lines in a piece

-- a piece that ends no line
module _ (line s : List ℕ) (one : T (one_line s)) where
  pub lines_none : (n : Numbers) → lines_text n line s ≡ []
  unfolding lines_text flatten
  lines_none n = rw (ended-none line s one)

  pub left-all : left_from line s ≡ line ++ s
  left-all = left-none line s one

-- a piece that ends one: its line, and the lines behind it
module _ (line s : List ℕ) (k : ℕ) (first : First s k) where
  split : s ≡ take k s ++ (lf ∷ drop (k + 1) s)
  split =
      sym (take-append-drop k s) ∙ ap (take k s ++◌) (drop-cons s k 0 first.inside ∙ rw (first.lf_at, add-one))

  pub lines-first : (n : Numbers) → lines_text n line s ≡ line_by n (line ++ take k s) ++ lines_text n [] (drop (k + 1) s)
  unfolding lines_text flatten
  lines-first n =
      ap (λ (l : List (List ℕ)). flatten (map (line_by n) l)) (ap (ended_from line) split ∙ ended-lf line (take k s) (drop (k + 1) s) first.one)

  pub left_behind : left_from line s ≡ left_from [] (drop (k + 1) s)
  left_behind = ap (left_from line) split ∙ left-lf line (take k s) (drop (k + 1) s) first.one

  -- the line is so long
  pub first-length : length (line ++ take k s) ≡ length line + k
  first-length = rw (length-append, length-take-le k s (omega (arith, first.inside)))

-- The lines in front of what is left of a piece are printed, and what is left of the room is enough for those in it.
pub record Upto (n : Numbers) (piece out : List ℕ) (at : ℕ) (left : List ℕ) (end : ℕ) (now : List ℕ) : Type 0 where
  pub text : List ℕ
  pub whole : lines_text n [] piece ≡ text ++ lines_text n [] left
  pub rest : left_from [] piece ≡ left_from [] left
  pub put : now ≡ put_at out at text
  pub past : end ≡ at + length text
  pub room : end + 10 * length left ≤ length out

module _ (n : Numbers) (piece out : List ℕ) (at : ℕ) where
  -- before the first line
  pub upto-none : at + 10 * length piece ≤ length out → Upto n piece out at piece at out
  upto-none room = record { text = []; whole = refl; rest = refl; put = sym (put_at-nil out at); past = omega arith; room = room }

  module _ (left : List ℕ) (end : ℕ) (now : List ℕ) (u : Upto n piece out at left end now) where
    -- with the next line
    pub upto_next : (k : ℕ) → First left k → (end' : ℕ) (now' : List ℕ) → put≡ n (take k left) now end end' now'
        → Upto n piece out at (drop (k + 1) left) end' now'
    upto_next k first end' now' p =
        let line = take k left in
        let long : length line ≡ k = length-take-le k left (omega (arith, first.inside)) in
        let behind = length-drop (k + 1) left in
        let room : end + length (line_by n line) + 10 * length (drop (k + 1) left) ≤ length out = omega (arith, (line_fits n line).1, u.room, first.inside) in
        let asked : line_room line ≤ length now - end = rw (u.put, length-put_at) (omega (arith, u.room, first.inside)) in
        let done = line-put n line now end end' now' asked p in
        record {
          text = u.text ++ line_by n line;
          whole = u.whole ∙ rw (lines-first [] left k first n, append_assoc);
          rest = u.rest ∙ left_behind [] left k first;
          put = done.0 ∙ rw u.put (put_at-next out at u.text (line_by n line) end u.past (omega (arith, room)));
          past = rw length-append (omega (arith, u.past, done.1));
          room = omega (arith, room, done.1);
        }

    -- where no line ends any more, all of them are printed
    pub upto-all : T (one_line left) → Put (lines_text n [] piece) out at end now × (left ≡ left_from [] piece)
    upto-all one =
        let text : u.text ≡ lines_text n [] piece = sym (u.whole ∙ rw (lines_none [] left one n, append-nil)) in
        ((rw text at u.put, rw text at u.past), sym (u.rest ∙ left-all [] left one))

-- ---- the lines in a piece, the first of them begun

module _ (n : Numbers) (xs piece : List ℕ) (k : ℕ) (f : First piece k) (out : List ℕ) (at : ℕ) (room : at + 10 * (length xs + length piece) ≤ length out) where
  -- the first line, and what stands behind it
  abbrev first : List ℕ
  first = xs ++ take k piece

  abbrev others : List ℕ
  others = drop (k + 1) piece

  -- there is the room that is asked for it
  pub first-room : line_room first ≤ length out - at
  first-room = omega (arith, first-length xs piece k f, f.inside)

  -- and room for it and for ten octets for each behind it
  pub first_fits : at + length (line_by n first) + 10 * length others ≤ length out
  first_fits = omega (arith, first-length xs piece k f, f.inside, length-drop (k + 1) piece, (line_fits n first).1)

  -- it is printed, and those behind it
  pub first-put : (mid : List ℕ) (next : ℕ) (now : List ℕ) (end : ℕ) → Put (line_by n first) out at next mid → Put (lines_text n [] others) mid next end now
      → Put (lines_text n xs piece) out at end now
  first-put mid next now end p q =
      rw (lines-first xs piece k f n)
      (put_both out at (line_by n first) (lines_text n [] others) mid next now end p.0 p.1 q.0 q.1 (omega (arith, lines_fit n [] others, first_fits)))

-- ---- by whether there is room

module _ (n : Numbers) (held : Held) (piece out : List ℕ) (at : ℕ) where
  abbrev asked : ℕ
  asked = lines_room (held_in held) piece

  abbrev text : List ℕ
  text = lines_text n (held_in held) piece

  -- what is put and kept with room
  abbrev pub LinesPut : Kept → List ℕ → Type 0
  LinesPut r now = Put text out at r.end now × (r.held ≡ held_of (kept_of (left_from (held_in held) piece)))

  module _ (h : asked ≤ length out - at) where
    -- that is what is promised
    pub lines-put : (r : Kept) (now : List ℕ) → put_lines≡ n held piece out at r now → LinesPut r now
    unfolding kept_then
    lines-put r now e = rw (fitting-whole asked (length out) at text h, le-leb asked (length out - at) h) at e

    pub lines-puts : (r : Kept) (now : List ℕ) → LinesPut r now → put_lines≡ n held piece out at r now
    unfolding kept_then
    lines-puts r now e = rw (fitting-whole asked (length out) at text h, le-leb asked (length out - at) h) e

  -- without room nothing is
  pub without-room : length out - at < asked → put_lines≡ n held piece out at (record { held = held; end = at }) out
  unfolding kept_then
  without-room h =
      rw (fitting-none asked (length out) at text h, lt-leb asked (length out - at) h) ((sym (put_at-nil out at), omega arith), refl)
