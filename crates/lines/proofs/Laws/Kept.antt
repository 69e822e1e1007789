-- Laws of what is kept of a line: it decides what is printed for the line, so that two pieces one after the other print what both together do.
-- Assumes nothing.
use mathlib.Core.Path.{◌≡◌, refl, sym, ap, ◌∙◌}
use mathlib.Core.Logic.{⊎_elim}
use mathlib.Core.Bool.{◌&&◌}
use Prim.Native.Nat.{ℕ, ◌+◌, ◌≤◌, ◌<◌}
use native.Mathlib.Omega.{arith}
use mathlib.Core.List.{List, [], ◌∷◌, ◌++◌, map, map-append, flatten}
use mathlib.Core.Option.{none}
use lib.ListN.{length, length-take}
use lib.Seq.{take_all, take-take, length-take-le}
use lib.Dec.{eqb, leb, leb→le}
use Rattle.octets.specs.Hex.{is_hex}
use Rattle.octets.proofs.Choice.{T_true, T_false, T-and-left, T-and-right, decide, le-or-lt}
use Rattle.octets.proofs.Parts.{take-take-append, flatten-append}
use Rattle.sheet_line.specs.Line.{lf}
use Rattle.kinds.specs.declared.Numbers.{Numbers}
use Rattle.kinds.specs.Reading.{read_by}
use Rattle.hex_line.specs.Line.{most_digits, line_right, packet_in}
use Rattle.shown.specs.Line.{line_as, line_by}
use Rattle.lines.specs.Lines.{lines_of}
use Rattle.lines.specs.Pieces.{ended_from, left_from, last_of, lines_text, last_line, kept_of}
use Rattle.lines.proofs.Laws.Lines.{ended-append, left-append, lines_of-ended}

-- ---- what is kept of a line

-- a line with more digits than a packet has is no packet's
long-none : (line : List ℕ) → most_digits < length line → packet_in line ≡ none
unfolding packet_in line_right
long-none line h =
    rw (T_false (line_right line)
    (λ t.
    let l : length line ≤ most_digits =
    leb→le (length line) most_digits (T-and-left (leb (length line) most_digits) (is_hex line) (T-and-right (leb 1 (length line)) (leb (length line) most_digits && is_hex line) t)) in
    omega arith))

-- so what is kept of it is the same packet's or none's
kept_packet : (line : List ℕ) → packet_in (kept_of line) ≡ packet_in line
unfolding kept_of
kept_packet line =
    ⊎_elim
    (λ h. ap packet_in (take_all (most_digits + 1) line h))
    (λ (h : most_digits + 1 < length line).
    let k : length (kept_of line) ≡ most_digits + 1 = length-take-le (most_digits + 1) line (omega arith) in
    long-none (kept_of line) (omega arith) ∙ sym (long-none line (omega arith)))
    (le-or-lt (length line) (most_digits + 1))

-- what is kept of a line decides what is printed for it: with one digit too many it is refused, whatever follows
pub line_by-kept : (n : Numbers) (line : List ℕ) → line_by n (kept_of line) ≡ line_by n line
unfolding line_by
line_by-kept n line = ap (line_as (read_by n)) (kept_packet line)

-- it is no longer than the line, nor than one digit more than a packet's
pub kept-short : (line : List ℕ) → (length (kept_of line) ≤ length line) × (length (kept_of line) ≤ most_digits + 1)
unfolding kept_of
kept-short line = let l = length-take (most_digits + 1) line in omega arith

-- ---- lines that are kept alike

-- lines that are kept alike are kept alike with the same behind them
kept_more : (line other more : List ℕ) → kept_of line ≡ kept_of other → kept_of (line ++ more) ≡ kept_of (other ++ more)
unfolding kept_of
kept_more line other more e =
    sym (take-take-append (most_digits + 1) line more)
    ∙ ap (λ (x : List ℕ). kept_of (x ++ more)) e
    ∙ take-take-append (most_digits + 1) other more

-- and printed alike
line_by-alike : (n : Numbers) (line other : List ℕ) → kept_of line ≡ kept_of other → line_by n line ≡ line_by n other
line_by-alike n line other e = sym (line_by-kept n line) ∙ ap (line_by n) e ∙ line_by-kept n other

-- and so is what ends in a piece
lines-alike : (n : Numbers) (line other piece : List ℕ) → kept_of line ≡ kept_of other → lines_text n line piece ≡ lines_text n other piece
unfolding lines_text ended_from flatten
lines-alike n line other [] e = refl
lines-alike n line other (c ∷ piece) e =
    ⊎_elim
    (λ b. rw (T_true (eqb c lf) b) (ap (λ (x : List ℕ). x ++ lines_text n [] piece) (line_by-alike n line other e)))
    (λ f. rw f (lines-alike n (line ++ (c ∷ [])) (other ++ (c ∷ [])) piece (kept_more line other (c ∷ []) e)))
    (decide (eqb c lf))

-- and what is left is kept alike
left_alike : (line other piece : List ℕ) → kept_of line ≡ kept_of other → kept_of (left_from line piece) ≡ kept_of (left_from other piece)
unfolding left_from
left_alike line other [] e = e
left_alike line other (c ∷ piece) e =
    ⊎_elim
    (λ b. rw (T_true (eqb c lf) b))
    (λ f. rw f (left_alike (line ++ (c ∷ [])) (other ++ (c ∷ [])) piece (kept_more line other (c ∷ []) e)))
    (decide (eqb c lf))

-- what is kept of a line is kept whole
kept_kept : (line : List ℕ) → kept_of (kept_of line) ≡ kept_of line
unfolding kept_of
kept_kept line = take-take (most_digits + 1) (most_digits + 1) line (omega arith)

-- a line that is kept is printed and left as the line itself
lines-kept : (n : Numbers) (line piece : List ℕ) → lines_text n (kept_of line) piece ≡ lines_text n line piece
lines-kept n line piece = lines-alike n (kept_of line) line piece (kept_kept line)

kept_left : (line piece : List ℕ) → kept_of (left_from (kept_of line) piece) ≡ kept_of (left_from line piece)
kept_left line piece = left_alike (kept_of line) line piece (kept_kept line)

-- ---- two pieces

-- the text of two lists of lines
texts-append : (n : Numbers) (xs ys : List (List ℕ)) → flatten (map (line_by n) (xs ++ ys)) ≡ flatten (map (line_by n) xs) ++ flatten (map (line_by n) ys)
texts-append n xs ys = ap flatten (map-append (line_by n) xs ys) ∙ flatten-append (map (line_by n) xs) (map (line_by n) ys)

-- the lines that end in both
pub lines-append : (n : Numbers) (line s t : List ℕ) → lines_text n line (s ++ t) ≡ lines_text n line s ++ lines_text n (kept_of (left_from line s)) t
unfolding lines_text
lines-append n line s t =
    ap (λ (x : List (List ℕ)). flatten (map (line_by n) x)) (ended-append line s t)
    ∙ texts-append n (ended_from line s) (ended_from (left_from line s) t)
    ∙ ap (λ (x : List ℕ). lines_text n line s ++ x) (sym (lines-kept n (left_from line s) t))

-- and what is kept behind them
pub kept_append : (line s t : List ℕ) → kept_of (left_from line (s ++ t)) ≡ kept_of (left_from (kept_of (left_from line s)) t)
kept_append line s t = ap kept_of (left-append line s t) ∙ sym (kept_left (left_from line s) t)

-- ---- all of it at once

-- the last line is printed as what is kept of it
last_kept : (n : Numbers) (line : List ℕ) → last_line n (kept_of line) ≡ last_line n line
unfolding last_line last_of kept_of flatten
last_kept n [] = refl
last_kept n (c ∷ line) = ap (λ (x : List ℕ). x ++ []) (line_by-kept n (c ∷ line))

-- the lines that end and the last are all of a text
pub lines-whole : (n : Numbers) (t : List ℕ) → lines_text n [] t ++ last_line n (kept_of (left_from [] t)) ≡ flatten (map (line_by n) (lines_of t))
unfolding lines_text last_line
lines-whole n t =
    ap (λ (x : List ℕ). lines_text n [] t ++ x) (last_kept n (left_from [] t))
    ∙ sym (texts-append n (ended_from [] t) (last_of (left_from [] t)))
    ∙ ap (λ (x : List (List ℕ)). flatten (map (line_by n) x)) (sym (lines_of-ended t))
