-- Laws of the numbers that a call is lent, judged in turn: each line within its bounds, and apart from those of its family before it.
-- Assumes nothing.
use mathlib.Core.Path.{◌≡◌, ap, ◌∙◌}
use mathlib.Core.Logic.{◌⊎◌, inl, inr, ⊎_elim}
use mathlib.Core.Bool.{Bool, ◌&&◌, ◌||◌}
use mathlib.Core.List.{List, []}
use Prim.Native.Nat.{ℕ, ◌+◌, ◌-◌, ◌≤◌, ◌<◌, zero-le}
use native.Mathlib.Omega.{arith}
use lib.ListN.{length, get_or, take, length-take}
use lib.Seq.{length-take-le, take-take, get_or-take}
use lib.Dec.{T, leb, ltb, eqb, eqb→eq, le→leb, leb→le, lit<}
use borrow.Author.Tests.{le-leb, lt-leb, le-ltb}
use Rattle.octets.specs.Buffer.{zeros_from}
use Rattle.octets.proofs.Choice.{T_and, T-and-left, T-and-right, le-or-lt, all_below, below}
use Rattle.octets.proofs.Buffer.{zeros_from-get_or, get_or-zeros_from}
use Rattle.sheet.specs.Table.{table, seat_row, number_lines, seats_line, most_seats, row_at}
use Rattle.sheet.specs.Judge.{good_number, in_turn}
use Rattle.sheet.specs.Value.{sheet_from, sheet_in, valid_alone}
use Rattle.sheet.specs.Inner.{NoneBefore, within, apart, cap}
use Rattle.sheet.proofs.Laws.Rules.{row_at-seat, other, none_before}
use Rattle.sheet.proofs.Laws.Entries.{in_turn-at, at-in_turn}
use Rattle.sheet.proofs.Laws.Numbers.{taken_any, good_number-by}
use Rattle.sheet.proofs.Laws.Values.{lines_good, sheet_in-counted, numbers-sheet_from, numbers-few, numbers-judged}

-- ---- which lines have one of their family before them

-- the first line of MCV2's five, and the line behind them
abbrev pub five : ℕ
five = 4

abbrev pub behind_five : ℕ
behind_five = 9

-- one of the five, or the first line of its own family
placed : ℕ → Bool
placed k = (leb five k && ltb k behind_five) || all_below k (other (row_at k).family)

placed_at : (k : ℕ) → k < number_lines → T (placed k)
unfolding placed other row_at number_lines table
placed_at k h = below number_lines placed tt k h

-- a line before or behind them is the first of its own
lone-family : (k : ℕ) → k < number_lines → (k < five) ⊎ (behind_five ≤ k) → NoneBefore k (row_at k).family
unfolding placed
lone-family k h w =
    let p = placed_at k h in
    none_before k (row_at k).family
    (⊎_elim (λ l. rw (lt-leb five k l) at p) (λ l. let m : five ≤ k = omega arith in rw (le-leb five k m, le-ltb k behind_five l) at p) w)

-- ---- one line

module _ (family lines : ℕ) (ns : List ℕ) (k : ℕ) where
  -- on the sheet, the first of its family
  apart-lone : k < lines → NoneBefore k family → T (apart family lines ns k)
  unfolding apart
  apart-lone h none =
      let n = get_or ns k 0 in
      let none-left : length (take k ns) - k ≡ 0 = rw length-take (omega arith) in
      rw (lt-leb lines k h, taken_any family n (take k ns) k none, none-left) tt

  -- behind the sheet's lines
  apart-unused : lines ≤ k → apart family lines ns k ≡ eqb (get_or ns k 0) 0
  unfolding apart
  apart-unused h = rw (le-leb lines k h)

-- a line on the sheet is good just if it is within its bounds and apart
good_number-apart : (lines : ℕ) (ns : List ℕ) (k : ℕ) → k < lines → k < length ns
    → good_number (take k ns) (get_or ns k 0) ≡ (within k (get_or ns k 0) && apart (row_at k).family lines ns k)
unfolding apart
good_number-apart lines ns k h l =
    let e : length (take k ns) ≡ k = length-take-le k ns (omega arith) in
    rw (lt-leb lines k h) (rw e at (good_number-by (take k ns) (get_or ns k 0)))

-- ---- all lines, by what can be wrong with them

-- each line with a number alone is within its bounds; the five are apart, and so are the seats' SSRCs, with zeros behind them
pub record Right (ns : List ℕ) (lines : ℕ) : Type 0 where
  pub bounds : (k : ℕ) → k < number_lines → T (within k (get_or ns k 0))
  pub apart-five : (k : ℕ) → k < behind_five → five ≤ k → T (apart (row_at k).family lines ns k)
  pub apart-seats : (k : ℕ) → k < length ns → number_lines ≤ k → T (apart (row_at k).family lines ns k)

module _ (ns : List ℕ) (lines : ℕ) (all : number_lines ≤ lines) (on : lines ≤ length ns) where
  module _ (t : T (lines_good ns lines)) where
    -- a line on the sheet is within its bounds and apart
    line-right : (k : ℕ) → k < lines → T (within k (get_or ns k 0) && apart (row_at k).family lines ns k)
    line-right k h =
        let l : length (take lines ns) ≡ lines = length-take-le lines ns on in
        let g = in_turn-at good_number (take lines ns) k 0 (T-and-left (in_turn good_number [] (take lines ns)) _ t) (omega arith) in
        rw (take-take k lines ns (omega arith), get_or-take lines ns k 0 h, good_number-apart lines ns k h (omega arith)) at g

    -- every line is apart
    line-apart : (k : ℕ) → T (apart (row_at k).family lines ns k)
    line-apart k =
        ⊎_elim
        (λ h. rw (apart-unused (row_at k).family lines ns k h, zeros_from-get_or ns lines k (T-and-right (in_turn good_number [] (take lines ns)) _ t) h) tt)
        (λ h. T-and-right (within k (get_or ns k 0)) _ (line-right k h))
        (le-or-lt lines k)

    -- good in turn, so right
    good_right : Right ns lines
    good_right =
        record {
          bounds = λ k h. T-and-left (within k (get_or ns k 0)) _ (line-right k (omega arith));
          apart-five = λ k h l. line-apart k;
          apart-seats = λ k h l. line-apart k;
        }

  module _ (small : (k : ℕ) → get_or ns k 0 < cap) (r : Right ns lines) where
    -- every line is within its bounds: a seat's has any number
    right-within : (k : ℕ) → T (within k (get_or ns k 0))
    unfolding seat_row
    right-within k =
        let n = get_or ns k 0 in
        ⊎_elim
        (λ h. rw (row_at-seat k h) (T_and (leb 0 n) (leb n 4294967295) (le→leb 0 n zero-le) (le→leb n 4294967295 (omega (arith, small k)))))
        (r.bounds k)
        (le-or-lt number_lines k)

    -- every line on the sheet is apart: the others of the lines with a number alone have none of their family before them
    right-apart : (k : ℕ) → k < lines → T (apart (row_at k).family lines ns k)
    right-apart k h =
        ⊎_elim
        (λ l. r.apart-seats k (omega arith) l)
        (λ l. ⊎_elim
        (λ m. ⊎_elim (λ n. lone l (inr n)) (λ n. r.apart-five k n m) (le-or-lt behind_five k))
        (λ m. lone l (inl m))
        (le-or-lt five k))
        (le-or-lt number_lines k)
      where
        lone : k < number_lines → (k < five) ⊎ (behind_five ≤ k) → T (apart (row_at k).family lines ns k)
        lone l w = apart-lone (row_at k).family lines ns k h (lone-family k l w)

    -- right, so good in turn
    right-good : T (lines_good ns lines)
    right-good =
        T_and (in_turn good_number [] (take lines ns)) (zeros_from ns lines)
        (at-in_turn good_number 0 [] (take lines ns)
        (λ k h.
        let l : k < lines = rw (length-take-le lines ns on) at h in
        rw (take-take k lines ns (omega arith), get_or-take lines ns k 0 l, good_number-apart lines ns k l (omega arith))
        (T_and (within k (get_or ns k 0)) _ (right-within k) (right-apart k l))))
        (get_or-zeros_from ns lines
        (λ i l h. eqb→eq (get_or ns i 0) 0 (rw (apart-unused (row_at i).family lines ns i l) at (r.apart-seats i h (omega arith)))))

-- ---- the struct with these numbers is a sheet's exactly if its lines are right

-- so many lines a sheet with these numbers has
abbrev pub lines_in : List ℕ → ℕ
lines_in ns = number_lines + get_or ns seats_line 0

module _ (ns : List ℕ) (long : length ns ≡ 19) where
  -- few seats: it is judged in turn
  judged : get_or ns seats_line 0 ≤ most_seats → valid_alone (sheet_in ns) ≡ lines_good ns (lines_in ns)
  unfolding number_lines table most_seats
  judged few = ap valid_alone (sheet_in-counted ns long) ∙ numbers-judged (sheet_from ns) ns (numbers-sheet_from ns long) long few

  -- a sheet's lines are right
  pub valid-right : T (valid_alone (sheet_in ns)) → Right ns (lines_in ns)
  unfolding number_lines table most_seats
  valid-right v =
      let few : get_or ns seats_line 0 ≤ 8 = numbers-few (sheet_from ns) ns (numbers-sheet_from ns long) long (rw (sheet_in-counted ns long) at v) in
      good_right ns (lines_in ns) (omega arith) (omega arith) (rw (judged few) at v)

  -- right lines are a sheet's
  pub right_valid : ((k : ℕ) → get_or ns k 0 < cap) → Right ns (lines_in ns) → T (valid_alone (sheet_in ns))
  unfolding number_lines seats_line table most_seats row_at
  right_valid small r =
      let n = get_or ns seats_line 0 in
      let few : n ≤ 8 = leb→le n 8 (T-and-right (leb 1 n) (leb n 8) (r.bounds seats_line (lit< tt))) in
      rw (judged few) (right-good ns (lines_in ns) (omega arith) (omega arith) small r)
