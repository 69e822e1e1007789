-- Laws of a valid sheet's numbers, line by line: each is within its line's bounds, and two of one family differ. Assumes nothing.
use mathlib.Core.Path.{◌≡◌, ◌∙◌}
use mathlib.Core.Bool.{not, ◌&&◌}
use mathlib.Core.List.{List, [], ◌∷◌, ◌++◌}
use Prim.Native.Nat.{ℕ, zero, suc, ◌+◌, ◌≤◌, ◌<◌}
use native.Mathlib.Nat.{not-suc-le-zero, le_of_suc-le-suc, zero-add}
use native.Mathlib.Omega.{arith}
use lib.ListN.{length, get_or, take}
use lib.Seq.{length-take-le, get_or-take}
use lib.Dec.{T, T_not, leb, eqb, leb→le}
use borrow.Author.Tests.{eq-eqb}
use Rattle.octets.proofs.Choice.{T-and-left, T-and-right, T-or-right}
use Rattle.sheet.specs.declared.Sheet.{Sheet}
use Rattle.sheet.specs.Table.{table, number_lines, row_at}
use Rattle.sheet.specs.Judge.{taken, good_number, in_turn}
use Rattle.sheet.specs.Value.{numbers_of, valid_alone}
use Rattle.sheet.proofs.Laws.Entries.{in_turn-append, in_turn-at}
use Rattle.sheet.proofs.Laws.Fresh.{number_bound}

-- a number that stands on a line of the family is taken
pub taken_at_lem : (family n k : ℕ) (ns : List ℕ) (i : ℕ) → i < length ns → (row_at (k + i)).family ≡ family → get_or ns i 0 ≡ n → T (taken family n k ns)
unfolding taken
taken_at_lem family n k [] i h p q = absurd (not-suc-le-zero h)
taken_at_lem family n k (m ∷ ms) zero h p q =
    let e : k + 0 ≡ k = omega arith in
    rw (eq-eqb (row_at k).family family (rw e at p), eq-eqb m n q) tt
taken_at_lem family n k (m ∷ ms) (suc i) h p q =
    let e : k + suc i ≡ suc k + i = omega arith in
    T-or-right (eqb (row_at k).family family && eqb m n) (taken family n (suc k) ms)
    (taken_at_lem family n (suc k) ms i (le_of_suc-le-suc h) (rw e at p) q)

-- so many numbers stand before line k's
before : (s : Sheet) (k : ℕ) → k < number_lines → length (take k (numbers_of s)) ≡ k
unfolding numbers_of number_lines table
before s k l = length-take-le k (numbers_of s) (omega arith)

module _ (s : Sheet) (v : T (valid_alone s)) where
  -- each number is good behind those
  good-at : (k : ℕ) → k < number_lines → T (good_number (take k (numbers_of s)) (get_or (numbers_of s) k 0))
  unfolding valid_alone numbers_of number_lines table
  good-at k l =
      let xs = take s.seats s.ssrcs in
      let t : T (in_turn good_number [] (numbers_of s ++ xs)) = T-and-left (in_turn good_number [] (numbers_of s ++ xs)) _ v in
      in_turn-at good_number (numbers_of s) k 0
      (T-and-left (in_turn good_number [] (numbers_of s)) (in_turn good_number (numbers_of s) xs) (rw (in_turn-append good_number [] (numbers_of s) xs) at t))
      l

  -- each number of a valid sheet is within its line's bounds
  pub valid-within : (k : ℕ) → k < number_lines
      → ((row_at k).least ≤ get_or (numbers_of s) k 0) × (get_or (numbers_of s) k 0 ≤ (row_at k).greatest)
  unfolding good_number
  valid-within k l =
      let n = get_or (numbers_of s) k 0 in
      let g = good-at k l in (
        leb→le (row_at k).least n (rw (before s k l) at (T-and-left (leb (row_at (length (take k (numbers_of s)))).least n) _ g)),
        rw (before s k l) at (number_bound (take k (numbers_of s)) n g),
      )

  -- two of one family differ
  pub valid-apart : (i j : ℕ) → i < j → j < number_lines → (row_at i).family ≡ (row_at j).family
      → get_or (numbers_of s) i 0 ≡ get_or (numbers_of s) j 0 → ⊥
  unfolding good_number
  valid-apart i j h l p q =
      let ns = take j (numbers_of s) in
      let n = get_or (numbers_of s) j 0 in
      let r = row_at (length ns) in
      let e = before s j l in
      T_not (taken r.family n 0 ns)
      (T-and-right (leb n r.greatest) (not (taken r.family n 0 ns)) (T-and-right (leb r.least n) _ (good-at j l)))
      (taken_at_lem r.family n 0 ns i (omega arith) (rw (e, zero-add) p) (get_or-take j (numbers_of s) i 0 h ∙ q))
