-- Laws of a sheet's numbers: a number that is taken is found line by line, and judged against its line's bounds.
-- Assumes nothing.
use mathlib.Core.Path.{◌≡◌, refl, sym, ◌∙◌}
use mathlib.Core.Logic.{⊎_elim}
use mathlib.Core.Bool.{Bool, false, not, ◌&&◌, ◌||◌, and_assoc, and_comm, and-false}
use mathlib.Core.List.{List}
use Prim.Native.Nat.{ℕ, zero, suc, ◌+◌, ◌-◌, ◌≤◌, ◌<◌}
use native.Mathlib.Numerals.{add-one}
use native.Mathlib.Omega.{arith}
use lib.ListN.{length, get_or, drop, drop_of_length-le}
use lib.Seq.{drop-cons}
use lib.Dec.{leb, eqb}
use borrow.Author.Tests.{lt-leb}
use Rattle.std.specs.List.{list_any, range_with_len}
use Rattle.octets.proofs.Choice.{le-or-lt}
use Rattle.sheet.specs.Table.{Row, row_at}
use Rattle.sheet.specs.Judge.{taken, good_number}
use Rattle.sheet.specs.Inner.{NoneBefore, within}

-- ---- the numbers of a family, line by line

module _ (family n : ℕ) (ns : List ℕ) where
  -- line j has it
  abbrev pub has : ℕ → Bool
  has j = eqb (get_or ns j 0) n && eqb (row_at j).family family

  -- line j and those behind it
  taken-next : (j : ℕ) → j < length ns → taken family n j (drop j ns) ≡ (has j || taken family n (j + 1) (drop (j + 1) ns))
  unfolding taken
  taken-next j l = rw (add-one, drop-cons ns j 0 l, and_comm (eqb (row_at j).family family) (eqb (get_or ns j 0) n))

  -- no line is left
  taken-end : (j : ℕ) → length ns ≤ j → taken family n j (drop j ns) ≡ false
  unfolding taken
  taken-end j l = rw (drop_of_length-le ns l)

  -- a family that has no line before j is looked for from line j on
  taken-from : (j : ℕ) → NoneBefore j family → taken family n 0 ns ≡ taken family n j (drop j ns)
  taken-from zero h = refl
  taken-from (suc j) h =
      let e : j + 1 ≡ suc j = omega arith in
      taken-from j (λ i l. h i (omega arith))
      ∙ rw e at
      (⊎_elim
      (λ l. taken-end j l ∙ sym (taken-end (j + 1) (omega arith)))
      (λ l. rw (taken-next j l, h j (omega arith), and-false))
      (le-or-lt (length ns) j))

  -- by a test of the m lines from j on
  taken-range : (j m : ℕ) → j + m ≡ length ns → taken family n j (drop j ns) ≡ list_any has (range_with_len j m)
  taken-range j zero e = taken-end j (omega arith)
  taken-range j (suc m) e = rw (taken-next j (omega arith), taken-range (j + 1) m (omega arith))

  -- so the lines from one on tell, if the family has none before it
  pub taken_any : (j : ℕ) → NoneBefore j family → taken family n 0 ns ≡ list_any has (range_with_len j (length ns - j))
  taken_any j h =
      taken-from j h
      ∙ ⊎_elim
      (λ l. let e : length ns - j ≡ 0 = omega arith in rw (taken-end j l, e))
      (λ l. taken-range j (length ns - j) (omega arith))
      (le-or-lt (length ns) j)

-- ---- a number against its line's bounds and the lines before

-- within the bounds, and not taken
pub good_number-by : (before : List ℕ) (n : ℕ)
    → good_number before n ≡ (within (length before) n && not (taken (row_at (length before)).family n 0 before))
unfolding good_number
good_number-by before n = let r = row_at (length before) in sym (and_assoc (leb r.least n) (leb n r.greatest) _)

-- above the greatest
pub good_number-high : (before : List ℕ) (n : ℕ) (r : Row) → row_at (length before) ≡ r → r.greatest < n → good_number before n ≡ false
unfolding good_number
good_number-high before n r e h = rw (e, lt-leb n r.greatest h, and-false)
