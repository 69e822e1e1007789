-- Laws on one line judged: the line that was found, its number and its name make it good or bad. Assumes nothing.
use mathlib.Core.Path.{◌≡◌, refl, sym, ap, ◌∙◌}
use mathlib.Core.Logic.{⊎_elim}
use mathlib.Core.Bool.{Bool, true, false}
use mathlib.Core.List.{List}
use Prim.Native.Nat.{ℕ, ◌+◌, ◌-◌, ◌≤◌, ◌<◌, min}
use native.Mathlib.Omega.{arith}
use lib.ListN.{length, take, drop}
use lib.Dec.{T}
use borrow.Author.Tests.{le-leb, lt-leb}
use Rattle.std.specs.Prelude.{Ok, Err, Some, None}
use Rattle.std.specs.Bool.{then_some}
use Rattle.std.specs.Option.{ok_or}
use Rattle.octets.specs.Choice.{begins}
use Rattle.octets.proofs.Choice.{T_true, true-T, le-or-lt}
use Rattle.sheet.specs.declared.Refusal.{Refusal}
use Rattle.sheet.specs.Table.{number_lines, row_at}
use Rattle.sheet.specs.Judge.{good_number}
use Rattle.sheet.specs.Find.{new_name}
use Rattle.sheet.specs.Inner.{cap}
use Rattle.sheet.proofs.Laws.Rules.{greatest-cap}
use Rattle.sheet.proofs.Laws.Fresh.{number_bound}
use Rattle.sheet.proofs.Laws.Numbers.{good_number-high}
use Rattle.sheet_line.specs.declared.Line.{Line}
use Rattle.sheet_line.specs.Line.{line_of, entry_in}
use Rattle.sheet_line.specs.Inner.{LineIs}
use Rattle.sheet_text.specs.Reading.{bad_line}
use Rattle.sheet_text.specs.Inner.{good_at, JudgedIs}

-- a number is good exactly if, as far as the cap, it is
pub good_number-cap : (ns : List ℕ) (n : ℕ) → good_number ns (min n cap) ≡ good_number ns n
good_number-cap ns n =
    let g : (row_at (length ns)).greatest < cap = greatest-cap (length ns) in
    ⊎_elim
    (λ (h : cap ≤ n). good_number-high ns (min n cap) (row_at (length ns)) refl (omega arith) ∙ sym (good_number-high ns n (row_at (length ns)) refl (omega arith)))
    (λ (h : n < cap). ap (good_number ns) (omega arith))
    (le-or-lt cap n)

module _ (t : List ℕ) (at k : ℕ) (numbers : List ℕ) (users : List (List ℕ)) where
  -- the refusal that names the line
  abbrev bad : Refusal
  bad = bad_line (k + 1)

  -- no line is found
  pub judged-no-line : LineIs t at (row_at k) None → JudgedIs t at k numbers users (Err bad)
  unfolding good_at
  judged-no-line l = (rw l, refl)

  module _ (line : Line) (l : LineIs t at (row_at k) (Some line)) where
    found : begins (line_of (row_at k) (entry_in (row_at k) (drop at t))) (drop at t) ≡ true
    found = T_true (begins (line_of (row_at k) (entry_in (row_at k) (drop at t))) (drop at t)) l.0

    -- the number that was found is judged as the line's own
    number-judged : good_number (take k numbers) line.number ≡ good_number (take k numbers) (entry_in (row_at k) (drop at t)).number
    number-judged = ap (good_number (take k numbers)) l.1 ∙ good_number-cap (take k numbers) (entry_in (row_at k) (drop at t)).number

    -- its number is not good
    pub judged-no-number : good_number (take k numbers) line.number ≡ false → JudgedIs t at k numbers users (Err bad)
    unfolding good_at
    judged-no-number g = (rw (found, sym number-judged ∙ g), refl)

    module _ (g : good_number (take k numbers) line.number ≡ true) where
      -- so it is the line's own, below the cap
      own-number : (line.number ≡ (entry_in (row_at k) (drop at t)).number) × (line.number < cap)
      own-number =
          let x = (entry_in (row_at k) (drop at t)).number in
          let b : x ≤ (row_at (length (take k numbers))).greatest =
          number_bound (take k numbers) x (true-T (good_number (take k numbers) x) (sym number-judged ∙ g)) in
          (omega (arith, l.1, greatest-cap (length (take k numbers))), omega (arith, l.1, greatest-cap (length (take k numbers))))

      judged-found : T (good_at t at k numbers users) → JudgedIs t at k numbers users (Ok line)
      judged-found w = (w, own-number.0, own-number.1, l.2, l.3)

      -- on a line with a number alone
      pub judged-alone : k < number_lines → JudgedIs t at k numbers users (Ok line)
      unfolding good_at
      judged-alone h = judged-found (rw (found, sym number-judged ∙ g, lt-leb number_lines k h) tt)

      -- on a seat's line its name is new or not
      pub judged-seat : number_lines ≤ k → (new : Bool) → new ≡ new_name (k - number_lines) users (take (line.end - line.name) (drop line.name t))
          → JudgedIs t at k numbers users (ok_or (then_some new line) bad)
      unfolding good_at
      judged-seat h true e =
          judged-found (rw (found, sym number-judged ∙ g, le-leb number_lines k h, sym (e ∙ ap (new_name (k - number_lines) users) l.2.octets)) tt)
      judged-seat h false e =
          (rw (found, sym number-judged ∙ g, le-leb number_lines k h, sym (e ∙ ap (new_name (k - number_lines) users) l.2.octets)), refl)
