-- `sheet_line::tail` meets its contract: the octets found at the places are those of what follows a number on the row's line.
-- Assumes nothing.
use mathlib.Core.Path.{◌≡◌, refl, sym, ◌∙◌}
use mathlib.Core.Bool.{true}
use Prim.Native.Nat.{ℕ, ◌≤◌}
use Rattle.sheet.specs.Table.{table, number_lines, row_at}
use Rattle.sheet.proofs.Laws.Rules.{row-unnamed, row_named}
use Rattle.sheet_line.proofs.Laws.LineAt.{tail-alone, tail-no-comma, tail-seat}
use Rattle.sheet_line.proofs.tail.Goals as goal

pub returns-then-k-lt-NUMBER_LINES : goal.returns-then-k-lt-NUMBER_LINES
unfolding number_lines table
returns-then-k-lt-NUMBER_LINES c =
    let a = c.args in
    rw c.then_some.ensures (tail-alone a.text.now a.at (row_at a.k) (row-unnamed a.k c.if-k-lt-NUMBER_LINES.true) _ c.is_at.ensures)

-- a seat's line
seat : (k : ℕ) → 11 ≤ k → (row_at k).named ≡ true
unfolding number_lines table
seat k h = row_named k h

pub returns-then-not-is_at : goal.returns-then-not-is_at
returns-then-not-is_at c =
    let a = c.args in
    tail-no-comma a.text.now a.at _ (row_at a.k) (seat a.k c.if-k-lt-NUMBER_LINES.false) refl (sym c.is_at-2.ensures ∙ c.if-not-is_at.true)

pub returns : goal.returns
returns c =
    let a = c.args in
    rw c.then_some-2.ensures
    (tail-seat a.text.now a.at c.visible_end-end.result (row_at a.k) (seat a.k c.if-k-lt-NUMBER_LINES.false) c.visible_end-end.ensures
    (sym c.is_at-2.ensures ∙ c.if-not-is_at.false) _ c.is_at-3.ensures)
