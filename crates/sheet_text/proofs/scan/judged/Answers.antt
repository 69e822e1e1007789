-- `sheet_text::scan::judged` meets its contract: the line that was found, its number and its name are judged one after the other.
-- Assumes nothing.
use mathlib.Core.Path.{◌≡◌, sym, ◌∙◌}
use borrow.Author.Rules.{rules}
use Prim.Native.Nat.{◌+◌}
use Rattle.std.specs.Prelude.{Err}
use Rattle.sheet.specs.Table.{table, number_lines}
use Rattle.sheet_text.specs.Reading.{bad_line}
use Rattle.sheet_text.proofs.Laws.Judgement.{judged-no-line, judged-no-number, judged-alone, judged-seat}
use Rattle.sheet_text.proofs.scan.judged.Goals as goal

pub returns-in_err-line : goal.returns-in_err-line
returns-in_err-line c =
    let a = c.args in
    let bad : c.from_residual.result ≡ Err (bad_line (a.k + 1)) = search rules in
    let none = rw c.in_err-line.ensures.ok_part at c.line_at.ensures.1 in
    rw bad (judged-no-line a.text.now a.at a.k a.numbers.now a.users.now none)

pub returns-then-not-is_good_number : goal.returns-then-not-is_good_number
returns-then-not-is_good_number c =
    let a = c.args in
    let found = rw c.in_ok-line.ensures.ok_part at c.line_at.ensures.1 in
    judged-no-number a.text.now a.at a.k a.numbers.now a.users.now c.in_ok-line.line found (sym c.is_good_number.ensures ∙ c.if-not-is_good_number.true)

pub returns-then-k-lt-NUMBER_LINES : goal.returns-then-k-lt-NUMBER_LINES
unfolding number_lines table
returns-then-k-lt-NUMBER_LINES c =
    let a = c.args in
    let found = rw c.in_ok-line.ensures.ok_part at c.line_at.ensures.1 in
    judged-alone a.text.now a.at a.k a.numbers.now a.users.now c.in_ok-line.line found
    (sym c.is_good_number.ensures ∙ c.if-not-is_good_number.false)
    c.if-k-lt-NUMBER_LINES.true

pub returns : goal.returns
unfolding number_lines table
returns c =
    let a = c.args in
    let found = rw c.in_ok-line.ensures.ok_part at c.line_at.ensures.1 in
    rw (c.ok_or-2.ensures.value, c.then_some.ensures)
    (judged-seat a.text.now a.at a.k a.numbers.now a.users.now c.in_ok-line.line found
    (sym c.is_good_number.ensures ∙ c.if-not-is_good_number.false)
    c.if-k-lt-NUMBER_LINES.false
    c.is_new_name.result c.is_new_name.ensures)
