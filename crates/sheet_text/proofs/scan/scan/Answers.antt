-- `sheet_text::scan::scan` meets its contract: after each turn the arrays hold what some good lines are laid out to, and the
-- outcome from there is the text's own. Assumes nothing.
use mathlib.Core.Path.{◌≡◌, refl, sym, subst}
use mathlib.Core.List.{List}
use Prim.Native.Nat.{ℕ, ◌+◌, ◌≤◌, ◌<◌}
use native.Mathlib.Omega.{arith}
use borrow.Author.Rules.{rules}
use lib.ListN.{get_or}
use Rattle.std.specs.Prelude.{Err}
use Rattle.sheet.specs.Table.{table, number_lines, seats_line, most_seats}
use Rattle.sheet_text.proofs.Laws.Scanned.{lines_in, Scanned, scanned-none, scanned-room, scanned-refused, scanned-reading, scanned-users, scanned-alone, scanned-seat}
use Rattle.sheet_text.proofs.scan.scan.Goals as goal

-- a line is still to come: one with a number alone, or that of a seat
alone : (numbers : List ℕ) (k : ℕ) → k < 11 → k < lines_in numbers
unfolding number_lines table seats_line
alone numbers k h = omega arith

seat : (numbers : List ℕ) (s : ℕ) → s < get_or numbers 10 0 → 11 + s < lines_in numbers
unfolding number_lines table seats_line
seat numbers s h = omega arith

pub loop-k-init : goal.loop-k-init
unfolding number_lines table most_seats
loop-k-init c = subst (λ (us : List (List ℕ)). Scanned c.args.text.now _ us 0 0) (sym c.requires) (scanned-none c.args.text.now)

pub returns-in_err-line : goal.returns-in_err-line
returns-in_err-line c =
    let bad : c.from_residual.result ≡ Err c.in_err-line.field-0.0 = search rules in
    rw bad (scanned-refused c.loop-k.invariant (alone _ _ c.loop-k-test.true) _ c.in_err-line.ensures, tt)

pub loop-k-preserved : goal.loop-k-preserved
unfolding number_lines table
loop-k-preserved c = scanned-alone c.loop-k.invariant (alone _ _ c.loop-k-test.true) c.in_ok-line.line c.in_ok-line.ensures c.loop-k-test.true

pub loop-s-init : goal.loop-s-init
unfolding number_lines table seats_line most_seats
loop-s-init c =
    let i = c.loop-k.invariant in
    let k : c.loop-k.k ≡ 11 = omega arith in
    (rw k at i, refl, omega (arith, scanned-room i))

pub returns-in_err-line-2 : goal.returns-in_err-line-2
returns-in_err-line-2 c =
    let bad : c.from_residual-in_err-line-2.result ≡ Err c.in_err-line-2.field-0.0 = search rules in
    rw bad (scanned-refused c.loop-s.invariant.0 (seat _ _ (omega arith)) _ c.in_err-line-2.ensures, tt)

pub loop-s-preserved : goal.loop-s-preserved
unfolding number_lines table
loop-s-preserved c =
    let l = c.loop-s in
    let turn = scanned-seat l.invariant.0 (seat l.numbers l.s (omega arith)) c.in_ok-line-2.line c.in_ok-line-2.ensures l.s refl in
    let next : 11 + l.s + 1 ≡ 11 + (l.s + 1) = omega arith in
    (rw (c.put_octets.ensures, ← next) turn, search rules, omega arith)

pub returns : goal.returns
unfolding number_lines table seats_line
returns c =
    let i = c.loop-s.invariant.0 in
    let h : lines_in c.loop-s.numbers ≤ 11 + c.loop-s.s = omega arith in
    (rw c.sheet_of.ensures (scanned-reading i h), scanned-users i h)
