-- `seats::are_valid_with` meets its contract: the struct is judged by itself, and then row by row. Assumes nothing.
use mathlib.Core.Path.{◌≡◌, sym, ap, ◌∙◌, subst}
use native.Mathlib.Omega.{arith}
use lib.ListN.{length, length-drop}
use lib.Dec.{T}
use Rattle.octets.proofs.Choice.{true-T}
use Rattle.octets.proofs.Buffer.{length-padded}
use Rattle.sheet.specs.declared.Sheet.{Sheet}
use Rattle.sheet.specs.Table.{table, number_lines, most_seats}
use Rattle.sheet.specs.Value.{sheet_by, sheet_from, sheet_in, valid_with, valid_alone}
use Rattle.sheet.proofs.Laws.Values.{rows-judged, not-alone, sheet_in-counted, valid-counted}
use Rattle.seats.proofs.are_valid_with.Goals as goal

pub returns-else-are_valid : goal.returns-else-are_valid
returns-else-are_valid c =
    let a = c.args in
    c.if-are_valid.false ∙ sym (not-alone (sheet_in a.numbers.now) a.users.now (sym c.are_valid.ensures ∙ c.if-are_valid.false))

-- the numbers are a sheet's, so there are nineteen
pub bounds-numbers-10 : goal.bounds-numbers-10
bounds-numbers-10 c =
    let alone = true-T _ (sym c.are_valid.ensures ∙ c.if-are_valid.true) in
    omega (arith, valid-counted _ alone)

pub returns-then-are_valid : goal.returns-then-are_valid
unfolding sheet_from sheet_by number_lines table most_seats
returns-then-are_valid c =
    let a = c.args in
    let ns = a.numbers.now in
    let alone : T (valid_alone (sheet_in ns)) = true-T _ (sym c.are_valid.ensures ∙ c.if-are_valid.true) in
    let long : length ns ≡ 19 = valid-counted _ alone in
    let own : sheet_in ns ≡ sheet_from ns = sheet_in-counted ns long in
    let eight : length (sheet_from ns).ssrcs ≡ 8 = length-padded 8 0 _ (rw length-drop (omega (arith, long))) in
    let t : T (valid_alone (sheet_from ns)) = subst (λ (s : Sheet). T (valid_alone s)) own alone in
    rows-judged (sheet_from ns) a.users.now eight c.are_good_rows.ensures.0 t _ c.are_good_rows.ensures.1
    ∙ ap (λ (s : Sheet). valid_with s a.users.now) (sym own)
