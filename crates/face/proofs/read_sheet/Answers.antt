-- `face::read_sheet` meets its contract: a refusal is passed on, and a sheet that was read is put where both slices have room. Assumes nothing.
use mathlib.Core.Path.{◌≡◌, sym, ap, ◌∙◌}
use native.Mathlib.Omega.{arith}
use borrow.Author.Rules.{rules}
use borrow.Author.Tests.{tests}
use lib.ListN.{length}
use lib.Dec.{eqb→eq}
use Rattle.std.specs.Prelude.{Err}
use Rattle.octets.proofs.Choice.{true-T}
use Rattle.rows.specs.Lent.{told}
use Rattle.rows.proofs.Laws.Put.{told-refused}
use Rattle.face.proofs.Laws.Sheets.{read_small, sheet-refused, sheet-uncounted, sheet-short, sheet-read}
use Rattle.face.proofs.read_sheet.Goals as goal

pub returns-in_err-reading : goal.returns-in_err-reading
returns-in_err-reading c =
    let a = c.args in
    let bad : c.from_residual.result ≡ Err c.in_err-reading.field-0.0 = search rules in
    sheet-refused a.text.now a.sheet.now a.users.now a.used.now _ _ (sym c.in_err-reading.was ∙ c.read_with.ensures.0) bad

pub returns-then-is_empty : goal.returns-then-is_empty
returns-then-is_empty c =
    let a = c.args in
    let none : length a.used.now ≡ 0 = eqb→eq _ _ (true-T _ (sym c.if-is_empty.ensures)) in
    sheet-uncounted a.text.now a.sheet.now a.users.now a.used.now _ (sym c.in_ok-reading.was ∙ c.read_with.ensures.0) none

pub returns-in_err-put : goal.returns-in_err-put
returns-in_err-put c =
    let a = c.args in
    let bad : c.from_residual-in_err-put.result ≡ Err c.in_err-put.field-0.0 = search rules in
    let row = rw c.numbers_of.ensures at c.put.ensures in
    let told-by : told c.from_residual-in_err-put.result ≡ told c.put.result = ap told (bad ∙ sym c.in_err-put.was) in
    rw told-by
    (sheet-short a.text.now a.sheet.now a.users.now a.used.now _ (sym c.in_ok-reading.was ∙ c.read_with.ensures.0) (search (rules, tests)) _ _ row
    (λ z. told-refused _ (sym (ap told c.in_err-put.was) ∙ z)))

pub overflow_cast-reading : goal.overflow_cast-reading
overflow_cast-reading c = omega (arith, (read_small _ _ (sym c.in_ok-reading.was ∙ c.read_with.ensures.0)).used)

pub returns : goal.returns
returns c =
    let a = c.args in
    let row = rw (c.numbers_of.ensures, c.in_ok-put.was) at c.put.ensures in
    sheet-read a.text.now a.sheet.now a.users.now a.used.now _ (sym c.in_ok-reading.was ∙ c.read_with.ensures.0) (search (rules, tests)) _ _ _ _ _ row
    c.read_with.ensures.1 c.put_number.ensures
