-- `sheet_text::read_with` meets its contract: the pass puts the User IDs into rows of zeros, and those of a sheet that reads are handed on.
-- Assumes nothing.
use mathlib.Core.Path.{◌≡◌, sym, ◌∙◌}
use borrow.Author.Rules.{rules}
use Rattle.std.specs.Prelude.{Err}
use Rattle.sheet_text.proofs.Laws.Scanned.{no_users, users-read, users-refused}
use Rattle.sheet_text.proofs.read_with.Goals as goal

pub scan-requires : goal.scan-requires
scan-requires c = no_users

pub returns-in_err-read : goal.returns-in_err-read
returns-in_err-read c =
    let a = c.args in
    let bad : c.from_residual.result ≡ Err c.in_err-read.field-0.0 = search rules in
    (rw bad c.in_err-read.ensures.0, sym (users-refused a.text.now a.users.now _ c.in_err-read.ensures.0))

pub returns : goal.returns
returns c =
    let a = c.args in
    (c.in_ok-read.ensures.0, c.in_ok-read.ensures.1 ∙ sym (users-read a.text.now a.users.now _ c.in_ok-read.ensures.0))
