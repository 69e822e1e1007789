-- `seats::find::is_new_name` meets its contract: a name is new where it can be a User ID and `by_user` finds nobody.
-- Assumes nothing.
use mathlib.Core.Path.{sym, ◌∙◌}
use Rattle.sheet.proofs.Laws.Rows.{new_name-bad}
use Rattle.seats.proofs.Laws.Words.{found-new}
use Rattle.seats.proofs.find.is_new_name.Goals as goal

pub returns-then-is_user_id : goal.returns-then-is_user_id
returns-then-is_user_id c =
    let a = c.args in
    found-new a.seats a.users.now a.name.now c.by_user.result _ (sym c.is_user_id.ensures ∙ c.if-is_user_id.true) c.by_user.ensures c.is_none.ensures

pub returns-else-is_user_id : goal.returns-else-is_user_id
returns-else-is_user_id c =
    let a = c.args in
    c.if-is_user_id.false ∙ sym (new_name-bad a.seats a.users.now a.name.now (sym c.is_user_id.ensures ∙ c.if-is_user_id.false))
