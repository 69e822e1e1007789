-- `sheet_text::users` meets its contract: what is read over rows of zeros. Assumes nothing.
use mathlib.Core.Path.{ap, ◌∙◌}
use Rattle.sheet_text.specs.Reading.{users_over}
use Rattle.sheet_text.proofs.Laws.Scanned.{no_users, users-over-none}
use Rattle.sheet_text.proofs.users.Goals as goal

pub returns : goal.returns
returns c =
    let t = c.args.text.now in
    c.read_with.ensures.1 ∙ ap (users_over t) no_users ∙ users-over-none t
