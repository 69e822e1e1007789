-- `seats::user::name_length` meets its contract. Assumes nothing.
use mathlib.Core.Path.{ap, ◌∙◌}
use Rattle.std.proofs.Common.{rules, tests, ℕ, length, Bool, not, eqb}
use Rattle.std.proofs.lemmas.Iterator.{YieldsList-from_slice}
use Rattle.std.proofs.lemmas.Iterator.Consumers.{YieldsList-at, count_from_yields_List}
use Rattle.std.proofs.lemmas.Iterator.Search.{YieldsList-from_take_while}
use Rattle.sheet.specs.Value.{name_of}
use Rattle.seats.proofs.Laws.Words.{take-front}
use Rattle.seats.proofs.user.name_length.Goals as goal

pub returns : goal.returns
unfolding name_of
returns c =
    let test : ℕ → Bool = λ x. not (eqb x 0) in
    count_from_yields_List _ _ c.count.ensures.ran
    (YieldsList-from_take_while _ test (YieldsList-at c.take_while.ensures.source (YieldsList-from_slice c.args.row.now cc))
    c.take_while.ensures.closure c.take_while.ensures.done (λ x b q k. search (rules, tests)))
    ∙ ap length (take-front test c.args.row.now)
