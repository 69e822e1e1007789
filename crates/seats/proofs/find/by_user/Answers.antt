-- `seats::find::by_user` meets its contract: the position that std's words say. Assumes nothing.
use mathlib.Core.Path.{◌≡◌}
use Rattle.std.proofs.Common.{rules, tests, ℕ, Bool, List}
use Rattle.std.proofs.lemmas.Iterator.{YieldsList-from_slice, YieldsList-from_take}
use Rattle.std.proofs.lemmas.Iterator.Consumers.{YieldsList-at}
use Rattle.std.proofs.lemmas.Iterator.Search.{position_from_yields_List}
use Rattle.octets.specs.Choice.{same}
use Rattle.sheet.specs.Value.{name_of}
use Rattle.sheet.specs.Find.{seat_of_user}
use Rattle.seats.proofs.Laws.Words.{first-place}
use Rattle.seats.proofs.find.by_user.Goals as goal

pub returns : goal.returns
unfolding seat_of_user
returns c =
    let test : List ℕ → Bool = λ row. same (name_of row) c.args.name.now in
    let e = position_from_yields_List test _ _ c.position.result c.position.ensures.ran
    (YieldsList-from_take c.args.seats (YieldsList-at c.take.ensures.source (YieldsList-from_slice c.args.users.now cc)) c.take.ensures.count)
    (λ x b q k. search (rules, tests)) in
    let m : c.map.result ≡ c.position.result = search rules in
    rw (m, e) (first-place test _)
