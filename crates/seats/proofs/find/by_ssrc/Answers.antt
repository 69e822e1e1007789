use mathlib.Core.Path.{◌≡◌}
use Rattle.std.proofs.Common.{rules, tests, ℕ, Bool, eqb}
use Rattle.std.proofs.lemmas.Iterator.{YieldsList-from_slice, YieldsList-from_take}
use Rattle.std.proofs.lemmas.Iterator.Consumers.{YieldsList-at}
use Rattle.std.proofs.lemmas.Iterator.Search.{position_from_yields_List}
use Rattle.sheet.specs.Find.{seat_of_ssrc}
use Rattle.seats.proofs.Laws.Words.{first-place}
use Rattle.seats.proofs.find.by_ssrc.Goals as goal

pub returns : goal.returns
unfolding seat_of_ssrc
returns c =
    let test : ℕ → Bool = λ x. eqb x c.args.ssrc in
    let e = position_from_yields_List test _ _ c.position.result c.position.ensures.ran
    (YieldsList-from_take c.args.senders.seats (YieldsList-at c.take.ensures.source (YieldsList-from_slice c.args.senders.ssrcs cc)) c.take.ensures.count)
    (λ x b q k. search (rules, tests)) in
    let m : c.map.result ≡ c.position.result = search rules in
    rw (m, e) (first-place test _)
