-- `seats::user::visible_end` meets its contract. Assumes nothing.
use mathlib.Core.Path.{◌≡◌, ap, ◌∙◌}
use Prim.Native.Nat.{ℕ, ◌+◌, ◌-◌}
use native.Mathlib.Omega.{arith}
use lib.ListN.{length, take, drop, length-drop}
use lib.Seq.{take_all}
use Rattle.std.proofs.Common.{rules, tests}
use Rattle.std.proofs.lemmas.Iterator.{YieldsList-from_slice}
use Rattle.std.proofs.lemmas.List.{drop_min}
use Rattle.std.proofs.lemmas.Iterator.Consumers.{YieldsList-at, count_from_yields_List}
use Rattle.std.proofs.lemmas.Iterator.Search.{YieldsList-from_take_while}
use Rattle.sheet.specs.Judge.{visible}
use Rattle.seats.proofs.Laws.Words.{take-front}
use Rattle.seats.proofs.user.visible_end.Goals as goal

pub returns : goal.returns
returns c =
    let text = c.args.text.now in
    let at = c.args.at in
    let rest = drop at text in
    let behind = drop c.min.result text in
    let all : take (length text - c.min.result) behind ≡ behind = take_all (length text - c.min.result) behind (rw length-drop (omega arith)) in
    let cut : behind ≡ rest = rw c.min.ensures (drop_min at text) in
    let from : c.iter.result.rest.now ≡ rest = rw c.iter.ensures.rest (all ∙ cut) in
    ap (λ (n : ℕ). at + n)
    (count_from_yields_List _ _ c.count.ensures.ran
    (YieldsList-from_take_while _ visible (YieldsList-at c.take_while.ensures.source (YieldsList-from_slice rest from))
    c.take_while.ensures.closure c.take_while.ensures.done (λ x b q k. search (rules, tests)))
    ∙ ap length (take-front visible rest))
