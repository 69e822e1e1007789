-- `reception::admit` meets its contract: its tests are those of the definition, in their order; past the first the numbers are a valid
-- sheet's, so there are nineteen, and the rules are the sheet's (`rules_lent`). Assumes nothing.
use mathlib.Core.Path.{sym, ap, ◌∙◌}
use native.Mathlib.Omega.{arith}
use Rattle.octets.proofs.Choice.{true-T}
use Rattle.sheet.proofs.Laws.Values.{valid-counted}
use Rattle.streams.specs.declared.stream.Rules.{Rules}
use Rattle.streams.specs.Record.{on_sheet}
use Rattle.reception.specs.Inner.{admitted}
use Rattle.reception.proofs.Laws.Checks.{rules_lent}
use Rattle.reception.proofs.admit.Goals as goal

pub returns-then-not-are_valid : goal.returns-then-not-are_valid
unfolding admitted
returns-then-not-are_valid c = rw (sym c.are_valid.ensures ∙ c.if-not-are_valid.true)

pub bounds-numbers-1 : goal.bounds-numbers-1
bounds-numbers-1 c = omega (arith, valid-counted _ (true-T _ (sym c.are_valid.ensures ∙ c.if-not-are_valid.false)))

pub bounds-numbers-10 : goal.bounds-numbers-10
bounds-numbers-10 c = omega (arith, valid-counted _ (true-T _ (sym c.are_valid.ensures ∙ c.if-not-are_valid.false)))

pub returns-then-not-is_on : goal.returns-then-not-is_on
unfolding admitted
returns-then-not-is_on c =
    let valid = sym c.are_valid.ensures ∙ c.if-not-are_valid.false in
    let on = sym (c.is_on.ensures ∙ ap (λ (q : Rules). on_sheet q c.args.stream) (rules_lent _ (true-T _ valid))) in
    rw (valid, on ∙ c.if-not-is_on.true)

pub returns : goal.returns
unfolding admitted
returns c =
    let valid = sym c.are_valid.ensures ∙ c.if-not-are_valid.false in
    let on = sym (c.is_on.ensures ∙ ap (λ (q : Rules). on_sheet q c.args.stream) (rules_lent _ (true-T _ valid))) in
    rw (valid, on ∙ c.if-not-is_on.false, rules_lent _ (true-T _ valid))
