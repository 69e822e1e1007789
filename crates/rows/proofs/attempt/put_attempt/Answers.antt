-- `rows::attempt::put_attempt` meets its contract: the row is made of the rows of its parts. Assumes nothing.
use mathlib.Core.Path.{◌∙◌, subst}
use mathlib.Core.List.{List}
use Prim.Native.Nat.{ℕ}
use Rattle.reception.specs.Steps.{gives}
use Rattle.rows.specs.Promises.{Put}
use Rattle.rows.proofs.Laws.Attempts.{try-row}
use Rattle.rows.proofs.attempt.put_attempt.Goals as goal

pub returns : goal.returns
returns c =
    let a = c.args in
    let row = try-row a.attempt _ _ _ _ _ _ c.from.ensures (c.from-3.ensures ∙ c.from-2.ensures) c.from-4.ensures (c.from-6.ensures ∙ c.from-5.ensures)
    c.from-7.ensures c.row_of.ensures.0 in
    subst (λ (l : List ℕ). Put (gives l) a.out.now c.put.result c.put.new.out) row c.put.ensures
