-- `face::field_at` meets its contract: the field, the end or the refusal at the place. Assumes nothing.
use mathlib.Core.Path.{◌≡◌, sym, ap, ◌∙◌, subst}
use mathlib.Core.List.{List}
use Prim.Native.Nat.{ℕ}
use native.Mathlib.Omega.{arith}
use borrow.Author.Rules.{rules}
use Rattle.std.specs.Prelude.{Option, Result, Ok, Err}
use Rattle.sheet.specs.declared.Refusal.{Refusal}
use Rattle.fields.specs.declared.field.Field.{Field}
use Rattle.fields.specs.Walk.{step_of, step_said}
use Rattle.face.specs.Calls.{step_says, field_says}
use Rattle.face.proofs.Laws.Told.{put-refused}
use Rattle.face.proofs.Laws.Fields.{Small, small}
use Rattle.face.proofs.field_at.Goals as goal

pub returns-in_err-found : goal.returns-in_err-found
unfolding field_says
returns-in_err-found c =
    let a = c.args in
    let bad : c.from_residual.result ≡ Err c.in_err-found.field-0.0 = search rules in
    put-refused _ a.field.now _ _ bad (ap (step_says a.place) (sym c.field_at.ensures ∙ ap step_said c.in_err-found.was))

-- what was found there
found : (p : List ℕ) (at : ℕ) (r : Result (Option Field) Refusal) (o : Option Field) → step_said r ≡ step_of p at → r ≡ Ok o
    → step_of p at ≡ step_said (Ok o)
found p at r o e is = sym e ∙ ap step_said is

pub put_field-requires : goal.put_field-requires
put_field-requires c =
    let a = c.args in
    let is = found a.packet.now a.place _ _ c.field_at.ensures (c.in_ok-found.was ∙ ap (λ (o : Option Field). Ok o) c.in-Some.is) in
    subst Small is (small a.packet.now a.place (λ i. omega (arith, c.type_inv.packet i)))

pub returns-in-Some : goal.returns-in-Some
unfolding field_says
returns-in-Some c =
    let a = c.args in
    let is = found a.packet.now a.place _ _ c.field_at.ensures (c.in_ok-found.was ∙ ap (λ (o : Option Field). Ok o) c.in-Some.is) in
    rw is c.put_field.ensures

pub returns-in-None : goal.returns-in-None
unfolding field_says
returns-in-None c =
    let a = c.args in
    let is = found a.packet.now a.place _ _ c.field_at.ensures (c.in_ok-found.was ∙ ap (λ (o : Option Field). Ok o) c.in-None.is) in
    rw is c.put.ensures
