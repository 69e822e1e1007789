-- `fields::field::field_at` meets its contract: at a right place before the end there is a right field exactly if there is an end of it.
-- Assumes nothing.
use mathlib.Core.Path.{◌≡◌, sym, ◌∙◌}
use Prim.Native.Nat.{ℕ, ◌+◌, ◌≤◌}
use native.Mathlib.Omega.{arith}
use lib.ListN.{length}
use Rattle.sheet.specs.declared.Refusal.TheVariants.{Layout}
use Rattle.std.specs.Prelude.{Some, None}
use Rattle.std.proofs.lemmas.Result.{err_from_is_err_and}
use Rattle.fields.specs.Walk.{place_right}
use Rattle.octets.proofs.Choice.{true-T}
use Rattle.fields.proofs.Laws.Walk.{right-inside}
use Rattle.fields.proofs.Laws.Step.{right_place, past_some, past_none, step-off, step_end, step-wrong, step_right}
use Rattle.fields.proofs.field.field_at.Goals as goal
use Rattle.fields.proofs.field.field_at.Goals.{After-past_field}

pub returns-then-not-is_place_right : goal.returns-then-not-is_place_right
returns-then-not-is_place_right c = sym (step-off c.args.packet.now c.args.at (sym c.if-not-is_place_right.ensures))

pub returns-then-at-packet : goal.returns-then-at-packet
returns-then-at-packet c =
    let p = c.args.packet.now in
    let at = c.args.at in
    let here = right_place p at (true-T (place_right p at) (sym c.if-not-is_place_right.ensures)) in
    sym (step_end p at here.least here.word c.if-at-packet.true)

pub past_field-requires : goal.past_field-requires
past_field-requires c =
    let p = c.args.packet.now in
    (right_place p c.args.at (true-T (place_right p c.args.at) (sym c.if-not-is_place_right.ensures))).inside

pub returns-in_err-next : goal.returns-in_err-next
returns-in_err-next c =
    let p = c.args.packet.now in
    let at = c.args.at in
    let here = right_place p at (true-T (place_right p at) (sym c.if-not-is_place_right.ensures)) in
    let none : c.past_field.result ≡ None = grind arith in
    let wrong = past_none p at (sym none ∙ c.past_field.ensures) in
    let is = err_from_is_err_and c.from_residual.result c.from_residual.ensures.1 in
    let refusal : c.in_err-next.field-0.0 ≡ Layout = cc (rw none at c.in_err-next.ensures.value) in
    rw (is.1, is.2, refusal) (sym (step-wrong p at (omega (arith, here.inside)) wrong))

-- a word stands at the place
word : (c : After-past_field) (next : ℕ) → c.past_field.result ≡ Some next → c.args.at + 4 ≤ length c.args.packet.now
word c next is = (right-inside c.args.packet.now c.args.at (past_some c.args.packet.now c.args.at next (sym is ∙ c.past_field.ensures)).0).0

pub bounds-packet-at : goal.bounds-packet-at
bounds-packet-at c =
    let some : c.past_field.result ≡ Some c.in_ok-next.next = grind arith in
    omega (arith, word (goal.at.bounds-packet-at c).After-past_field c.in_ok-next.next some)

pub overflow_add-result : goal.overflow_add-result
overflow_add-result c =
    let some : c.past_field.result ≡ Some c.in_ok-next.next = grind arith in
    omega (arith, word (goal.at.overflow_add-result c).After-past_field c.in_ok-next.next some)

pub bounds-packet-at-2 : goal.bounds-packet-at-2
bounds-packet-at-2 c =
    let some : c.past_field.result ≡ Some c.in_ok-next.next = grind arith in
    omega (arith, word (goal.at.bounds-packet-at-2 c).After-past_field c.in_ok-next.next some)

pub returns : goal.returns
returns c =
    let p = c.args.packet.now in
    let at = c.args.at in
    let here = right_place p at (true-T (place_right p at) (sym c.if-not-is_place_right.ensures)) in
    let some : c.past_field.result ≡ Some c.in_ok-next.next = grind arith in
    let past = past_some p at c.in_ok-next.next (sym some ∙ c.past_field.ensures) in
    sym (step_right p at here.least here.word past.0 c.in_ok-next.next past.1)
