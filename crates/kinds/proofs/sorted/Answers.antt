-- `kinds::sorted` meets its contract: judging finds a fault, or the places by which the message has its values.
-- Assumes nothing.
use mathlib.Core.Path.{◌≡◌, ◌∙◌}
use Rattle.std.specs.Prelude.{Ok, Err}
use mathlib.Core.List.{List}
use Rattle.std.proofs.lemmas.Result.{err_from_is_err_and}
use Prim.Native.Nat.{ℕ}
use borrow.Author.Tests.{eq-eqb}
use lib.ListN.{length}
use lib.Dec.{T, eqb}
use Rattle.octets.proofs.Choice.{true-T}
use Rattle.fields.specs.Header.{first_field}
use Rattle.fields.specs.Walk.{stop_from, whole}
use Rattle.kinds.specs.Inner.{Walked, JudgedIs}
use Rattle.kinds.proofs.Laws.Values.{handed}
use Rattle.kinds.proofs.Laws.Kinds.{slots_numbered-else}
use Rattle.kinds.proofs.Laws.Found.{faulty_found, right_found}
use Rattle.kinds.proofs.sorted.Goals as goal
use Rattle.kinds.proofs.sorted.Goals.{After-judge, then-eq, else-eq}

-- a packet that was walked over is whole
walked_whole : (p : List ℕ) → Walked p → T (whole p)
unfolding whole
walked_whole p w = true-T (eqb (stop_from p first_field) (length p)) (eq-eqb (stop_from p first_field) (length p) w.whole)

-- the slots that the code hands to judging: whether the Result is 1 is looked at in one kind alone
pub slots : (c : After-judge) → c.slots_of.result ≡ handed c.args.numbers c.args.whole.packet.now c.args.kind
slots c =
    let a = c.args in
    c.slots_of.ensures
    ∙ (elim c.if-eq.branch [
      | then-eq w ↦ rw (w.granted-is, w.is_granted-granted.ensures)
      | else-eq w ↦ slots_numbered-else a.numbers a.kind (λ e. let no = rw e at w.if-eq.ensures in cc) _ _
    ])

pub returns-in_err-places : goal.returns-in_err-places
returns-in_err-places c =
    let a = c.args in
    let p = a.whole.packet.now in
    let is = err_from_is_err_and c.from_residual.result c.from_residual.ensures.1 in
    let judged : JudgedIs p (handed a.numbers p a.kind) (Err c.in_err-places.field-0.0) = rw (← slots (goal.at.returns-in_err-places c).After-judge) c.in_err-places.ensures in
    rw (is.1, is.2) (faulty_found a.numbers p a.kind (walked_whole p c.args.whole.walked) _ judged)

pub returns : goal.returns
returns c =
    let a = c.args in
    let p = a.whole.packet.now in
    let judged : JudgedIs p (handed a.numbers p a.kind) (Ok c.in_ok-places.places) = rw (← slots (goal.at.returns c).After-judge) c.in_ok-places.ensures in
    right_found a.numbers p a.kind (walked_whole p c.args.whole.walked) _ judged (record { least = c.args.whole.walked.least; most = c.args.whole.walked.most; inside = judged.2 })
