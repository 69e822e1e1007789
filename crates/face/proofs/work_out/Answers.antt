-- `face::work_out` meets its contract: what is worked out on the record and the event that the rows stand for, and 9 for all else. Assumes nothing.
use mathlib.Core.Path.{◌≡◌, sym, ap, ◌∙◌}
use mathlib.Core.List.{[]}
use borrow.Author.Rules.{rules}
use Rattle.std.specs.Prelude.{Err}
use Rattle.sheet.specs.Value.{sheet_in}
use Rattle.reception.specs.Steps.{Left, Try, worked_said, work_of}
use Rattle.rows.specs.Rows.{try_row}
use Rattle.rows.specs.Held.{recording_said}
use Rattle.face.specs.Calls.{of_given}
use Rattle.face.proofs.Laws.Told.{put-refused, put-given, put-misfit}
use Rattle.face.proofs.Laws.Off.{eventing-some, eventing-none}
use Rattle.face.proofs.Laws.Steps.{work-unseen, work-given, work-nothing}
use Rattle.face.proofs.work_out.Goals as goal

pub returns-in_default : goal.returns-in_default
returns-in_default c =
    let a = c.args in
    put-misfit (sheet_in a.sheet.now) _ a.attempt.now _ c.misfit.ensures
    (work-unseen a.sheet.now a.seen.now a.event.now (sym c.record_in.ensures ∙ ap recording_said c.in_default.is))

pub returns-in_default-event_in : goal.returns-in_default-event_in
returns-in_default-event_in c =
    let a = c.args in
    put-misfit (sheet_in a.sheet.now) _ a.attempt.now _ c.misfit-in_default-event_in.ensures
    (work-nothing a.sheet.now a.seen.now a.event.now (eventing-none a.event.now _ c.event_in.ensures c.in_default-event_in.is))

pub returns-in_err-worked : goal.returns-in_err-worked
unfolding work_of of_given
returns-in_err-worked c =
    let a = c.args in
    let seen = sym c.record_in.ensures ∙ ap recording_said c.in-Some.is in
    let event = eventing-some a.event.now _ _ c.event_in.ensures c.in-Some-event_in.is in
    let says = ap (λ (l : Left Try). l.said) (c.work_out_lent.ensures []) in
    let bad : c.from_residual.result ≡ Err c.in_err-worked.field-0.0 = search rules in
    put-refused _ a.attempt.now _ _ bad
    (work-given a.sheet.now a.seen.now a.event.now _ _ seen event ∙ ap (of_given try_row) (sym says ∙ ap worked_said c.in_err-worked.was))

pub returns : goal.returns
unfolding work_of of_given
returns c =
    let a = c.args in
    let seen = sym c.record_in.ensures ∙ ap recording_said c.in-Some.is in
    let event = eventing-some a.event.now _ _ c.event_in.ensures c.in-Some-event_in.is in
    let says = ap (λ (l : Left Try). l.said) (c.work_out_lent.ensures []) in
    put-given _ _ a.attempt.now _ _
    (work-given a.sheet.now a.seen.now a.event.now _ _ seen event ∙ ap (of_given try_row) (sym says ∙ ap worked_said c.in_ok-worked.was))
    c.put_attempt.ensures
