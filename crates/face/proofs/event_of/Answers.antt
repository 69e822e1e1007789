-- `face::event_of` meets its contract: what the controller says of the packet, as a row or a refusal. Assumes nothing.
use mathlib.Core.Path.{◌≡◌, sym, ap, ◌∙◌}
use borrow.Author.Rules.{rules}
use Rattle.std.specs.Prelude.{Err}
use Rattle.incoming.specs.Event.{offered_said}
use Rattle.rows.specs.Rows.{event_row}
use Rattle.face.specs.Calls.{of_given, event_says}
use Rattle.face.proofs.Laws.Told.{put-refused, put-given}
use Rattle.face.proofs.event_of.Goals as goal

pub returns-in_err-made : goal.returns-in_err-made
unfolding event_says of_given
returns-in_err-made c =
    let bad : c.from_residual.result ≡ Err c.in_err-made.field-0.0 = search rules in
    put-refused _ c.args.event.now _ _ bad (ap (of_given event_row) (sym c.event_lent.ensures ∙ ap offered_said c.in_err-made.was))

pub returns : goal.returns
unfolding event_says of_given
returns c =
    put-given _ _ c.args.event.now _ _ (ap (of_given event_row) (sym c.event_lent.ensures ∙ ap offered_said c.in_ok-made.was)) c.put_event.ensures
