-- `rows::event::event_in` meets its contract: four numbers stand for their likely event where its row is them. Assumes nothing.
use mathlib.Core.Bool.{true≢false}
use mathlib.Core.Path.{sym, ◌∙◌}
use Rattle.rows.proofs.Laws.Events.{event-made, event-found, event-other, stream-unheld, sender_unheld}
use Rattle.rows.proofs.Laws.Held.{given-none, octet, no_octet}
use Rattle.rows.proofs.event.event_in.Goals as goal

pub returns-in_err-stream : goal.returns-in_err-stream
returns-in_err-stream c =
    c.from_residual.ensures ∙ given-none (stream-unheld c.args.row.now (no_octet _ _ c.try_from.ensures (sym c.ok.ensures.value ∙ c.in_err-stream.was)))

pub returns-in_err-by : goal.returns-in_err-by
returns-in_err-by c =
    c.from_residual-in_err-by.ensures ∙ given-none (sender_unheld c.args.row.now (no_octet _ _ c.try_from-2.ensures (sym c.ok-2.ensures.value ∙ c.in_err-by.was)))

pub returns-then-is_row : goal.returns-then-is_row
returns-then-is_row c =
    let row = c.args.row.now in
    let stream = octet _ _ _ c.try_from.ensures (sym c.ok.ensures.value ∙ c.in_ok-stream.was) in
    let by = octet _ _ _ c.try_from-2.ensures (sym c.ok-2.ensures.value ∙ c.in_ok-by.was) in
    let made = event-made row _ _ _ stream.1 by.1 c.likely.ensures in
    event-found row _ _ made stream.0 by.0 c.row_of.ensures (c.is_row.ensures.0 c.if-is_row.true)

pub returns-else-is_row : goal.returns-else-is_row
returns-else-is_row c =
    let row = c.args.row.now in
    let stream = octet _ _ _ c.try_from.ensures (sym c.ok.ensures.value ∙ c.in_ok-stream.was) in
    let by = octet _ _ _ c.try_from-2.ensures (sym c.ok-2.ensures.value ∙ c.in_ok-by.was) in
    let made = event-made row _ _ _ stream.1 by.1 c.likely.ensures in
    event-other row _ _ made c.row_of.ensures (λ e. true≢false (sym (c.is_row.ensures.1 e) ∙ c.if-is_row.false))
