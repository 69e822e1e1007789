-- `face::read` meets its contract: what is read of the packet, as a row or a refusal. Assumes nothing.
use mathlib.Core.Path.{◌≡◌, sym, ap, ◌∙◌}
use borrow.Author.Rules.{rules}
use Rattle.std.specs.Prelude.{Err}
use Rattle.packet.specs.Message.{read_said}
use Rattle.reception.specs.Steps.{gives}
use Rattle.face.specs.Calls.{outcome_says, read_says}
use Rattle.face.proofs.Laws.Told.{put-refused, put-given}
use Rattle.face.proofs.Laws.Packets.{said_row}
use Rattle.face.proofs.read.Goals as goal

pub returns-in_err-read : goal.returns-in_err-read
unfolding read_says
returns-in_err-read c =
    let bad : c.from_residual.result ≡ Err c.in_err-read.field-0.0 = search rules in
    put-refused _ c.args.message.now _ _ bad (ap outcome_says (sym c.read_lent.ensures ∙ ap read_said c.in_err-read.was))

pub returns : goal.returns
unfolding read_says
returns c =
    let says = ap outcome_says (sym c.read_lent.ensures ∙ ap read_said c.in_ok-read.was) ∙ said_row _ in
    put-given _ _ c.args.message.now _ _ (says ∙ ap gives (sym c.row_of.ensures.0)) c.put.ensures
