-- `rows::record::record_in` meets its contract: the phase of the first number, and the second as an octet. Assumes nothing.
use mathlib.Core.Path.{sym, ◌∙◌}
use Rattle.rows.proofs.Laws.Held.{given_some, given_none, octet}
use Rattle.rows.proofs.Laws.Records.{phase-given, record-held, record-unheld}
use Rattle.rows.proofs.record.record_in.Goals as goal

pub returns-in_err-ok : goal.returns-in_err-ok
returns-in_err-ok c =
    let phase = phase-given c.args.phase _ _ c.try_from.ensures c.ok.ensures.value in
    c.from_residual.ensures ∙ record-unheld _ c.args.receivers (given_none _ (sym phase ∙ c.in_err-ok.was))

pub returns : goal.returns
returns c =
    let phase = phase-given c.args.phase _ _ c.try_from.ensures c.ok.ensures.value in
    record-held _ c.args.receivers _ _ (given_some _ _ (sym phase ∙ c.in_ok-ok.was))
    (octet _ _ _ c.try_from-2.ensures (sym c.ok-2.ensures.value ∙ c.in_ok-ok-2.was))
