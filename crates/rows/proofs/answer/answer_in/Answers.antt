-- `rows::answer::answer_in` meets its contract: six numbers stand for their likely answer where its row is them. Assumes nothing.
use mathlib.Core.Bool.{true≢false}
use mathlib.Core.Path.{sym, ◌∙◌}
use Rattle.rows.proofs.Laws.Answers.{answer-found, answer-other}
use Rattle.rows.proofs.answer.answer_in.Goals as goal

pub returns-then-is_row : goal.returns-then-is_row
returns-then-is_row c = answer-found c.args.row.now _ _ c.likely-answer.ensures c.row_of.ensures.0 (c.is_row.ensures.0 c.if-is_row.true)

pub returns-else-is_row : goal.returns-else-is_row
returns-else-is_row c =
    answer-other c.args.row.now _ _ c.likely-answer.ensures c.row_of.ensures.0 (λ e. true≢false (sym (c.is_row.ensures.1 e) ∙ c.if-is_row.false))
