-- `look::is_refused` meets its contract, by what is kept. Assumes nothing.
use mathlib.Core.Path.{sym}
use Rattle.look.specs.Steps.{state_of, is_refused}
use Rattle.look.proofs.Laws.Steps.{not_refused}
use Rattle.look.proofs.is_refused.Goals as goal

pub returns-in-Refused : goal.returns-in-Refused
unfolding state_of is_refused
returns-in-Refused c = rw c.in-Refused.is

pub returns-in_default : goal.returns-in_default
returns-in_default c = sym (not_refused c.args.look c.in_default.not-Refused)
