-- `reception::store_lent` meets its contract: what is said of the stream's own record, which is one of the eight where a store takes. Assumes
-- nothing.
use mathlib.Core.Path.{◌≡◌, sym, ◌∙◌}
use Prim.Native.Nat.{◌<◌}
use native.Mathlib.Omega.{arith}
use Rattle.std.specs.Prelude.{Result, Ok, Err, is_ok, true}
use Rattle.sheet.specs.declared.Refusal.{Refusal}
use Rattle.sheet.specs.declared.Sheet.{Sheet}
use Rattle.streams.specs.declared.Answer.{Answer}
use Rattle.streams.specs.declared.Record.{Record}
use Rattle.reception.specs.declared.Attempt.{Attempt}
use Rattle.reception.specs.Promises.{settle≡}
use Rattle.reception.specs.Steps.{stored, store_of, attempt_said}
use Rattle.reception.proofs.Laws.Steps.{reply-below}
use Rattle.reception.proofs.store_lent.Goals as goal

-- the stream of a store that took is one of the eight
took-below : (s : Sheet) (a : Attempt) (x : Record) (r : Result Answer Refusal) → settle≡ s a x r → is_ok r ≡ true → a.stream < 8
took-below s a x (Ok g) e t = reply-below s (attempt_said a) x _ (sym e)
took-below s a x (Err f) e t = cc

pub bounds-records-stream : goal.bounds-records-stream
bounds-records-stream c = took-below _ c.args.attempt _ _ c.settle_lent-taking.ensures (sym c.is_ok.ensures.value ∙ c.if-is_ok.true)

pub returns-then-is_ok : goal.returns-then-is_ok
unfolding store_of stored
returns-then-is_ok c = rw (← c.own_of-own.ensures, ← c.settle_lent-taking.ensures) (grind arith)

pub returns-else-is_ok : goal.returns-else-is_ok
unfolding store_of stored
returns-else-is_ok c = rw (← c.own_of-own.ensures, ← c.settle_lent-taking.ensures) (grind arith)
