-- `rows::attempt::attempt_in` meets its contract: part by part. Assumes nothing.
use mathlib.Core.Path.{◌≡◌, sym, ap, ◌∙◌}
use mathlib.Core.List.{List}
use Prim.Native.Nat.{ℕ, ◌-◌}
use native.Mathlib.Omega.{arith}
use Rattle.std.specs.Prelude.{Option}
use lib.ListN.{length, take, drop}
use Rattle.streams.specs.declared.Answer.{Answer}
use Rattle.rows.specs.Rows.{answer_in}
use Rattle.rows.specs.Held.{given}
use Rattle.rows.proofs.Laws.Held.{given_some, given_none, octet, no_octet}
use Rattle.rows.proofs.Laws.Attempts.{part_end, attempt_uncounted, stream-unheld, seen-unheld, wanted-unheld, answer-unheld, attempt-made}
use Rattle.rows.proofs.attempt.attempt_in.Goals as goal

pub returns-in_default : goal.returns-in_default
returns-in_default c = sym (attempt_uncounted c.args.row.now (λ e. omega (arith, e, c.in_default.len_below)))

pub returns-in_default-2 : goal.returns-in_default-2
returns-in_default-2 c = sym (attempt_uncounted c.args.row.now (λ e. omega (arith, e, c.in_default.len_at_least)))

pub returns-in_err-ok : goal.returns-in_err-ok
returns-in_err-ok c =
    rw c.from_residual.ensures (sym (stream-unheld c.args.row.now (no_octet _ _ c.try_from.ensures (sym c.ok.ensures.value ∙ c.in_err-ok.was))))

pub returns-in_err-record_in : goal.returns-in_err-record_in
returns-in_err-record_in c =
    let stream = octet _ _ _ c.try_from.ensures (sym c.ok.ensures.value ∙ c.in_ok-ok.was) in
    let seen = given_none _ (sym c.record_in.ensures ∙ c.in_err-record_in.was) in
    rw c.from_residual-in_err-record_in.ensures (sym (seen-unheld c.args.row.now stream.0 seen))

pub returns-in_err-record_in-2 : goal.returns-in_err-record_in-2
returns-in_err-record_in-2 c =
    let stream = octet _ _ _ c.try_from.ensures (sym c.ok.ensures.value ∙ c.in_ok-ok.was) in
    let wanted = given_none _ (sym c.record_in-2.ensures ∙ c.in_err-record_in-2.was) in
    rw c.from_residual-in_err-record_in-2.ensures (sym (wanted-unheld c.args.row.now stream.0 wanted))

-- the answer is looked for in what is left of the row behind the five
answer : (row : List ℕ) (found : Option Answer) → found ≡ given (answer_in (take (length row - 5) (drop 5 row)))
    → given (answer_in (drop 5 row)) ≡ found
answer row found e = ap (λ (l : List ℕ). given (answer_in l)) (sym (part_end 5 row)) ∙ sym e

pub returns-in_err-answer_in : goal.returns-in_err-answer_in
returns-in_err-answer_in c =
    let stream = octet _ _ _ c.try_from.ensures (sym c.ok.ensures.value ∙ c.in_ok-ok.was) in
    let given = given_none _ (answer c.args.row.now _ c.answer_in.ensures ∙ c.in_err-answer_in.was) in
    rw c.from_residual-in_err-answer_in.ensures (sym (answer-unheld c.args.row.now stream.0 given))

pub returns : goal.returns
returns c =
    let stream = octet _ _ _ c.try_from.ensures (sym c.ok.ensures.value ∙ c.in_ok-ok.was) in
    let seen = given_some _ _ (sym c.record_in.ensures ∙ c.in_ok-record_in.was) in
    let wanted = given_some _ _ (sym c.record_in-2.ensures ∙ c.in_ok-record_in-2.was) in
    let given = given_some _ _ (answer c.args.row.now _ c.answer_in.ensures ∙ c.in_ok-answer_in.was) in
    attempt-made c.args.row.now stream.0 _ _ _ _ stream.1 seen wanted given
