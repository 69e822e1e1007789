-- `face::store` meets its contract: what is stored of the attempt in the records that the rows stand for, and 9 for all else. Assumes nothing.
use mathlib.Core.Path.{◌≡◌, refl, sym, ap, ◌∙◌, subst}
use mathlib.Core.List.{List}
use mathlib.Core.Option.{some}
use Prim.Native.Nat.{ℕ}
use native.Mathlib.Omega.{arith}
use borrow.Author.Rules.{rules}
use Rattle.std.specs.Prelude.{Err, Result}
use Rattle.sheet.specs.declared.Sheet.{Sheet}
use Rattle.sheet.specs.declared.Refusal.{Refusal}
use Rattle.sheet.specs.Value.{sheet_in}
use Rattle.streams.specs.declared.Record.{Record}
use Rattle.streams.specs.declared.Answer.{Answer}
use Rattle.streams.specs.Record.{own}
use Rattle.reception.specs.declared.Attempt.{Attempt}
use Rattle.reception.specs.Steps.{gives}
use Rattle.reception.specs.Promises.{settle≡}
use Rattle.rows.specs.Rows.{records_in}
use Rattle.rows.specs.Lent.{told}
use Rattle.rows.specs.Promises.{Rowed, record_at≡}
use Rattle.rows.proofs.Laws.Records.{is-some, own-known}
use Rattle.rows.proofs.Laws.Put.{told-refused}
use Rattle.face.proofs.Laws.Told.{keeps-refused, keeps-misfit}
use Rattle.face.proofs.Laws.Off.{trying-some, trying-none}
use Rattle.face.proofs.Laws.Steps.{store-unread, store_given, store_never, answered-length, answered-part, taken, refused_says, kept-octets, keeps-gives, keeps-short}
use Rattle.face.proofs.store.Goals as goal

pub returns-then-not-are_records : goal.returns-then-not-are_records
returns-then-not-are_records c =
    let a = c.args in
    keeps-misfit (sheet_in a.sheet.now) _ a.records.now a.answer.now _ c.misfit.ensures
    (store-unread a.sheet.now a.attempt.now a.records.now (sym c.are_records.ensures ∙ c.if-not-are_records.true))

pub returns-in_default : goal.returns-in_default
returns-in_default c =
    let a = c.args in
    keeps-misfit (sheet_in a.sheet.now) _ a.records.now a.answer.now _ c.misfit-in_default.ensures
    (store_never a.sheet.now a.attempt.now a.records.now (trying-none a.attempt.now _ c.attempt_in.ensures c.in_default.is))

-- what is said of the stream's own record
says : (s : Sheet) (a : Attempt) (octets : List ℕ) (x : Record) (r : Result Answer Refusal) (rs : List Record)
    → record_at≡ octets a.stream x → settle≡ s a x r → records_in 8 octets ≡ some rs → settle≡ s a (own rs a.stream) r
says s a octets x r rs at settled e = subst (λ (x : Record). settle≡ s a x r) (at ∙ own-known 8 octets rs a.stream e) settled

pub returns-in_err-settle_lent : goal.returns-in_err-settle_lent
returns-in_err-settle_lent c =
    let a = c.args in
    let x = c.in-Some.given in
    let are = is-some (records_in 8 a.records.now) (sym c.are_records.ensures ∙ c.if-not-are_records.false) in
    let held = trying-some a.attempt.now _ x c.attempt_in.ensures c.in-Some.is in
    let said = says (sheet_in a.sheet.now) x a.records.now _ _ are.0 c.record_at.ensures c.settle_lent.ensures are.1 in
    let bad : c.from_residual.result ≡ Err c.in_err-settle_lent.field-0.0 = search rules in
    keeps-refused _ a.records.now a.answer.now _ _ bad
    (store_given a.sheet.now a.attempt.now a.records.now are.0 are.1 _ held
    ∙ refused_says _ x are.0 c.settle_lent.result _ said c.in_err-settle_lent.was)

pub slice_bounds-put-count : goal.slice_bounds-put-count
slice_bounds-put-count c =
    omega (arith, answered-length _ c.in-Some.given (trying-some c.args.attempt.now _ _ c.attempt_in.ensures c.in-Some.is))

pub slice_bounds-put-end : goal.slice_bounds-put-end
slice_bounds-put-end c =
    omega (arith, answered-length _ c.in-Some.given (trying-some c.args.attempt.now _ _ c.attempt_in.ensures c.in-Some.is))

pub slice_bounds-put-start : goal.slice_bounds-put-start
slice_bounds-put-start c =
    omega (arith, answered-length _ c.in-Some.given (trying-some c.args.attempt.now _ _ c.attempt_in.ensures c.in-Some.is))

pub returns-in_err-put : goal.returns-in_err-put
returns-in_err-put c =
    let a = c.args in
    let x = c.in-Some.given in
    let are = is-some (records_in 8 a.records.now) (sym c.are_records.ensures ∙ c.if-not-are_records.false) in
    let held = trying-some a.attempt.now _ x c.attempt_in.ensures c.in-Some.is in
    let said = says (sheet_in a.sheet.now) x a.records.now _ _ are.0 c.record_at.ensures c.settle_lent.ensures are.1 in
    let kept = taken _ x are.0 c.settle_lent.result _ said c.in_ok-settle_lent.was in
    let bad : c.from_residual-in_err-put.result ≡ Err c.in_err-put.field-0.0 = search rules in
    let told-by : told c.from_residual-in_err-put.result ≡ told c.put.result = ap told (bad ∙ sym c.in_err-put.was) in
    let rowed = subst (λ (row : List ℕ). Rowed (gives row) a.answer.now (told c.put.result) c.put.new.out)
    (answered-part a.attempt.now x held) c.put.ensures in
    rw (told-by, store_given a.sheet.now a.attempt.now a.records.now are.0 are.1 _ held ∙ kept.says)
    (keeps-short _ a.records.now a.answer.now _ _ rowed (λ z. told-refused _ (sym (ap told c.in_err-put.was) ∙ z)))

pub returns : goal.returns
returns c =
    let a = c.args in
    let x = c.in-Some.given in
    let are = is-some (records_in 8 a.records.now) (sym c.are_records.ensures ∙ c.if-not-are_records.false) in
    let held = trying-some a.attempt.now _ x c.attempt_in.ensures c.in-Some.is in
    let said = says (sheet_in a.sheet.now) x a.records.now _ _ are.0 c.record_at.ensures c.settle_lent.ensures are.1 in
    let kept = taken _ x are.0 c.settle_lent.result _ said c.in_ok-settle_lent.was in
    let octets = c.put_at.ensures ∙ kept-octets a.records.now are.0 x.stream x.wanted are.1 kept.stream in
    let rowed = subst (λ (row : List ℕ). Rowed (gives row) a.answer.now (told c.put.result) c.put.new.out)
    (answered-part a.attempt.now x held) c.put.ensures in
    rw (store_given a.sheet.now a.attempt.now a.records.now are.0 are.1 _ held ∙ kept.says)
    (keeps-gives _ a.records.now a.answer.now _ _ _ (rw c.in_ok-put.was at rowed) refl octets)
