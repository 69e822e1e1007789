-- `face::seen_of` meets its contract: what a read says of the records that the octets are (`of_eight`). Assumes nothing.
use mathlib.Core.Path.{◌≡◌, sym, ap, ◌∙◌}
use mathlib.Core.Bool.{true, ◌&&◌}
use mathlib.Core.List.{List}
use mathlib.Core.Option.{some}
use Prim.Native.Nat.{ℕ}
use borrow.Author.Rules.{rules}
use lib.Dec.{ltb}
use Rattle.std.specs.Prelude.{Err}
use Rattle.sheet.specs.declared.Sheet.{Sheet}
use Rattle.sheet.specs.Value.{sheet_in}
use Rattle.streams.specs.declared.Record.{Record}
use Rattle.reception.specs.Steps.{Said, seen_of, read_of, seen_said}
use Rattle.rows.specs.Promises.{record_at≡}
use Rattle.rows.specs.Rows.{is_some, record_row, records_in}
use Rattle.face.specs.Calls.{seen_says}
use Rattle.face.proofs.Laws.Reception.{read-judged, eight-own, eight-misfit, eight-gives, eight-refuses, stream-off, stream-on}
use Rattle.face.proofs.seen_of.Goals as goal

pub returns-in_err-stream : goal.returns-in_err-stream
unfolding seen_says
returns-in_err-stream c =
    let a = c.args in
    let bad : c.from_residual.result ≡ Err c.in_err-stream.field-0.0 = search rules in
    let off = stream-off _ _ _ _ (sym c.in_err-stream.was ∙ c.stream_in.ensures) in
    eight-misfit record_row a.sheet.now a.records.now (read-judged _ a.stream) off.0 a.seen.now _ (bad ∙ ap Err off.1)

-- the eight records, of which what is said is what a read says
eight : (s : Sheet) (records : List ℕ) (stream k : ℕ) (x : Record) (said : Said Record) → (is_some (records_in 8 records) && ltb stream 256) ≡ true
    → k ≡ stream → record_at≡ records k x → said ≡ seen_of s k x
    → (rs : List Record) × (records_in 8 records ≡ some rs) × (said ≡ (read_of s stream rs).said)
unfolding read_of
eight s records stream k x said right is at e =
    let own = eight-own records stream x right (rw is at at) in
    (own.0, own.1, e ∙ rw is (ap (λ (x : Record). seen_of s stream x) own.2))

pub returns-in_err-own : goal.returns-in_err-own
unfolding seen_says
returns-in_err-own c =
    let a = c.args in
    let on = stream-on _ _ _ _ (sym c.in_ok-stream.was ∙ c.stream_in.ensures) in
    let are = eight (sheet_in a.sheet.now) a.records.now a.stream _ _ _ on.0 on.1 c.record_at.ensures c.seen_lent.ensures in
    let bad : c.from_residual-in_err-own.result ≡ Err c.in_err-own.field-0.0 = search rules in
    eight-refuses record_row a.sheet.now a.records.now (read-judged _ a.stream) _ are.1 _
    (sym (ap seen_said c.in_err-own.was) ∙ are.2) a.seen.now _ bad

pub returns : goal.returns
unfolding seen_says
returns c =
    let a = c.args in
    let on = stream-on _ _ _ _ (sym c.in_ok-stream.was ∙ c.stream_in.ensures) in
    let are = eight (sheet_in a.sheet.now) a.records.now a.stream _ _ _ on.0 on.1 c.record_at.ensures c.seen_lent.ensures in
    eight-gives record_row a.sheet.now a.records.now (read-judged _ a.stream) _ are.1 _
    (sym (ap seen_said c.in_ok-own.was) ∙ are.2) a.seen.now _ _ c.put_record.ensures
