-- The three steps (document 01, "Three steps", and "Refusals": 12 line 0, 9, 10, in that order). Each is handed the eight records and says
-- what it leaves of them. Assumes nothing.
use Rattle.std.specs.Prelude.{ℕ, Bool, ◌&&◌, List, set, Result, Ok, Err}
use Rattle.octets.specs.Choice.{pick}
use Rattle.sheet.specs.declared.Sheet.{Sheet}
use Rattle.sheet.specs.declared.Refusal.{Refusal}
use Rattle.sheet.specs.Refusal.{refusal_number, refusal_line}
use Rattle.sheet.specs.Value.{valid_alone}
use Rattle.streams.specs.declared.Record.{Record}
use Rattle.streams.specs.declared.Event.{Event}
use Rattle.streams.specs.declared.stream.Rules.{Rules}
use Rattle.streams.specs.Record.{rules_of, on_sheet, own, count, same_record, legal}
use Rattle.streams.specs.declared.Answer.{Answer}
use Rattle.streams.specs.Answer.{Reply, answer_said}
use Rattle.streams.specs.Table.{rule_for, sender_on}
use Rattle.reception.specs.declared.Attempt.{Attempt}
use Rattle.reception.specs.declared.Stored.{Stored}

-- ---- what a step says and leaves

-- what was asked for, or a refusal's number and place
pub data Said (A : Type 0) : Type 0 where
  gives : A → Said A
  refuses : ℕ → ℕ → Said A

-- the eight records afterwards, and what is said
pub record Left (A : Type 0) : Type 0 where
  pub records : List Record
  pub said : Said A

abbrev pub leaving : {A : Type 0} → List Record → Said A → Left A
leaving rs a = record { records = rs; said = a }

-- a refusal "returns its number only"
abbrev pub check : {A : Type 0} → Bool → ℕ → Said A → Said A
check right number next = pick right next (refuses number 0)

-- an attempt: "stream, record seen, record wanted, answer"
pub record Try : Type 0 where
  pub stream : ℕ
  pub seen : Record
  pub wanted : Record
  pub reply : Reply

-- ---- "Read gives one record and changes nothing"

-- 9: "seat not on the sheet, record not legal"
unfoldable pub seen_of : Sheet → ℕ → Record → Said Record
seen_of s stream x =
    let q = rules_of s in
    check (valid_alone s) 12 (check (on_sheet q stream && legal q stream x) 9 (gives x))

unfoldable pub read_of : Sheet → ℕ → List Record → Left Record
read_of s stream rs = leaving rs (seen_of s stream (own rs stream))

-- ---- "Work out takes a record, an event and the sheet and gives an attempt"

-- the record wanted and the answer are the table's
abbrev pub try_of : Rules → Record → Event → Try
try_of q x e =
    let rule = rule_for q e.stream x e.what in
    record { stream = e.stream; seen = x; wanted = rule.becomes; reply = rule.reply }

-- 9 also for a sender who is not on the sheet
unfoldable pub attempt_of : Sheet → Record → Event → Said Try
attempt_of s x e =
    let q = rules_of s in
    check (valid_alone s) 12
    (check (on_sheet q e.stream && (sender_on q e.what && legal q e.stream x)) 9 (gives (try_of q x e)))

unfoldable pub work_of : Sheet → Record → Event → List Record → Left Try
work_of s x e rs = leaving rs (attempt_of s x e)

-- ---- "Store takes if the record still equals the one seen, and then holds the one wanted; otherwise it is stale. No other record changes"

-- 9 for "the stream's own, seen or wanted"; 10: "stale"
unfoldable pub reply_of : Sheet → Try → Record → Said Reply
reply_of s a x =
    let q = rules_of s in
    let good = legal q a.stream in
    check (valid_alone s) 12
    (check (on_sheet q a.stream && (good x && (good a.seen && good a.wanted))) 9
    (check (same_record x a.seen) 10 (gives a.reply)))

-- the eight records after it
unfoldable pub stored : Try → List Record → Said Reply → List Record
stored a rs (gives reply) = set rs a.stream a.wanted
stored a rs (refuses number at) = rs

unfoldable pub store_of : Sheet → Try → List Record → Left Reply
store_of s a rs =
    let said = reply_of s a (own rs a.stream) in
    leaving (stored a rs said) said

-- ---- the count of a stream, C11, with the checks of a read

unfoldable pub counted : Said Record → Said ℕ
counted (gives x) = gives (count x)
counted (refuses number at) = refuses number at

unfoldable pub count_of : Sheet → ℕ → List Record → Left ℕ
count_of s stream rs = leaving rs (counted (seen_of s stream (own rs stream)))

-- ---- the answers of the code set out

-- what was asked for, set out by `f`, or the refusal
abbrev pub said_by : {A B : Type 0} → (A → B) → Result A Refusal → Said B
said_by f (Ok x) = gives (f x)
said_by f (Err r) = refuses (refusal_number r) (refusal_line r)

abbrev pub seen_said : Result Record Refusal → Said Record
seen_said r = said_by (λ (x : Record). x) r

abbrev pub attempt_said : Attempt → Try
attempt_said a = record { stream = a.stream; seen = a.seen; wanted = a.wanted; reply = answer_said a.answer }

abbrev pub worked_said : Result Attempt Refusal → Said Try
worked_said r = said_by attempt_said r

abbrev pub taking_said : Result Answer Refusal → Said Reply
taking_said r = said_by answer_said r

abbrev pub stored_said : Stored → Left Reply
stored_said r = leaving r.records (taking_said r.taking)

abbrev pub counted_said : Result ℕ Refusal → Said ℕ
counted_said r = said_by (λ (n : ℕ). n) r
