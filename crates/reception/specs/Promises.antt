-- What each public function promises, one predicate a function, NAME≡: the equation that its answer and the eight records afterwards
-- meet, for every input. Beside it, NAME-once: no second answer meets it. Assumes nothing.
use Rattle.std.specs.Prelude.{◌≡◌, refl, ℕ, List, [], Result, Ok, Err}
use Rattle.std.proofs.Common.{sym, ap, ◌∙◌}
use Rattle.octets.specs.Promises.{one_answer, one_value}
use Rattle.sheet.specs.declared.Sheet.{Sheet}
use Rattle.sheet.specs.declared.Refusal.{Refusal}
use Rattle.sheet.specs.Refusal.{refusal_by, refusal_back}
use Rattle.streams.specs.declared.Record.{Record}
use Rattle.streams.specs.declared.Event.{Event}
use Rattle.streams.specs.declared.Answer.{Answer}
use Rattle.streams.specs.Record.{all_free}
use Rattle.streams.specs.Answer.{Reply, answer_said}
use Rattle.streams.specs.Promises.{answer_back, answer_back_lem}
use Rattle.reception.specs.declared.Attempt.{Attempt}
use Rattle.reception.specs.declared.Stored.{Stored}
use Rattle.reception.specs.Steps.{Said, gives, refuses, Left, leaving, Try, seen_of, read_of, work_of, reply_of, store_of, counted, count_of, said_by, seen_said, attempt_said, worked_said, taking_said, stored_said, counted_said}

-- ---- answers that say the same are the same: from what is said the answer is got back

-- from what was asked for or a refusal
abbrev pub back : {A B : Type 0} → (B → A) → Said B → Result A Refusal
back f (gives x) = Ok (f x)
back f (refuses number at) = Err (refusal_by number at)

pub back_lem : {A B : Type 0} (f : A → B) (g : B → A) → ((x : A) → g (f x) ≡ x) → (r : Result A Refusal) → back g (said_by f r) ≡ r
back_lem f g e (Ok x) = rw (e x)
back_lem f g e (Err r) = rw (refusal_back r)

pub said_apart : {A B : Type 0} (f : A → B) (g : B → A) → ((x : A) → g (f x) ≡ x) → (x y : Result A Refusal) → said_by f x ≡ said_by f y → x ≡ y
said_apart f g e x y h = sym (back_lem f g e x) ∙ ap (back g) h ∙ back_lem f g e y

pub seen_apart : (x y : Result Record Refusal) → seen_said x ≡ seen_said y → x ≡ y
seen_apart = said_apart (λ (x : Record). x) (λ (x : Record). x) (λ (x : Record). refl)

abbrev attempt_back : Try → Attempt
attempt_back a = record { stream = a.stream; seen = a.seen; wanted = a.wanted; answer = answer_back a.reply }

pub worked_apart : (x y : Result Attempt Refusal) → worked_said x ≡ worked_said y → x ≡ y
worked_apart = said_apart attempt_said attempt_back (λ (a : Attempt). rw (answer_back_lem a.answer))

pub taking_apart : (x y : Result Answer Refusal) → taking_said x ≡ taking_said y → x ≡ y
taking_apart = said_apart answer_said answer_back answer_back_lem

abbrev stored_back : Left Reply → Stored
stored_back l = record { records = l.records; taking = back answer_back l.said }

stored_back_lem : (x : Stored) → stored_back (stored_said x) ≡ x
stored_back_lem x = rw (back_lem answer_said answer_back answer_back_lem x.taking)

pub stored_apart : (x y : Stored) → stored_said x ≡ stored_said y → x ≡ y
stored_apart x y e = sym (stored_back_lem x) ∙ ap stored_back e ∙ stored_back_lem y

pub counted_apart : (x y : Result ℕ Refusal) → counted_said x ≡ counted_said y → x ≡ y
counted_apart = said_apart (λ (n : ℕ). n) (λ (n : ℕ). n) (λ (n : ℕ). refl)

-- two answers that a definition gives beside the eight records are one
one_left : {A B : Type 0} (said : A → Said B) → ((x y : A) → said x ≡ said y → x ≡ y)
    → {rs : List Record} {b : Left B} (x y : A) → leaving rs (said x) ≡ b → leaving rs (said y) ≡ b → x ≡ y
one_left said apart x y p q = one_answer said apart x y (ap (λ l. l.said) p) (ap (λ l. l.said) q)

-- ---- the steps, where the stream's own record is at hand

-- the record, or a refusal
abbrev pub seen≡ : Sheet → Record → ℕ → Result Record Refusal → Type 0
seen≡ sheet own stream r = seen_said r ≡ seen_of sheet stream own

pub seen-once : (sheet : Sheet) (own : Record) (stream : ℕ) (x y : Result Record Refusal) → seen≡ sheet own stream x → seen≡ sheet own stream y → x ≡ y
seen-once sheet own stream x y p q = one_answer seen_said seen_apart x y p q

-- the answer of a store that takes, or a refusal
abbrev pub settle≡ : Sheet → Attempt → Record → Result Answer Refusal → Type 0
settle≡ sheet a own r = taking_said r ≡ reply_of sheet (attempt_said a) own

pub settle-once : (sheet : Sheet) (a : Attempt) (own : Record) (x y : Result Answer Refusal) → settle≡ sheet a own x → settle≡ sheet a own y → x ≡ y
settle-once sheet a own x y p q = one_answer taking_said taking_apart x y p q

-- the count, or a refusal
abbrev pub counted≡ : Sheet → Record → ℕ → Result ℕ Refusal → Type 0
counted≡ sheet own stream r = counted_said r ≡ counted (seen_of sheet stream own)

pub counted-once : (sheet : Sheet) (own : Record) (stream : ℕ) (x y : Result ℕ Refusal) → counted≡ sheet own stream x → counted≡ sheet own stream y → x ≡ y
counted-once sheet own stream x y p q = one_answer counted_said counted_apart x y p q

-- ---- the steps

-- the record of a stream, or a refusal; the eight records are what they were
abbrev pub read≡ : Sheet → List Record → ℕ → Result Record Refusal → Type 0
read≡ sheet rs stream r = leaving rs (seen_said r) ≡ read_of sheet stream rs

pub read-once : (sheet : Sheet) (rs : List Record) (stream : ℕ) (x y : Result Record Refusal) → read≡ sheet rs stream x → read≡ sheet rs stream y → x ≡ y
read-once sheet rs stream x y p q = one_left seen_said seen_apart x y p q

-- the attempt, or a refusal; the eight records, which it is not handed, are what they were
abbrev pub work_out≡ : Sheet → Record → Event → Result Attempt Refusal → Type 0
work_out≡ sheet seen e r = (rs : List Record) → leaving rs (worked_said r) ≡ work_of sheet seen e rs

pub work_out-once : (sheet : Sheet) (seen : Record) (e : Event) (x y : Result Attempt Refusal) → work_out≡ sheet seen e x → work_out≡ sheet seen e y → x ≡ y
work_out-once sheet seen e x y p q = one_left worked_said worked_apart x y (p []) (q [])

-- the eight records afterwards, and the answer of a store that took, or a refusal
abbrev pub store≡ : Sheet → Attempt → List Record → Stored → Type 0
store≡ sheet a rs r = stored_said r ≡ store_of sheet (attempt_said a) rs

pub store-once : (sheet : Sheet) (a : Attempt) (rs : List Record) (x y : Stored) → store≡ sheet a rs x → store≡ sheet a rs y → x ≡ y
store-once sheet a rs x y p q = one_answer stored_said stored_apart x y p q

-- the count, or a refusal; the eight records are what they were
abbrev pub count≡ : Sheet → List Record → ℕ → Result ℕ Refusal → Type 0
count≡ sheet rs stream r = leaving rs (counted_said r) ≡ count_of sheet stream rs

pub count-once : (sheet : Sheet) (rs : List Record) (stream : ℕ) (x y : Result ℕ Refusal) → count≡ sheet rs stream x → count≡ sheet rs stream y → x ≡ y
count-once sheet rs stream x y p q = one_left counted_said counted_apart x y p q

-- ---- where a controller starts

-- all streams free
abbrev pub all_free≡ : List Record → Type 0
all_free≡ r = r ≡ all_free

pub all_free-once : (x y : List Record) → all_free≡ x → all_free≡ y → x ≡ y
all_free-once x y p q = one_value x y p q
