-- What each public function promises, one predicate a function, NAME≡: the equation that its answer meets, for every input.
-- Beside it, NAME-once: no second answer meets it. Assumes nothing.
use Rattle.std.specs.Prelude.{◌≡◌, refl, ℕ, Bool, List, [], ◌∷◌, Result}
use Rattle.std.proofs.Common.{sym, ap, ◌∙◌}
use Rattle.std.proofs.Math.Option.{Option, none, some}
use Rattle.octets.specs.Promises.{one_answer, one_value}
use Rattle.streams.specs.declared.Phase.{Phase}
use Rattle.streams.specs.declared.Record.{Record}
use Rattle.streams.specs.declared.What.{What}
use Rattle.streams.specs.declared.Answer.{Answer}
use Rattle.streams.specs.declared.Answer.TheVariants.{GrantedFirst, Granted, GrantedAgain, Rejected, Ended, EndedLast, Opened, EndRequested, Freed, FreedWithAck, ReleasedIdle, ReleasedWatched, ReleasedEnding, Discarded}
use Rattle.streams.specs.declared.stream.Rules.{Rules}
use Rattle.streams.specs.declared.table.Change.{Change}
use Rattle.streams.specs.Record.{on_sheet, free, count, phase_number, phase_of, legal}
use Rattle.streams.specs.Answer.{Sent, Timer, T3, T5, T6, T11, Timers, Done, granted, rejected, ended, opened, end_requested, freed, released, discarded, Reply, answer_said}
use Rattle.streams.specs.Table.{Ruling, sender_on, change_for, change_said}

-- ---- seats and records

-- the seat is on the sheet
abbrev pub is_on≡ : Rules → ℕ → Bool → Type 0
is_on≡ rules seat r = r ≡ on_sheet rules seat

pub is_on-once : (rules : Rules) (seat : ℕ) (x y : Bool) → is_on≡ rules seat x → is_on≡ rules seat y → x ≡ y
is_on-once rules seat x y p q = one_value x y p q

-- the one record of Free
abbrev pub free≡ : Record → Type 0
free≡ r = r ≡ free

pub free-once : (x y : Record) → free≡ x → free≡ y → x ≡ y
free-once x y p q = one_value x y p q

-- how many seats are watching
abbrev pub count_of≡ : Record → ℕ → Type 0
count_of≡ own r = r ≡ count own

pub count_of-once : (own : Record) (x y : ℕ) → count_of≡ own x → count_of≡ own y → x ≡ y
count_of-once own x y p q = one_value x y p q

-- the number of a phase
abbrev pub number_of≡ : Phase → ℕ → Type 0
number_of≡ phase r = r ≡ phase_number phase

pub number_of-once : (phase : Phase) (x y : ℕ) → number_of≡ phase x → number_of≡ phase y → x ≡ y
number_of-once phase x y p q = one_value x y p q

-- the phase of a number, or that it is none's
abbrev pub phase_of≡ : ℕ → Result Phase Unit → Type 0
phase_of≡ number r = r ≡ phase_of number

pub phase_of-once : (number : ℕ) (x y : Result Phase Unit) → phase_of≡ number x → phase_of≡ number y → x ≡ y
phase_of-once number x y p q = one_value x y p q

-- the record is legal for the stream
abbrev pub is_legal≡ : Rules → ℕ → Record → Bool → Type 0
is_legal≡ rules stream own r = r ≡ legal rules stream own

pub is_legal-once : (rules : Rules) (stream : ℕ) (own : Record) (x y : Bool) → is_legal≡ rules stream own x → is_legal≡ rules stream own y → x ≡ y
is_legal-once rules stream own x y p q = one_value x y p q

-- ---- answers that say the same are the same: from what is said the answer is got back

-- the cause of a message, 0 where it has none
abbrev cause_in : Option Sent → ℕ
cause_in none = 0
cause_in (some m) = cause_or m.cause
  where
    cause_or : Option ℕ → ℕ
    cause_or none = 0
    cause_or (some c) = c

abbrev grant_back : List Timer → Answer
grant_back [] = GrantedAgain
grant_back (t ∷ []) = Granted
grant_back (t ∷ u ∷ ts) = GrantedFirst

abbrev end_back : List Timer → Answer
end_back [] = Ended
end_back (t ∷ ts) = EndedLast

abbrev freed_back : Option Sent → Answer
freed_back none = Freed
freed_back (some m) = FreedWithAck

abbrev released_back : List Timer → Answer
released_back [] = ReleasedWatched
released_back (T3 ∷ ts) = ReleasedEnding
released_back (T5 ∷ ts) = ReleasedWatched
released_back (T6 ∷ ts) = ReleasedWatched
released_back (T11 ∷ ts) = ReleasedIdle

abbrev back_from : Done → Option Sent → Timers → Answer
back_from granted m t = grant_back t.stops
back_from rejected m t = Rejected (cause_in m)
back_from ended m t = end_back t.starts
back_from opened m t = Opened
back_from end_requested m t = EndRequested (cause_in m)
back_from freed m t = freed_back m
back_from released m t = released_back t.stops
back_from discarded m t = Discarded

abbrev pub answer_back : Reply → Answer
answer_back r = back_from r.done r.sends r.timers

pub answer_back_lem : (a : Answer) → answer_back (answer_said a) ≡ a
answer_back_lem GrantedFirst = refl
answer_back_lem Granted = refl
answer_back_lem GrantedAgain = refl
answer_back_lem (Rejected c) = refl
answer_back_lem Ended = refl
answer_back_lem EndedLast = refl
answer_back_lem Opened = refl
answer_back_lem (EndRequested c) = refl
answer_back_lem Freed = refl
answer_back_lem FreedWithAck = refl
answer_back_lem ReleasedIdle = refl
answer_back_lem ReleasedWatched = refl
answer_back_lem ReleasedEnding = refl
answer_back_lem Discarded = refl

pub answer_apart : (x y : Answer) → answer_said x ≡ answer_said y → x ≡ y
answer_apart x y e = sym (answer_back_lem x) ∙ ap answer_back e ∙ answer_back_lem y

abbrev change_back : Ruling → Change
change_back m = record { becomes = m.becomes; answer = answer_back m.reply }

change_back_lem : (x : Change) → change_back (change_said x) ≡ x
change_back_lem x = rw (answer_back_lem x.answer)

pub change_apart : (x y : Change) → change_said x ≡ change_said y → x ≡ y
change_apart x y e = sym (change_back_lem x) ∙ ap change_back e ∙ change_back_lem y

-- ---- the event table

-- the seat that the event comes from, if it names one, is on the sheet
abbrev pub is_sender_on≡ : Rules → What → Bool → Type 0
is_sender_on≡ rules what r = r ≡ sender_on rules what

pub is_sender_on-once : (rules : Rules) (what : What) (x y : Bool) → is_sender_on≡ rules what x → is_sender_on≡ rules what y → x ≡ y
is_sender_on-once rules what x y p q = one_value x y p q

-- what becomes of the record, and the answer
abbrev pub change_of≡ : Rules → ℕ → Record → What → Change → Type 0
change_of≡ rules stream own what r = change_said r ≡ change_for rules stream own what

pub change_of-once : (rules : Rules) (stream : ℕ) (own : Record) (what : What) (x y : Change)
    → change_of≡ rules stream own what x → change_of≡ rules stream own what y → x ≡ y
change_of-once rules stream own what x y p q = one_answer change_said change_apart x y p q
