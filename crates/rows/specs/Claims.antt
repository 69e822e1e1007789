-- What is claimed of rows beyond the functions: a row stands for a value exactly if it is that value's row. Each has its proof under proofs/. Assumes nothing.
use Rattle.std.specs.Prelude.{◌≡◌, ◌↔◌, ℕ, ◌<◌, List, length}
use Rattle.std.proofs.Math.Option.{Option, none, some}
use Rattle.streams.specs.declared.Record.{Record}
use Rattle.streams.specs.declared.Event.{Event}
use Rattle.streams.specs.declared.Answer.{Answer}
use Rattle.streams.specs.Answer.{Sent, message_of, answer_said}
use Rattle.reception.specs.Steps.{Try}
use Rattle.rows.specs.Rows.{records_row, records_in, event_row, event_in, answer_row, answer_in, try_row, try_in}

-- of so many records
abbrev pub RecordsStand : Type 0
RecordsStand = (n : ℕ) (octets : List ℕ) (rs : List Record) → (records_in n octets ≡ some rs) ↔ ((length rs ≡ n) × (records_row rs ≡ octets))

abbrev pub EventsStand : Type 0
EventsStand = (row : List ℕ) (e : Event) → (event_in row ≡ some e) ↔ (event_row e ≡ row)

-- a cause, where the answer's message has one, is of 16 bits
abbrev pub cause_narrow : Option ℕ → Type 0
cause_narrow none = Unit {0}
cause_narrow (some c) = c < 65536

abbrev pub Narrow : Option Sent → Type 0
Narrow none = Unit {0}
Narrow (some m) = cause_narrow m.cause

abbrev pub AnswersStand : Type 0
AnswersStand = (row : List ℕ) (a : Answer) → (answer_in row ≡ some a) ↔ (Narrow (message_of a) × (answer_row a ≡ row))

-- an attempt with such an answer
abbrev pub AttemptsStand : Type 0
AttemptsStand = (row : List ℕ) (t : Try) → (try_in row ≡ some t) ↔ (((a : Answer) × Narrow (message_of a) × (t.reply ≡ answer_said a)) × (try_row t ≡ row))
