-- What each public function promises, one predicate a function, NAME≡: the equation that its answer, and a slice that it is lent to change, meet for every
-- input. Beside it, NAME-once: no second answer and no second slice meet it. Assumes nothing.
use Rattle.std.specs.Prelude.{◌≡◌, refl, ℕ, ◌*◌, ◌<◌, Bool, List, [], ◌∷◌, length, leb, Option as Given, Some, None, Result, Ok, Err}
use Rattle.std.proofs.Common.{sym, ap, ap₂, ◌∙◌, arith}
use Rattle.std.proofs.Math.Option.{some}
use Rattle.octets.specs.Buffer.{put_at}
use Rattle.octets.specs.Promises.{one_answer, one_value}
use Rattle.sheet.specs.declared.Refusal.{Refusal}
use Rattle.sheet.specs.declared.Refusal.TheVariants.{Size, Header, Kind, Layout, Fields, Sender, Transmitter, NoEvent, NotLegal, Stale, NoRoom, Sheet}
use Rattle.sheet.specs.Refusal.{refusal_number, refusal_line, refusal_by, refusal_back}
use Rattle.streams.specs.declared.Record.{Record}
use Rattle.streams.specs.declared.Event.{Event}
use Rattle.streams.specs.declared.Answer.{Answer}
use Rattle.streams.specs.Record.{own}
use Rattle.reception.specs.declared.Attempt.{Attempt}
use Rattle.reception.specs.Steps.{Said, gives, attempt_said}
use Rattle.reception.specs.Promises.{worked_apart}
use Rattle.rows.specs.Rows.{is_some, record_row, records_in, records_by, event_row, answer_row, answer_in, try_row}
use Rattle.rows.specs.Lent.{code, Returned, told, put, roomy}
use Rattle.rows.specs.Held.{given, recording_said, event_held, try_held, trying_said}

-- ---- a row put into a slice

-- the row into the front of `out`, or the refusal
abbrev pub Rowed : Said (List ℕ) → List ℕ → ℕ → List ℕ → Type 0
Rowed said out r now =
    let w = roomy (λ (row : List ℕ). leb (length row) (length out)) said in
    (r ≡ code w) × (now ≡ put (λ (row : List ℕ). row) w out)

pub rowed-once : (said : Said (List ℕ)) (out : List ℕ) (x y : ℕ) (now other : List ℕ)
    → Rowed said out x now → Rowed said out y other → (x ≡ y) × (now ≡ other)
rowed-once said out x y now other e f = (one_value x y e.0 f.0, one_value now other e.1 f.1)

-- a refusal's number is at least 1 and less than 256 ..
refusal-range : (r : Refusal) → (0 < refusal_number r) × (refusal_number r < 256)
refusal-range Size = (omega arith, omega arith)
refusal-range Header = (omega arith, omega arith)
refusal-range Kind = (omega arith, omega arith)
refusal-range Layout = (omega arith, omega arith)
refusal-range Fields = (omega arith, omega arith)
refusal-range Sender = (omega arith, omega arith)
refusal-range Transmitter = (omega arith, omega arith)
refusal-range NoEvent = (omega arith, omega arith)
refusal-range NotLegal = (omega arith, omega arith)
refusal-range Stale = (omega arith, omega arith)
refusal-range NoRoom = (omega arith, omega arith)
refusal-range (Sheet line) = (omega arith, omega arith)

-- .. so that no two results are told by one number
pub told_apart : (x y : Returned) → told x ≡ told y → x ≡ y
told_apart (Ok x) (Ok y) e = refl
told_apart (Ok x) (Err r) e = absurd (omega (arith, refusal-range r))
told_apart (Err r) (Ok x) e = absurd (omega (arith, refusal-range r))
told_apart (Err r) (Err s) e =
    let number : refusal_number r ≡ refusal_number s = omega (arith, refusal-range r, refusal-range s) in
    let line : refusal_line r ≡ refusal_line s = omega (arith, refusal-range r, refusal-range s) in
    ap (λ (r : Refusal). Err r) (sym (refusal_back r) ∙ ap₂ refusal_by number line ∙ refusal_back s)

-- the same of the code's result
abbrev pub Put : Said (List ℕ) → List ℕ → Returned → List ℕ → Type 0
Put said out r now = Rowed said out (told r) now

pub put-apart : (said : Said (List ℕ)) (out : List ℕ) (x y : Returned) (now other : List ℕ)
    → Put said out x now → Put said out y other → (x ≡ y) × (now ≡ other)
put-apart said out x y now other e f = (one_answer told told_apart x y e.0 f.0, one_value now other e.1 f.1)

-- any row
abbrev pub put≡ : List ℕ → List ℕ → Returned → List ℕ → Type 0
put≡ out row r now = Put (gives row) out r now

pub put-once : (out row : List ℕ) (x y : Returned) (now other : List ℕ)
    → put≡ out row x now → put≡ out row y other → (x ≡ y) × (now ≡ other)
put-once out row = put-apart (gives row) out

-- a number
abbrev pub put_number≡ : List ℕ → ℕ → Returned → List ℕ → Type 0
put_number≡ out n r now = Put (gives (n ∷ [])) out r now

pub put_number-once : (out : List ℕ) (n : ℕ) (x y : Returned) (now other : List ℕ)
    → put_number≡ out n x now → put_number≡ out n y other → (x ≡ y) × (now ≡ other)
put_number-once out n = put-apart (gives (n ∷ [])) out

-- an event
abbrev pub put_event≡ : List ℕ → Event → Returned → List ℕ → Type 0
put_event≡ out event r now = Put (gives (event_row event)) out r now

pub put_event-once : (out : List ℕ) (event : Event) (x y : Returned) (now other : List ℕ)
    → put_event≡ out event x now → put_event≡ out event y other → (x ≡ y) × (now ≡ other)
put_event-once out event = put-apart (gives (event_row event)) out

-- an answer's row by itself, which stands for it
abbrev pub row_of≡ : Answer → List ℕ → Type 0
row_of≡ answer r = (r ≡ answer_row answer) × (answer_in r ≡ some answer)

pub row_of-once : (answer : Answer) (x y : List ℕ) → row_of≡ answer x → row_of≡ answer y → x ≡ y
row_of-once answer x y e f = one_value x y e.0 f.0

-- an attempt
abbrev pub put_attempt≡ : List ℕ → Attempt → Returned → List ℕ → Type 0
put_attempt≡ out attempt r now = Put (gives (try_row (attempt_said attempt))) out r now

pub put_attempt-once : (out : List ℕ) (attempt : Attempt) (x y : Returned) (now other : List ℕ)
    → put_attempt≡ out attempt x now → put_attempt≡ out attempt y other → (x ≡ y) × (now ≡ other)
put_attempt-once out attempt = put-apart (gives (try_row (attempt_said attempt))) out

-- a record
abbrev pub put_record≡ : List ℕ → Record → Returned → List ℕ → Type 0
put_record≡ out own r now = Put (gives (record_row own)) out r now

pub put_record-once : (out : List ℕ) (own : Record) (x y : Returned) (now other : List ℕ)
    → put_record≡ out own x now → put_record≡ out own y other → (x ≡ y) × (now ≡ other)
put_record-once out own = put-apart (gives (record_row own)) out

-- a record in a stream's place, whole or, where the octets end before it, not at all
abbrev pub put_at≡ : List ℕ → ℕ → Record → List ℕ → Type 0
put_at≡ octets stream own now = now ≡ put_at octets (2 * stream) (record_row own)

pub put_at-once : (octets : List ℕ) (stream : ℕ) (own : Record) (x y : List ℕ) → put_at≡ octets stream own x → put_at≡ octets stream own y → x ≡ y
put_at-once octets stream own x y e f = one_value x y e f

-- ---- the value that a row stands for

-- an event
abbrev pub event_in≡ : List ℕ → Given Event → Type 0
event_in≡ row r = r ≡ given (event_held row)

pub event_in-once : (row : List ℕ) (x y : Given Event) → event_in≡ row x → event_in≡ row y → x ≡ y
event_in-once row x y e f = one_value x y e f

-- an answer
abbrev pub answer_in≡ : List ℕ → Given Answer → Type 0
answer_in≡ row r = r ≡ given (answer_in row)

pub answer_in-once : (row : List ℕ) (x y : Given Answer) → answer_in≡ row x → answer_in≡ row y → x ≡ y
answer_in-once row x y e f = one_value x y e f

-- whether there is one
abbrev pub is_answer≡ : List ℕ → Bool → Type 0
is_answer≡ row r = r ≡ is_some (answer_in row)

pub is_answer-once : (row : List ℕ) (x y : Bool) → is_answer≡ row x → is_answer≡ row y → x ≡ y
is_answer-once row x y e f = one_value x y e f

-- an attempt, told by what working out tells of it
attempt_apart : (x y : Attempt) → attempt_said x ≡ attempt_said y → x ≡ y
attempt_apart x y e = inside (worked_apart (Ok x) (Ok y) (ap gives e))
  where
    inside : ◌≡◌ {A = Result Attempt Refusal} (Ok x) (Ok y) → x ≡ y
    inside p = cc

trying_apart : (x y : Given Attempt) → trying_said x ≡ trying_said y → x ≡ y
trying_apart (Some a) (Some b) e = ap (λ (a : Attempt). Some a) (attempt_apart a b cc)
trying_apart (Some a) None e = cc
trying_apart None (Some b) e = cc
trying_apart None None e = refl

abbrev pub attempt_in≡ : List ℕ → Given Attempt → Type 0
attempt_in≡ row r = trying_said r ≡ try_held row

pub attempt_in-once : (row : List ℕ) (x y : Given Attempt) → attempt_in≡ row x → attempt_in≡ row y → x ≡ y
attempt_in-once row x y e f = one_answer trying_said trying_apart x y e f

-- a record
recording_apart : (x y : Given Record) → recording_said x ≡ recording_said y → x ≡ y
recording_apart (Some x) (Some y) e = cc
recording_apart (Some x) None e = cc
recording_apart None (Some y) e = cc
recording_apart None None e = refl

abbrev pub record_in≡ : List ℕ → Given Record → Type 0
record_in≡ octets r = recording_said r ≡ records_in 1 octets

pub record_in-once : (octets : List ℕ) (x y : Given Record) → record_in≡ octets x → record_in≡ octets y → x ≡ y
record_in-once octets x y e f = one_answer recording_said recording_apart x y e f

-- whether there are eight records, and that of a stream
abbrev pub are_records≡ : List ℕ → Bool → Type 0
are_records≡ octets r = r ≡ is_some (records_in 8 octets)

pub are_records-once : (octets : List ℕ) (x y : Bool) → are_records≡ octets x → are_records≡ octets y → x ≡ y
are_records-once octets x y e f = one_value x y e f

abbrev pub record_at≡ : List ℕ → ℕ → Record → Type 0
record_at≡ octets stream r = r ≡ own (records_by octets) stream

pub record_at-once : (octets : List ℕ) (stream : ℕ) (x y : Record) → record_at≡ octets stream x → record_at≡ octets stream y → x ≡ y
record_at-once octets stream x y e f = one_value x y e f
