-- What is said of a packet that is read, and of the event that it makes: a message gives its row, and each refusal goes into a code. Assumes nothing.
use mathlib.Core.Path.{◌≡◌, refl}
use mathlib.Core.Bool.{Bool, true, false}
use mathlib.Core.List.{List}
use mathlib.Core.Option.{Option, none, some}
use Prim.Native.Nat.{ℕ, ◌<◌}
use native.Mathlib.Omega.{arith}
use lib.Dec.{eqb}
use Rattle.octets.specs.Choice.{pick, same}
use Rattle.sheet.specs.declared.Sheet.{Sheet}
use Rattle.seats.specs.declared.Senders.{Senders}
use Rattle.sheet.specs.Value.{sheet_in, valid_alone, valid_with}
use Rattle.sheet.specs.Find.{seat_of_ssrc, seat_of_user}
use Rattle.fields.specs.Header.{size_right, head_right}
use Rattle.fields.specs.Walk.{fields_of, whole}
use Rattle.kinds.specs.declared.Numbers.{Numbers}
use Rattle.packet.specs.declared.Message.{Message}
use Rattle.packet.specs.declared.Message.TheVariants.{ReceiveRequest, ReceiveResponse, EndRequest, EndResponse, TransmissionEnd, TransmissionEndResponse, Ack}
use Rattle.kinds.specs.Kind.{Kind, kind_of, numbers_of}
use Rattle.kinds.specs.Judge.{fault_of}
use Rattle.kinds.specs.Reading.{Outcome, reads, refused, slots_in, message_of, read_as, read_by, read_of}
use Rattle.packet.specs.Message.{message_said}
use Rattle.packet.specs.Meaning.{Meaning}
use Rattle.packet.specs.Row.{row_for}
use Rattle.streams.specs.declared.What.{What}
use Rattle.streams.specs.declared.What.TheVariants.{Request, End}
use Rattle.reception.specs.Steps.{Said, gives}
use Rattle.sheet.specs.Find.{user_of}
use Rattle.incoming.specs.Event.{senders_of, seated, name_in, on_stream, request_by, heard, event_from, event_of}
use Rattle.rows.specs.Rows.{event_row}
use Rattle.face.specs.Calls.{outcome_says, read_says, event_says}
use Rattle.face.proofs.Laws.Told.{Plain, plain-check, plain-given}

-- ---- a message

-- it gives its row
pub said_row : (m : Message) → outcome_says (message_said m) ≡ gives (row_for m)
said_row (ReceiveRequest h user source i) = refl
said_row (ReceiveResponse h v i) = refl
said_row (EndRequest h transmitter i) = refl
said_row (EndResponse h transmitter) = refl
said_row (TransmissionEnd h cause i) = refl
said_row (TransmissionEndResponse h) = refl
said_row (Ack h source about) = refl

-- ---- refusals

plain-outcome : (b : Bool) (number : ℕ) (o : Outcome) → number < 256 → Plain (outcome_says o) → Plain (outcome_says (pick b o (refused number 0)))
plain-outcome true number o h t = t
plain-outcome false number o h t = (h, omega arith)

plain-as : (n : Numbers) (p : List ℕ) (k : Option Kind) → Plain (outcome_says (read_as n p k))
unfolding read_as message_of
plain-as n p none = (omega arith, omega arith)
plain-as n p (some k) = plain-outcome (whole p) 4 _ (omega arith) (message (fault_of p (slots_in n p k) (fields_of p)))
  where
    message : (fault : Option ℕ) → Plain (outcome_says (message_of p k.kind (slots_in n p k) fault))
    message none = tt
    message (some at) = (omega arith, omega arith)

-- reading
pub plain-packet : (s : Sheet) (p : List ℕ) → Plain (outcome_says (read_of s p))
unfolding read_of read_by
plain-packet s p =
    plain-outcome (valid_alone s) 12 _ (omega arith)
    (plain-outcome (size_right p) 1 _ (omega arith)
    (plain-outcome (head_right p) 2 _ (omega arith) (plain-as (numbers_of s) p (kind_of (numbers_of s) p))))

plain-pick : {A : Type 0} (b : Bool) (x y : Said A) → Plain x → Plain y → Plain (pick b x y)
plain-pick true x y t u = t
plain-pick false x y t u = u

plain-seated : {A : Type 0} (number : ℕ) (seat : Option ℕ) (next : ℕ → Said A)
    → number < 256 → ((r : ℕ) → Plain (next r)) → Plain (seated number seat next)
plain-seated number none next h t = (h, omega arith)
plain-seated number (some r) next h t = t r

plain-stream : (seats : ℕ) (users : List (List ℕ)) (name : List ℕ) (w : What) → Plain (on_stream seats users name w)
unfolding on_stream
plain-stream seats users name w = plain-seated 7 (seat_of_user seats users name) _ (omega arith) (λ s. tt)

plain-heard : (q : Senders) (users : List (List ℕ)) (m : Meaning) → Plain (heard q users m)
unfolding heard request_by
plain-heard q users m =
    let seat = seat_of_ssrc q.seats q.ssrcs m.ssrc in
    plain-pick (eqb m.kind 1) _ _
    (plain-seated 6 seat _ (omega arith) (λ r.
    plain-check (same (user_of users r) (name_in 0 m.values)) 6 _ (omega arith) (plain-stream q.seats users (name_in 1 m.values) (Request r))))
    (plain-pick (eqb m.kind 3) _ _
    (plain-seated 6 seat _ (omega arith) (λ r. plain-stream q.seats users (name_in 0 m.values) (End r)))
    (plain-pick (eqb m.kind 6) _ _ (plain-seated 6 seat _ (omega arith) (λ r. tt)) (omega arith, omega arith)))

plain-from : (q : Senders) (users : List (List ℕ)) (p : List ℕ) (o : Outcome) → Plain (outcome_says o) → Plain (event_from q users p o)
unfolding event_from
plain-from q users p (reads kind ssrc ack held) t = plain-heard q users _
plain-from q users p (refused number at) t = t

-- and the event
pub plain-event : (s : Sheet) (users : List (List ℕ)) (p : List ℕ) → Plain (event_of s users p)
unfolding event_of
plain-event s users p =
    plain-check (valid_with s users) 12 _ (omega arith) (plain-from (senders_of s) users p (read_of s p) (plain-packet s p))

-- ---- what is told of it

pub plain-read : (sheet p : List ℕ) → Plain (read_says sheet p)
unfolding read_says
plain-read sheet p = plain-packet (sheet_in sheet) p

pub plain-offered : (sheet : List ℕ) (users : List (List ℕ)) (p : List ℕ) → Plain (event_says sheet users p)
unfolding event_says
plain-offered sheet users p = plain-given event_row _ (plain-event (sheet_in sheet) users p)
