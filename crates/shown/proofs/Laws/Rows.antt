-- Laws of a message's row: it shows the ten values of the message. Assumes nothing.
use mathlib.Core.Path.{◌≡◌, refl, ap, ◌∙◌}
use mathlib.Core.Bool.{Bool, true, false}
use Prim.Native.Nat.{ℕ, zero, suc, ◌+◌}
use native.Mathlib.Omega.{arith}
use mathlib.Core.List.{List, [], ◌∷◌}
use lib.ListN.{length, get_or, take, drop, drop_of_length-le}
use lib.Seq.{drop-cons}
use lib.Dec.{T, eqb}
use Rattle.std.specs.Prelude.{None, Some}
use Rattle.octets.specs.Choice.{same}
use Rattle.octets.proofs.Choice.{pick-cases}
use Rattle.packet.specs.declared.Verdict.TheVariants.{Granted, Rejected}
use Rattle.packet.specs.declared.Message.{Message}
use Rattle.packet.specs.declared.Message.TheVariants.{ReceiveRequest, ReceiveResponse, EndRequest, EndResponse, TransmissionEnd, TransmissionEndResponse, Ack}
use Rattle.kinds.specs.Judge.{Held, absent, given}
use Rattle.kinds.specs.Reading.{Outcome, reads, refused}
use Rattle.packet.specs.Message.{message_said}
use Rattle.packet.specs.Row.{columns, with_held, with_all, message_row, row_for, held_in, numbers_say, message_in}
use Rattle.packet.specs.Promises.{row_of≡}
use Rattle.shown.specs.Line.{ten_of, names_of, under}
use Rattle.shown.specs.Inner.{ten_said, number_held, name_held, names_one, row_ten}

-- ---- what a message's row says

-- whether it is no refusal
abbrev is_read : Outcome → Bool
is_read (reads kind ssrc ack values) = true
is_read (refused number at) = false

message-read : (m : Message) → T (is_read (message_said m))
message-read (ReceiveRequest h user source i) = tt
message-read (ReceiveResponse h v i) = tt
message-read (EndRequest h transmitter i) = tt
message-read (EndResponse h transmitter) = tt
message-read (TransmissionEnd h cause i) = tt
message-read (TransmissionEndResponse h) = tt
message-read (Ack h source about) = tt

-- its numbers say the message
pub numbers_say_lem : (row : List ℕ) (m : Message) → message_in row ≡ message_said m → numbers_say row ≡ message_said m
unfolding message_in
numbers_say_lem row m =
    pick-cases (λ (o : Outcome). o ≡ message_said m → numbers_say row ≡ message_said m) (same (message_row (numbers_say row)) row)
    (numbers_say row) (refused 5 0)
    (λ _ e. e)
    (λ _ e. absurd (rw (← e) at (message-read m)))

-- ---- what it shows

-- the k-th of the values read
abbrev value_of : Outcome → ℕ → Held
value_of (reads kind ssrc ack values) k = get_or values k absent
value_of (refused number at) k = absent

value-alike : {o p : Outcome} → o ≡ p → (k : ℕ) → value_of o k ≡ value_of p k
value-alike e k = ap (λ (x : Outcome). value_of x k) e

shows : (m : Message) → numbers_say (row_for m) ≡ message_said m → row_ten (row_for m) ≡ ten_said (message_said m)
unfolding row_ten ten_said ten_of names_of under message_row columns with_all with_held numbers_say held_in
shows (ReceiveRequest h user source None) e = refl
shows (ReceiveRequest h user source (Some n)) e = let i : number_held n ≡ given n = value-alike e 2 in rw i
shows (ReceiveResponse h Granted None) e = refl
shows (ReceiveResponse h Granted (Some n)) e = let i : number_held n ≡ given n = value-alike e 2 in rw i
shows (ReceiveResponse h (Rejected cause) None) e = let c : number_held cause ≡ given cause = value-alike e 1 in rw c
shows (ReceiveResponse h (Rejected cause) (Some n)) e =
    let c : number_held cause ≡ given cause = value-alike e 1 in
    let i : number_held n ≡ given n = value-alike e 2 in
    rw (c, i)
shows (EndRequest h transmitter None) e = refl
shows (EndRequest h transmitter (Some n)) e = let i : number_held n ≡ given n = value-alike e 1 in rw i
shows (EndResponse h transmitter) e = refl
shows (TransmissionEnd h cause None) e = let c : number_held cause ≡ given cause = value-alike e 0 in rw c
shows (TransmissionEnd h cause (Some n)) e =
    let c : number_held cause ≡ given cause = value-alike e 0 in
    let i : number_held n ≡ given n = value-alike e 1 in
    rw (c, i)
shows (TransmissionEndResponse h) e = refl
shows (Ack h source about) e =
    let s : number_held source ≡ given source = value-alike e 0 in
    let a : number_held about ≡ given about = value-alike e 1 in
    rw (s, a)

pub row-ten : (m : Message) (row : List ℕ) → row_of≡ m row → row_ten row ≡ ten_said (message_said m)
row-ten m row e = rw e.0 (shows m (rw e.0 at (numbers_say_lem row m e.1)))

-- ---- the ten one by one

module _ (row : List ℕ) where
  -- n elements from the k-th on
  abbrev from : ℕ → ℕ → List ℕ
  from k zero = []
  from k (suc n) = get_or row k 0 ∷ from (suc k) n

  -- they are all that stand there
  from-all : (n k : ℕ) → length row ≡ k + n → drop k row ≡ from k n
  from-all zero k e = drop_of_length-le row (omega arith)
  from-all (suc n) k e = drop-cons row k 0 (omega arith) ∙ ap (get_or row k 0 ∷◌) (from-all n (suc k) (omega arith))

  pub ten-listed : length row ≡ 12
      → row_ten row
      ≡ given (get_or row 0 0) ∷ given (get_or row 1 0) ∷ given (get_or row 2 0)
      ∷ name_held (eqb (get_or row 0 0) 1) (get_or row 3 0) (get_or row 4 0) ∷ name_held (names_one (get_or row 0 0)) (get_or row 5 0) (get_or row 6 0)
      ∷ number_held (get_or row 7 0) ∷ number_held (get_or row 8 0) ∷ number_held (get_or row 9 0) ∷ number_held (get_or row 10 0)
      ∷ number_held (get_or row 11 0) ∷ []
  unfolding row_ten
  ten-listed n = rw (ap (take 3) (from-all 12 0 n), from-all 5 7 n)
