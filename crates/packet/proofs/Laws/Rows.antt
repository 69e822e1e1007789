-- The rows of the kinds that may have an Indicator; and a message's row stands for it (`own_row`). Assumes nothing.
use mathlib.Core.Path.{◌≡◌, refl}
use Prim.Native.Nat.{ℕ}
use mathlib.Core.Bool.{Bool, true, false}
use mathlib.Core.List.{List}
use lib.Dec.{T, T_not, eqb}
use Rattle.octets.specs.Choice.{same}
use Rattle.octets.proofs.Choice.{T_true, T_false, T-and-left, T-and-right, same_refl}
use mir.Val.{bool_byte}
use Rattle.packet.specs.declared.Head.{Head}
use Rattle.packet.specs.declared.Name.{Name}
use Rattle.std.specs.Prelude.{Option, Some, None}
use Rattle.packet.specs.declared.Verdict.{Verdict}
use Rattle.packet.specs.declared.Verdict.TheVariants.{Granted, Rejected}
use Rattle.packet.specs.declared.Message.{Message}
use Rattle.packet.specs.declared.Message.TheVariants.{ReceiveRequest, ReceiveResponse, EndRequest, EndResponse, TransmissionEnd, TransmissionEndResponse, Ack}
use Rattle.packet.specs.Message.{message_said}
use Rattle.packet.specs.Row.{no_number, flag, columns, held_in, with_held, with_all, message_row, row_for, numbers_say, message_in}
use Rattle.packet.specs.Inner.{indicator_number, result_number, cause_number, row_with, is_number, is_message}

-- 1 for yes, as an octet
pub flag-byte : (b : Bool) → bool_byte b ≡ flag b
flag-byte true = refl
flag-byte false = refl

-- no name
abbrev nobody : Name
nobody = record { at = 0; len = 0 }

module _ (h : Head) where
  pub row-request : (user source : Name) (i : Option ℕ)
      → row_with 1 h user source no_number no_number (indicator_number i) no_number no_number ≡ row_for (ReceiveRequest h user source i)
  unfolding message_row columns with_all with_held
  row-request user source None = refl
  row-request user source (Some n) = refl

  pub row-response : (v : Verdict) (i : Option ℕ)
      → row_with 2 h nobody nobody (result_number v) (cause_number v) (indicator_number i) no_number no_number ≡ row_for (ReceiveResponse h v i)
  unfolding message_row columns with_all with_held
  row-response Granted None = refl
  row-response Granted (Some n) = refl
  row-response (Rejected cause) None = refl
  row-response (Rejected cause) (Some n) = refl

  pub row-end-request : (transmitter : Name) (i : Option ℕ)
      → row_with 3 h nobody transmitter no_number no_number (indicator_number i) no_number no_number ≡ row_for (EndRequest h transmitter i)
  unfolding message_row columns with_all with_held
  row-end-request transmitter None = refl
  row-end-request transmitter (Some n) = refl

  pub row-end : (cause : ℕ) (i : Option ℕ)
      → row_with 5 h nobody nobody no_number cause (indicator_number i) no_number no_number ≡ row_for (TransmissionEnd h cause i)
  unfolding message_row columns with_all with_held
  row-end cause None = refl
  row-end cause (Some n) = refl

-- ---- a message's row stands for it

flag_one : (b : Bool) → eqb (flag b) 1 ≡ b
flag_one true = refl
flag_one false = refl

number-told : (n : ℕ) → T (is_number n) → eqb n no_number ≡ false
number-told n t = T_false (eqb n no_number) (λ u. T_not (eqb n no_number) t u)

-- what its numbers say
row-says : (m : Message) → T (is_message m) → numbers_say (row_for m) ≡ message_said m
unfolding numbers_say message_row columns held_in with_all with_held is_message
row-says (ReceiveRequest h user source None) t = rw (flag_one h.ack)
row-says (ReceiveRequest h user source (Some n)) t = rw (flag_one h.ack, number-told n t)
row-says (ReceiveResponse h Granted None) t = rw (flag_one h.ack)
row-says (ReceiveResponse h Granted (Some n)) t = rw (flag_one h.ack, number-told n t)
row-says (ReceiveResponse h (Rejected cause) None) t = rw (flag_one h.ack, number-told cause (T-and-left (is_number cause) true t))
row-says (ReceiveResponse h (Rejected cause) (Some n)) t =
    rw (flag_one h.ack, number-told cause (T-and-left (is_number cause) (is_number n) t), number-told n (T-and-right (is_number cause) (is_number n) t))
row-says (EndRequest h transmitter None) t = rw (flag_one h.ack)
row-says (EndRequest h transmitter (Some n)) t = rw (flag_one h.ack, number-told n t)
row-says (EndResponse h transmitter) t = rw (flag_one h.ack)
row-says (TransmissionEnd h cause None) t = rw (flag_one h.ack, number-told cause (T-and-left (is_number cause) true t))
row-says (TransmissionEnd h cause (Some n)) t =
    rw (flag_one h.ack, number-told cause (T-and-left (is_number cause) (is_number n) t), number-told n (T-and-right (is_number cause) (is_number n) t))
row-says (TransmissionEndResponse h) t = rw (flag_one h.ack)
row-says (Ack h source about) t =
    rw (flag_one h.ack, number-told source (T-and-left (is_number source) (is_number about) t), number-told about (T-and-right (is_number source) (is_number about) t))

pub own_row : {m s : Message} → m ≡ s → T (is_message s) → {row : List ℕ} → row ≡ row_for m → (row ≡ row_for m) × (message_in row ≡ message_said m)
unfolding message_in
own_row {m} {s} is t e =
    let real : T (is_message m) = rw is t in
    (e, rw (e, row-says m real, T_true (same (row_for m) (row_for m)) (same_refl (row_for m))))
