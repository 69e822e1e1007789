-- What the inner functions say of a message's head and of its row. The public promises rest on these, and nobody need
-- believe them: each is only a step of a proof. Assumes nothing.
use Rattle.std.specs.Prelude.{ℕ, Bool, true, not, ◌&&◌, List, [], ◌∷◌, Option, Some, None, eqb}
use Rattle.fields.specs.Header.{ssrc_in, ack_asked}
use Rattle.packet.specs.declared.Head.{Head}
use Rattle.packet.specs.declared.Name.{Name}
use Rattle.packet.specs.declared.Verdict.{Verdict}
use Rattle.packet.specs.declared.Verdict.TheVariants.{Granted, Rejected}
use Rattle.packet.specs.declared.Message.{Message}
use Rattle.packet.specs.declared.Message.TheVariants.{ReceiveRequest, ReceiveResponse, EndRequest, EndResponse, TransmissionEnd, TransmissionEndResponse, Ack}
use Rattle.packet.specs.Row.{no_number, flag}

abbrev pub head_in : List ℕ → Head
head_in p = record { ssrc = ssrc_in p; ack = ack_asked p }

-- ---- a message as a row

abbrev pub indicator_number : Option ℕ → ℕ
indicator_number None = no_number
indicator_number (Some n) = n

abbrev pub result_number : Verdict → ℕ
result_number Granted = 1
result_number (Rejected cause) = 0

abbrev pub cause_number : Verdict → ℕ
cause_number Granted = no_number
cause_number (Rejected cause) = cause

abbrev pub row_with : ℕ → Head → Name → Name → ℕ → ℕ → ℕ → ℕ → ℕ → List ℕ
row_with kind h user transmitter result cause indicator source about =
    kind ∷ h.ssrc ∷ flag h.ack ∷ user.at ∷ user.len ∷ transmitter.at ∷ transmitter.len ∷ result ∷ cause ∷ indicator ∷ source ∷ about ∷ []

-- its numbers are none of them MCV_NONE
abbrev pub is_number : ℕ → Bool
is_number n = not (eqb n no_number)

abbrev pub is_indicator : Option ℕ → Bool
is_indicator None = true
is_indicator (Some n) = is_number n

abbrev pub is_verdict : Verdict → Bool
is_verdict Granted = true
is_verdict (Rejected cause) = is_number cause

unfoldable pub is_message : Message → Bool
is_message (ReceiveRequest h user source i) = is_indicator i
is_message (ReceiveResponse h v i) = is_verdict v && is_indicator i
is_message (EndRequest h transmitter i) = is_indicator i
is_message (EndResponse h transmitter) = true
is_message (TransmissionEnd h cause i) = is_number cause && is_indicator i
is_message (TransmissionEndResponse h) = true
is_message (Ack h source about) = is_number source && is_number about
