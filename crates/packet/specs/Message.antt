-- A message's values (document 01, "Packet"): all that a kind has. Assumes nothing.
use Rattle.std.specs.Prelude.{ℕ, List, [], ◌∷◌, Option, Some, None, Result, Ok, Err}
use Rattle.sheet.specs.declared.Refusal.{Refusal}
use Rattle.sheet.specs.Refusal.{refusal_number, refusal_line}
use Rattle.packet.specs.declared.Name.{Name}
use Rattle.packet.specs.declared.Head.{Head}
use Rattle.packet.specs.declared.Verdict.{Verdict}
use Rattle.packet.specs.declared.Verdict.TheVariants.{Granted, Rejected}
use Rattle.packet.specs.declared.Message.{Message}
use Rattle.packet.specs.declared.Message.TheVariants.{ReceiveRequest, ReceiveResponse, EndRequest, EndResponse, TransmissionEnd, TransmissionEndResponse, Ack}
use Rattle.kinds.specs.Judge.{Held, absent, given, named}
use Rattle.kinds.specs.Reading.{Outcome, reads, refused}

abbrev pub name_said : Name → Held
name_said n = named n.at n.len

abbrev pub indicator_said : Option ℕ → Held
indicator_said None = absent
indicator_said (Some n) = given n

-- "Result, Reject Cause exactly if Result is 0"
abbrev pub result_said : Verdict → Held
result_said Granted = given 1
result_said (Rejected cause) = given 0

abbrev pub cause_said : Verdict → Held
cause_said Granted = absent
cause_said (Rejected cause) = given cause

abbrev pub headed : ℕ → Head → List Held → Outcome
headed kind h values = reads kind h.ssrc h.ack values

-- a message by its kind, SSRC, whether it asks for an Ack, and the values of its fields in the table's order
abbrev pub message_said : Message → Outcome
message_said (ReceiveRequest h user source i) = headed 1 h (name_said user ∷ name_said source ∷ indicator_said i ∷ [])
message_said (ReceiveResponse h v i) = headed 2 h (result_said v ∷ cause_said v ∷ indicator_said i ∷ [])
message_said (EndRequest h transmitter i) = headed 3 h (name_said transmitter ∷ indicator_said i ∷ [])
message_said (EndResponse h transmitter) = headed 4 h (name_said transmitter ∷ [])
message_said (TransmissionEnd h cause i) = headed 5 h (given cause ∷ indicator_said i ∷ [])
message_said (TransmissionEndResponse h) = headed 6 h []
message_said (Ack h source about) = headed 7 h (given source ∷ given about ∷ [])

abbrev pub read_said : Result Message Refusal → Outcome
read_said (Ok m) = message_said m
read_said (Err r) = refused (refusal_number r) (refusal_line r)
