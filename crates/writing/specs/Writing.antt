-- Writing a message (document 01, "Packet", and "Refusals": 12 line 0, 5, 11, in that order; "changes no lent octet"). Assumes nothing.
use Rattle.std.specs.Prelude.{◌≡◌, ℕ, List, length, leb, Result, Ok, Err}
use Rattle.std.proofs.Math.Option.{Option, none, some}
use Rattle.octets.specs.Choice.{pick}
use Rattle.octets.specs.Buffer.{over}
use Rattle.sheet.specs.declared.Refusal.{Refusal}
use Rattle.sheet.specs.declared.Sheet.{Sheet}
use Rattle.sheet.specs.Refusal.{refusal_number, refusal_line}
use Rattle.sheet.specs.Value.{sheet_from, valid_alone}
use Rattle.kinds.specs.Reading.{Outcome}
use Rattle.packet.specs.Meaning.{meaning}
use Rattle.plan.specs.Packet.{packet_for, fitting}

-- a packet to put into the buffer, or a refusal's number; "line 0" is its line, and it has no place
pub data Made : Type 0 where
  made : List ℕ → Made
  refused : ℕ → Made

-- 5: "a message to write that no packet reads to"; 11: "output shorter than the packet"
unfoldable pub room_for : ℕ → Option (List ℕ) → Made
room_for room none = refused 5
room_for room (some p) = pick (leb (length p) room) (made p) (refused 11)

-- A message with the octets its names lie in, and the buffer's length. The message is set out as reading sets it out, so that what was
-- read can be written again; a refusal has no meaning, and is no message.
abbrev pub made_of : Sheet → Outcome → List ℕ → ℕ → Made
made_of s message names room = room_for room (packet_for s (meaning names message))

-- "line 0, before all other checks, for a sheet value handed to a call that no sheet reads to"
unfoldable pub write_of : Sheet → Outcome → List ℕ → ℕ → Made
write_of s message names room = pick (valid_alone s) (made_of s message names room) (refused 12)

-- The same where the caller has judged the sheet: 12 is left to it, but for numbers that go into no packet.
unfoldable pub write_by : List ℕ → Outcome → List ℕ → ℕ → Made
write_by ns message names room = pick (fitting ns) (made_of (sheet_from ns) message names room) (refused 12)

-- ---- what is answered, and what the buffer holds

-- how many octets were written, or a refusal's number and line
pub data Said : Type 0 where
  wrote : ℕ → Said
  refused_with : ℕ → ℕ → Said

unfoldable pub told : Made → Said
told (made p) = wrote (length p)
told (refused number) = refused_with number 0

abbrev pub writing_said : Result ℕ Refusal → Said
writing_said (Ok octets) = wrote octets
writing_said (Err r) = refused_with (refusal_number r) (refusal_line r)

-- "leaves octets past the packet's end alone"; a refusal "changes no lent octet"
unfoldable pub after : Made → List ℕ → List ℕ
after (made p) out = over p out
after (refused number) out = out

-- the answer tells what was made, and the buffer, which held `out`, is as that leaves it
abbrev pub Answered : Made → List ℕ → Result ℕ Refusal → List ℕ → Type 0
Answered w out r now = (writing_said r ≡ told w) × (now ≡ after w out)
