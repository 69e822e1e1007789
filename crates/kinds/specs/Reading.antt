-- Reading a packet (document 01, "Refusals": 12 line 0, 1, 2, 3, 4, 5, "Checked in that order, field faults of 4 over the whole
-- packet before 5"). Assumes nothing.
use Rattle.std.specs.Prelude.{ℕ, Bool, List, map}
use Rattle.std.proofs.Math.Option.{Option, none, some}
use Rattle.octets.specs.Choice.{pick}
use Rattle.sheet.specs.declared.Sheet.{Sheet}
use Rattle.sheet.specs.Value.{valid_alone}
use Rattle.fields.specs.Header.{past_checks, ack_asked, ssrc_in}
use Rattle.fields.specs.Walk.{fields_of, whole}
use Rattle.kinds.specs.declared.Numbers.{Numbers}
use Rattle.kinds.specs.declared.kind.Slot.{Slot}
use Rattle.kinds.specs.Kind.{Kind, kind_of, slots_of, numbers_of}
use Rattle.kinds.specs.Judge.{Held, granted, filled_in, fault_of, held_by}

-- a message, by its kind, SSRC, whether it asks for an Ack, and what it holds in each slot of its kind; or a refusal's number and place
pub data Outcome : Type 0 where
  reads : ℕ → ℕ → Bool → List Held → Outcome
  refused : ℕ → ℕ → Outcome

-- a refusal "returns its number only"
abbrev pub check : Bool → ℕ → Outcome → Outcome
check right number next = pick right next (refused number 0)

-- the slots of a kind under this packet
unfoldable pub slots_in : Numbers → List ℕ → Kind → List Slot
slots_in n p k = slots_of (granted p n.resultid (fields_of p)) k

-- the message that a packet of a kind with these slots is, where no field is at fault or missing
unfoldable pub message_of : List ℕ → ℕ → List Slot → Option ℕ → Outcome
message_of p kind slots none = reads kind (ssrc_in p) (ack_asked p) (map (held_by p) (filled_in slots (fields_of p)))
message_of p kind slots (some at) = refused 5 0

unfoldable pub read_as : Numbers → List ℕ → Option Kind → Outcome
read_as n p none = refused 3 0
read_as n p (some k) =
    check (whole p) 4 (message_of p k.kind (slots_in n p k) (fault_of p (slots_in n p k) (fields_of p)))

unfoldable pub read_by : Numbers → List ℕ → Outcome
read_by n p = past_checks (λ (number : ℕ). refused number 0) p (read_as n p (kind_of n p))

-- "line 0, before all other checks, for a sheet value handed to a call that no sheet reads to"
unfoldable pub read_of : Sheet → List ℕ → Outcome
read_of s p = check (valid_alone s) 12 (read_by (numbers_of s) p)
