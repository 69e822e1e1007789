-- The fields of a packet judged against what its kind takes (document 01, "Packet", and refusal 5). Assumes nothing.
use Rattle.std.specs.Prelude.{ℕ, ◌+◌, Bool, true, false, not, ◌&&◌, List, [], ◌∷◌, ◌++◌, map, length, get_or, leb, eqb}
use Rattle.std.proofs.Math.Option.{Option, none, some}
use Rattle.std.proofs.Math.ListN.{get_elem?}
use Rattle.octets.specs.Choice.{pick, keep, some_of}
use Rattle.octets.specs.Big.{big_at}
use Rattle.sheet.specs.Judge.{user_id}
use Rattle.fields.specs.declared.field.Field.{Field}
use Rattle.fields.specs.Walk.{value_of}
use Rattle.kinds.specs.declared.kind.Form.{Form}
use Rattle.kinds.specs.declared.kind.Form.TheVariants.{UserId, Number, Cause, Result, MessageType, Barred}
use Rattle.kinds.specs.declared.kind.Slot.{Slot}

-- ---- one field's value

-- the 16-bit number at the front of its value
unfoldable pub number_at : List ℕ → Field → ℕ
number_at p f = big_at 2 p (f.at + 2)

-- "User ID (6): 1 to 60 octets, each 0x21 to 0x7E. Indicator (13), Source (10): length 2, any 16-bit number. Reject Cause (2):
-- length 2 or more .. Result (ID from the sheet): length 2, 16-bit, 0 or 1. Message Type (12): length 2, a value octet, a zero octet"
unfoldable pub fits : Form → List ℕ → Field → Bool
fits UserId p f = user_id (value_of p f)
fits Number p f = eqb f.len 2
fits Cause p f = leb 2 f.len
fits Result p f = eqb f.len 2 && leb (number_at p f) 1
fits MessageType p f = eqb f.len 2 && eqb (get_or p (f.at + 3) 0) 0
fits Barred p f = false

-- what a message holds of a field: nothing where it is absent, a number, or a name by its place and length
pub data Held : Type 0 where
  absent : Held
  given : ℕ → Held
  named : ℕ → ℕ → Held

-- "a 16-bit cause, then a phrase that is skipped"; "a value octet"
unfoldable pub held_in : Form → List ℕ → Field → Held
held_in UserId p f = named (f.at + 2) f.len
held_in Number p f = given (number_at p f)
held_in Cause p f = given (number_at p f)
held_in Result p f = given (number_at p f)
held_in MessageType p f = given (get_or p (f.at + 2) 0)
held_in Barred p f = absent

-- ---- which field fills which slot: the first field with an ID the first slot with that ID, the second the second. "Order is
-- free, except that in message 1 the first ID 6 is the User ID and the second is the Source ID"

unfoldable pub fields_with : ℕ → List Field → List Field
fields_with id fs = keep (λ (f : Field). eqb f.id id) fs

unfoldable pub slots_with : ℕ → List Slot → List Slot
slots_with id slots = keep (λ (s : Slot). eqb s.id id) slots

-- "In message 2 the first Result decides": the first field with the Result's ID is a 1
unfoldable pub grant_in : List ℕ → Option Field → Bool
grant_in p none = false
grant_in p (some f) = eqb f.len 2 && eqb (number_at p f) 1

unfoldable pub granted : List ℕ → ℕ → List Field → Bool
granted p resultid fs = grant_in p (get_elem? (fields_with resultid fs) 0)

-- the form that a field behind these must have: that of the slot it fills, and none where its slots are filled already (a repeat)
unfoldable pub form_for : List Slot → List Field → Field → Form
form_for slots before f =
    get_or (map (λ (s : Slot). s.form) (slots_with f.id slots)) (length (fields_with f.id before)) Barred

-- "a field .. repeated, of wrong length or value"; "A field the message has no use for is skipped"
unfoldable pub at_fault : List ℕ → List Slot → List Field → Field → Bool
at_fault p slots before f =
    some_of (λ (s : Slot). eqb s.id f.id) slots && not (fits (form_for slots before f) p f)

-- the place of the first field at fault, behind those before
unfoldable pub fault_among : List ℕ → List Slot → List Field → List Field → Option ℕ
fault_among p slots before [] = none
fault_among p slots before (f ∷ fs) =
    pick (at_fault p slots before f) (some f.at) (fault_among p slots (before ++ (f ∷ [])) fs)

-- a slot and the field that fills it
pub record Filled : Type 0 where
  pub slot : Slot
  pub by : Option Field

-- the slots, behind those earlier, each with the field that fills it
unfoldable pub filled_behind : List Slot → List Slot → List Field → List Filled
filled_behind earlier [] fs = []
filled_behind earlier (s ∷ slots) fs =
    record { slot = s; by = get_elem? (fields_with s.id fs) (length (slots_with s.id earlier)) }
    ∷ filled_behind (earlier ++ (s ∷ [])) slots fs

unfoldable pub filled_in : List Slot → List Field → List Filled
filled_in slots fs = filled_behind [] slots fs

-- a field missing
unfoldable pub is_absent : Option Field → Bool
is_absent none = true
is_absent (some f) = false

unfoldable pub lacking : Filled → Bool
lacking s = s.slot.must && is_absent s.by

-- The place of refusal 5: that of the first field at fault or, where none is and one is missing, the packet's length.
unfoldable pub missing_at : List ℕ → List Filled → Option ℕ
missing_at p filled = pick (some_of lacking filled) (some (length p)) none

unfoldable pub first_of : Option ℕ → Option ℕ → Option ℕ
first_of none other = other
first_of (some at) other = some at

unfoldable pub fault_of : List ℕ → List Slot → List Field → Option ℕ
fault_of p slots fs = first_of (fault_among p slots [] fs) (missing_at p (filled_in slots fs))

-- what the message holds in a slot
unfoldable pub held_by : List ℕ → Filled → Held
held_by p s = at s.by
  where
    at : Option Field → Held
    at none = absent
    at (some f) = held_in s.slot.form p f
