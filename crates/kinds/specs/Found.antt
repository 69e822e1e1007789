-- What a packet is found to be: its kind, and where each field stands that the kind has a slot for (document 01, "Packet"). Assumes nothing.
use Rattle.std.specs.Prelude.{◌≡◌, refl, ℕ, zero, suc, ◌-◌, Bool, false, List, [], ◌∷◌, map, get_or, Result, Ok, Err}
use Rattle.std.proofs.Math.Option.{Option, none, some}
use Rattle.std.proofs.Math.ListN.{get_elem?}
use Rattle.octets.specs.Buffer.{padded}
use Rattle.sheet.specs.declared.Refusal.{Refusal}
use Rattle.sheet.specs.Refusal.{refusal_by}
use Rattle.fields.specs.declared.field.Field.{Field}
use Rattle.fields.specs.Walk.{fields_of}
use Rattle.kinds.specs.declared.Numbers.{Numbers}
use Rattle.kinds.specs.declared.Found.{Found}
use Rattle.kinds.specs.declared.kind.Form.TheVariants.{Barred}
use Rattle.kinds.specs.declared.kind.Slot.{Slot}
use Rattle.kinds.specs.declared.kind.Kind.{Kind as MessageKind}
use Rattle.kinds.specs.declared.kind.Kind.TheVariants.{ReceiveRequest, ReceiveResponse, EndRequest, EndResponse, TransmissionEnd, TransmissionEndResponse, Ack}
use Rattle.kinds.specs.Kind.{Kind, kinds, slots_of}
use Rattle.kinds.specs.Judge.{granted, Filled, filled_in}
use Rattle.kinds.specs.Reading.{Outcome, reads, refused}

-- a kind's number in document 01's table
abbrev pub kind_number : MessageKind → ℕ
kind_number ReceiveRequest = 1
kind_number ReceiveResponse = 2
kind_number EndRequest = 3
kind_number EndResponse = 4
kind_number TransmissionEnd = 5
kind_number TransmissionEndResponse = 6
kind_number Ack = 7

-- the kind with a number of the table; one above it counts as 7
abbrev pub kind_by : ℕ → MessageKind
kind_by number =
    get_or (ReceiveRequest ∷ ReceiveResponse ∷ EndRequest ∷ EndResponse ∷ TransmissionEnd ∷ TransmissionEndResponse ∷ []) (number - 1) Ack

-- no two kinds have the same number
pub kind_back : (k : MessageKind) → kind_by (kind_number k) ≡ k
kind_back ReceiveRequest = refl
kind_back ReceiveResponse = refl
kind_back EndRequest = refl
kind_back EndResponse = refl
kind_back TransmissionEnd = refl
kind_back TransmissionEndResponse = refl
kind_back Ack = refl

-- the row with a number from 1, or none
unfoldable pub kind_numbered : Numbers → ℕ → Option Kind
kind_numbered n zero = none
kind_numbered n (suc k) = get_elem? (kinds n) k

-- a slot that no field fills
abbrev pub no_slot : Slot
no_slot = record { id = 256; form = Barred; must = false }

abbrev pub slots_by : Bool → Option Kind → List Slot
slots_by granted none = []
slots_by granted (some k) = slots_of granted k

-- a kind's slots, filled up to three
unfoldable pub slots_numbered : Numbers → ℕ → Bool → List Slot
slots_numbered n kind granted = padded 3 no_slot (slots_by granted (kind_numbered n kind))

-- the place of a field, 0 where there is none
abbrev pub place_of : Option Field → ℕ
place_of none = 0
place_of (some f) = f.at

unfoldable pub places_in : List Slot → List Field → List ℕ
places_in slots fs = map (λ (s : Filled). place_of s.by) (filled_in slots fs)

-- a packet that reads so: the kind and the places of its fields, or the refusal
abbrev pub found_in : Numbers → List ℕ → Outcome → Result Found Refusal
found_in n p (refused number at) = Err (refusal_by number at)
found_in n p (reads kind ssrc ack values) =
    Ok (record { kind = kind_by kind; places = places_in (slots_numbered n kind (granted p n.resultid (fields_of p))) (fields_of p) })
