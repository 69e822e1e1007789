-- What the inner functions say of the octets and places that they look at. The public promise rests on these, and nobody need
-- believe them: each is only a step of a proof. Assumes nothing.
use Rattle.std.specs.Prelude.{◌≡◌, ℕ, ◌+◌, ◌-◌, ◌≤◌, Bool, ◌&&◌, List, [], ◌∷◌, length, get_or, T, leb, eqb, position, Some, None, Result, Ok, Err}
use Rattle.std.specs.Prelude.{Option as Maybe}
use Rattle.std.specs.List.{zip, list_any}
use Rattle.std.proofs.Math.Option.{Option, none, some}
use Rattle.octets.specs.Choice.{pick, every}
use Rattle.octets.specs.Big.{big_at}
use Rattle.sheet.specs.declared.Refusal.{Refusal}
use Rattle.sheet.specs.declared.Refusal.TheVariants.{Fields}
use Rattle.sheet.specs.Refusal.{refusal_number, refusal_line}
use Rattle.fields.specs.Header.{first_field, ssrc_in, ack_asked}
use Rattle.fields.specs.Walk.{fields_of, stop_from}
use Rattle.kinds.specs.declared.Numbers.{Numbers}
use Rattle.kinds.specs.declared.Found.{Found}
use Rattle.kinds.specs.declared.kind.Slot.{Slot}
use Rattle.kinds.specs.declared.kind.Kind.{Kind as MessageKind}
use Rattle.kinds.specs.declared.kind.Kind.TheVariants.{EndRequest, EndResponse, TransmissionEnd, TransmissionEndResponse, Ack}
use Rattle.kinds.specs.Kind.{Kind}
use Rattle.kinds.specs.Judge.{Held, absent, given, named, fault_of}
use Rattle.kinds.specs.Reading.{Outcome, reads, refused}
use Rattle.kinds.specs.Found.{kind_number, kind_numbered, places_in, found_in}

-- the row of a kind, where there is one
abbrev pub row_found : Numbers → Maybe MessageKind → Option Kind
row_found n None = none
row_found n (Some kind) = kind_numbered n (kind_number kind)

-- the kind of MCV2 with a number
unfoldable pub mcv2_kind : Numbers → ℕ → Maybe MessageKind
mcv2_kind n number =
    pick (eqb number n.endrequest) (Some EndRequest)
    (pick (eqb number n.endresponse) (Some EndResponse)
    (pick (eqb number n.txend) (Some TransmissionEnd)
    (pick (eqb number n.txendresponse) (Some TransmissionEndResponse)
    (pick (eqb number n.ack) (Some Ack) None))))

-- ---- a packet whose walk is whole

pub record Walked (p : List ℕ) : Type 0 where
  pub least : first_field ≤ length p
  pub most : length p ≤ 256
  pub whole : stop_from p first_field ≡ length p

-- ---- places of fields in slots

-- four octets stand at each place
unfoldable pub PlacesInside : List ℕ → List ℕ → Type 0
PlacesInside p places = T (every (λ (a : ℕ). leb (a + 4) (length p)) places)

-- no field is at fault or missing, and these are their places; or one is, and that is 5
abbrev pub JudgedIs : List ℕ → List Slot → Result (List ℕ) Refusal → Type 0
JudgedIs p slots (Ok places) = (fault_of p slots (fields_of p) ≡ none) × (places ≡ places_in slots (fields_of p)) × PlacesInside p places
JudgedIs p slots (Err r) = ((at : ℕ) × (fault_of p slots (fields_of p) ≡ some at)) × (r ≡ Fields)

-- a slot with an ID, and its place, is open
abbrev pub opens : ℕ → Slot × ℕ → Bool
opens id at = eqb at.0.id id && eqb at.1 0

-- the first that is
abbrev pub open_in : List Slot → List ℕ → ℕ → Maybe ℕ
open_in slots places id = position (opens id) (zip slots places)

-- a slot has the ID
abbrev pub used_in : List Slot → ℕ → Bool
used_in slots id = list_any (λ (s : Slot). eqb s.id id) slots

-- a slot that must be filled is open
abbrev pub lack_in : List Slot → List ℕ → Bool
lack_in slots places = list_any (λ (at : Slot × ℕ). at.0.must && eqb at.1 0) (zip slots places)

-- ---- values by the places of their fields

unfoldable pub number_from : List ℕ → ℕ → ℕ
number_from p a = big_at 2 p (a + 2)

abbrev pub name_from : List ℕ → ℕ → Held
name_from p a = named (a + 2) (get_or p (a + 1) 0)

abbrev pub indicator_from : List ℕ → ℕ → Held
indicator_from p a = pick (eqb a 0) absent (given (number_from p a))

abbrev pub result_from : List ℕ → ℕ → Held
result_from p a = given (pick (eqb (number_from p a) 1) 1 0)

abbrev pub cause_from : List ℕ → ℕ → ℕ → Held
cause_from p a b = pick (eqb (number_from p a) 1) absent (given (number_from p b))

-- the values of a kind, by the places of its fields
unfoldable pub values_from : ℕ → List ℕ → List ℕ → List Held
values_from kind p places =
    let a = get_or places 0 0 in
    let b = get_or places 1 0 in
    let c = get_or places 2 0 in
    get_or
    ((name_from p a ∷ name_from p b ∷ indicator_from p c ∷ [])
    ∷ (result_from p a ∷ cause_from p a b ∷ indicator_from p c ∷ [])
    ∷ (name_from p a ∷ indicator_from p b ∷ [])
    ∷ (name_from p a ∷ [])
    ∷ (given (number_from p a) ∷ indicator_from p b ∷ [])
    ∷ []
    ∷ (given (number_from p a) ∷ given (get_or p (b + 2) 0) ∷ [])
    ∷ [])
    (kind - 1)
    []

-- ---- what a packet was found to be

-- the message that it is
abbrev pub read_as_found : List ℕ → Found → Outcome
read_as_found p f = reads (kind_number f.kind) (ssrc_in p) (ack_asked p) (values_from (kind_number f.kind) p f.places)

-- the message, or the refusal
abbrev pub read_from : List ℕ → Result Found Refusal → Outcome
read_from p (Ok f) = read_as_found p f
read_from p (Err r) = refused (refusal_number r) (refusal_line r)

-- its fields lie inside
pub record Sorted (p : List ℕ) (f : Found) : Type 0 where
  pub least : first_field ≤ length p
  pub most : length p ≤ 256
  pub inside : PlacesInside p f.places

abbrev pub SortedIn : List ℕ → Result Found Refusal → Type 0
SortedIn p (Ok f) = Sorted p f
SortedIn p (Err r) = Unit {0}

-- a packet that reads so was found to be this, and this reads so
pub record FoundIs (n : Numbers) (p : List ℕ) (o : Outcome) (r : Result Found Refusal) : Type 0 where
  pub is : r ≡ found_in n p o
  pub told : read_from p r ≡ o
  pub sorted : SortedIn p r
