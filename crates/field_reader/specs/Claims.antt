-- What is claimed of the field reader beyond its functions, by the walk. Each has its proof under proofs/. Assumes nothing.
use Rattle.std.specs.Prelude.{◌≡◌, ◌↔◌, ℕ, false, List, [], ◌∷◌, T, Option, Some, None, Result, Ok, Err}
use Rattle.std.specs.Borrow.{Bor}
use Rattle.octets.specs.Choice.{pick}
use Rattle.sheet.specs.declared.Refusal.{Refusal}
use Rattle.sheet.specs.declared.Refusal.TheVariants.{Size, Header, Layout}
use Rattle.fields.specs.declared.field.Field.{Field}
use Rattle.fields.specs.Header.{first_field, size_right, head_right}
use Rattle.fields.specs.Walk.{fields_of, stop_from, whole}
use Rattle.fields.specs.Claims.{Headed}
use Rattle.field_reader.specs.declared.FieldReader.{FieldReader}
use Rattle.field_reader.specs.declared.Made.{Made}
use Rattle.field_reader.specs.declared.Handed.{Handed}
use Rattle.field_reader.specs.Reader.{reader_at}
use Rattle.field_reader.specs.Promises.{reader_at≡, next_field≡, field_in≡}

-- "Each is given exactly then": a reader is made exactly past checks 1 and 2, ..
abbrev pub MadeExactly : Type 0
MadeExactly =
    (packet : Bor (List ℕ)) (at : ℕ) (m : Made) → reader_at≡ packet at m
    → ((m.refusal ≡ None) ↔ Headed packet.now)
    × ((m.refusal ≡ Some Size) ↔ (size_right packet.now ≡ false))
    × ((m.refusal ≡ Some Header) ↔ (T (size_right packet.now) × (head_right packet.now ≡ false)))

-- its step says this, and it stays
abbrev pub Stays : FieldReader → Result (Option Field) Refusal → Type 0
Stays r said = next_field≡ r (record { reader = r; said = said })

abbrev pub refused4 : Result (Option Field) Refusal
refused4 = Err Layout

-- .. and what stands beside a refusal hands out nothing.
abbrev pub NothingBeside : Type 0
NothingBeside =
    (packet : Bor (List ℕ)) (at : ℕ) (m : Made) → reader_at≡ packet at m → (m.refusal ≡ None → ⊥) → Stays m.reader refused4

-- a reader hands out these fields, a step each, and is then this reader
abbrev pub HandsOut : FieldReader → List Field → FieldReader → Type 0
HandsOut r [] s = s ≡ r
HandsOut r (f ∷ fs) s = (h : Handed) × next_field≡ r h × (h.said ≡ Ok (Some f)) × HandsOut h.reader fs s

-- Past checks 1 and 2, stepping from 12 hands out the fields of the walk, in order, each once; then it says the end exactly if the walk
-- finds no fault, else refuses with 4, and stays where the walk stopped.
abbrev pub StepsAsTheWalk : Type 0
StepsAsTheWalk =
    (packet : Bor (List ℕ)) (m : Made) (fs : List Field) (s : FieldReader) (said : Result (Option Field) Refusal)
    → Headed packet.now → reader_at≡ packet first_field m
    → (HandsOut m.reader fs s × Stays s said)
    ↔ ((fs ≡ fields_of packet.now)
    × (s ≡ reader_at packet (stop_from packet.now first_field))
    × (said ≡ pick (whole packet.now) (Ok None) refused4))

-- What is said of a packet and a place is what making a reader there and a step of it say.
abbrev pub SaidByAReader : Type 0
SaidByAReader =
    (packet : Bor (List ℕ)) (at : ℕ) (m : Made) (h : Handed) (r : Result (Option Field) Refusal)
    → reader_at≡ packet at m → next_field≡ m.reader h → field_in≡ packet.now at r
    → (m.refusal ≡ None → r ≡ h.said) × ((e : Refusal) → m.refusal ≡ Some e → r ≡ Err e)
