-- Laws of the fields of a packet where none is at fault or missing: each stands in the packet, and has the form of the slot it fills.
-- Assumes nothing.
use mathlib.Core.Path.{◌≡◌}
use mathlib.Core.Bool.{false, and-true}
use mathlib.Core.List.{List, [], ◌∷◌, ◌++◌}
use mathlib.Core.Option.{Option, none, some}
use Prim.Native.Nat.{ℕ}
use lib.ListN.{length, get_elem?}
use lib.Dec.{T, eqb, eqb_refl}
use Rattle.octets.specs.Choice.{every, some_of}
use Rattle.octets.proofs.Choice.{or-false-both, every_drop, T-and-left, T-or-left, T-or-right}
use Rattle.octets.proofs.Keep.{every-kept}
use Rattle.fields.specs.declared.field.Field.{Field}
use Rattle.fields.specs.Walk.{fields_of}
use Rattle.fields.proofs.Laws.Fields.{coded, every-coded}
use Rattle.kinds.specs.declared.kind.Slot.{Slot}
use Rattle.kinds.specs.Judge.{fits, fields_with, slots_with, Filled, filled_behind, filled_in, is_absent, lacking, fault_of}
use Rattle.kinds.proofs.Laws.Judging.{fitting, slots_with-own, in_use, fault_of-none, left_for, every-left_for, filled_behind-cons, fitting-next}

-- ---- fields that fill slots

-- a slot and the field that fills it
abbrev pub filled : Slot → Option Field → Filled
filled s o = record { slot = s; by = o }

-- a field that fills a slot stands in the packet and has the slot's form and ID, and a slot that none fills need not be filled
abbrev pub Sound : List ℕ → Slot → Option Field → Type 0
Sound p s none = s.must ≡ false
Sound p s (some f) = T (coded p f) × T (fits s.form p f) × T (eqb f.id s.id)

-- so is each slot filled
abbrev pub AllSound : List ℕ → List Filled → Type 0
AllSound p [] = Unit {0}
AllSound p (s ∷ rest) = Sound p s.slot s.by × AllSound p rest

module _ (p : List ℕ) where
  -- the first of fields that fit fills its slot soundly
  first-sound : (s : Slot) (slots : List Slot) (xs : List Field) → T (every (coded p) xs) → T (every (λ (f : Field). eqb f.id s.id) xs)
      → T (fitting p (s ∷ slots) xs)
      → lacking (filled s (get_elem? xs 0)) ≡ false → Sound p s (get_elem? xs 0)
  unfolding lacking is_absent
  first-sound s slots [] h own t e = rw and-true at e
  first-sound s slots (f ∷ xs) h own t e = (
    T-and-left (coded p f) (every (coded p) xs) h,
    T-and-left (fits s.form p f) (fitting p slots xs) t,
    T-and-left (eqb f.id s.id) (every (λ (g : Field). eqb g.id s.id) xs) own,
  )

  -- no slot lacks its field, and the fields left fit: each is filled soundly
  filled-sound : (fs : List Field) → T (every (coded p) fs) → (slots earlier : List Slot)
      → ((id : ℕ) → T (in_use id slots) → T (fitting p (slots_with id slots) (left_for id earlier fs)))
      → some_of lacking (filled_behind earlier slots fs) ≡ false
      → AllSound p (filled_behind earlier slots fs)
  filled-sound fs h [] earlier fit full = unfold filled_behind in tt
  filled-sound fs h (s ∷ slots) earlier fit full =
      let xs = left_for s.id earlier fs in
      let more = earlier ++ (s ∷ []) in
      let none-lacks = or-false-both (lacking (filled s (get_elem? xs 0))) (some_of lacking (filled_behind more slots fs)) (rw (filled_behind-cons earlier s slots fs) at full) in
      rw (filled_behind-cons earlier s slots fs) (
        first-sound s (slots_with s.id slots) xs
            (every_drop (coded p) (length (slots_with s.id earlier)) (fields_with s.id fs) (unfold fields_with in every-kept (λ (f : Field). eqb f.id s.id) (coded p) fs h))
            (every-left_for s.id earlier fs)
            (rw (slots_with-own s.id s slots (eqb_refl s.id)) at (fit s.id (T-or-left (eqb s.id s.id) (in_use s.id slots) (eqb_refl s.id))))
            none-lacks.0,
        filled-sound fs h slots more
            (λ id u. fitting-next p id earlier s slots fs (fit id (T-or-right (eqb s.id id) (in_use id slots) u)))
            none-lacks.1,
      )

  -- where no field is at fault or missing
  pub fault-sound : (slots : List Slot) → fault_of p slots (fields_of p) ≡ none
      → AllSound p (filled_in slots (fields_of p))
  unfolding filled_in
  fault-sound slots e =
      let right = (fault_of-none p slots (fields_of p)).0 e in
      filled-sound (fields_of p) (every-coded p) slots [] (unfold slots_with in right.0) right.1
