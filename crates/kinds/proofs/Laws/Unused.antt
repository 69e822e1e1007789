-- Laws of slots that no field fills: at the end of a kind's slots they change nothing. Assumes nothing.
use mathlib.Core.Path.{◌≡◌, refl, ap, ◌∙◌}
use mathlib.Core.Bool.{false, or-false}
use mathlib.Core.List.{List, [], ◌∷◌, ◌++◌, map-append, append-nil, append_assoc}
use mathlib.Core.Option.{none}
use Prim.Native.Nat.{ℕ, zero, suc, ◌-◌}
use lib.ListN.{length, replicate, length-map}
use lib.Dec.{eqb}
use Rattle.octets.specs.Choice.{some_of}
use Rattle.octets.specs.Buffer.{padded}
use Rattle.octets.proofs.Choice.{or-false-both, some-of-append}
use Rattle.octets.proofs.Keep.{keep_append, keep-none}
use Rattle.octets.proofs.Places.{eqb_comm}
use Rattle.fields.specs.declared.field.Field.{Field}
use Rattle.kinds.specs.declared.kind.Slot.{Slot}
use Rattle.kinds.specs.Judge.{fields_with, slots_with, form_for, at_fault, fault_among, filled_behind, filled_in, is_absent, lacking, missing_at, fault_of}
use Rattle.kinds.specs.Found.{places_in}
use Rattle.kinds.proofs.Laws.Judging.{in_use}

-- slots behind others are filled behind them
pub filled_behind-append : (earlier xs ys : List Slot) (fs : List Field)
    → filled_behind earlier (xs ++ ys) fs ≡ filled_behind earlier xs fs ++ filled_behind (earlier ++ xs) ys fs
unfolding filled_behind
filled_behind-append earlier [] ys fs = rw append-nil
filled_behind-append earlier (x ∷ xs) ys fs = rw (filled_behind-append (earlier ++ (x ∷ [])) xs ys fs, append_assoc)

-- each slot is there once ..
length-filled_behind : (earlier slots : List Slot) (fs : List Field) → length (filled_behind earlier slots fs) ≡ length slots
unfolding filled_behind
length-filled_behind earlier [] fs = refl
length-filled_behind earlier (s ∷ slots) fs = ap suc (length-filled_behind (earlier ++ (s ∷ [])) slots fs)

-- .. with its place
length-places_in : (slots : List Slot) (fs : List Field) → length (places_in slots fs) ≡ length slots
unfolding places_in filled_in
length-places_in slots fs = rw length-map (length-filled_behind [] slots fs)

-- no field has an ID
abbrev pub Apart : ℕ → List Field → Type 0
Apart id fs = some_of (λ (f : Field). eqb f.id id) fs ≡ false

-- a slot that need not be filled, with an ID that no field has
module _ (u : Slot) (idle : u.must ≡ false) where
  -- ---- one such slot at the end

  module _ (slots : List Slot) where
    -- the slots and it
    abbrev more : List Slot
    more = slots ++ (u ∷ [])

    -- it is none of those with another ID ..
    slots_with-unused : (id : ℕ) → eqb id u.id ≡ false → slots_with id more ≡ slots_with id slots
    unfolding slots_with
    slots_with-unused id e =
        rw (keep_append (λ (s : Slot). eqb s.id id) slots (u ∷ []), eqb_comm u.id id, e, append-nil)

    -- .. nor puts one in use
    in_use-unused : (id : ℕ) → eqb id u.id ≡ false → in_use id more ≡ in_use id slots
    in_use-unused id e =
        rw (some-of-append (λ (s : Slot). eqb s.id id) slots (u ∷ []), eqb_comm u.id id, e, or-false)

    -- so that the same fields are at fault
    fault_among-unused : (p : List ℕ) (before fs : List Field) → Apart u.id fs → fault_among p more before fs ≡ fault_among p slots before fs
    unfolding fault_among at_fault form_for
    fault_among-unused p before [] h = refl
    fault_among-unused p before (f ∷ fs) h =
        let both = or-false-both (eqb f.id u.id) (some_of (λ (g : Field). eqb g.id u.id) fs) h in
        rw (in_use-unused f.id both.0, slots_with-unused f.id both.0, fault_among-unused p (before ++ (f ∷ [])) fs both.1)

    -- so that none fills it
    filled_in-unused : (fs : List Field) → Apart u.id fs → filled_in more fs ≡ filled_in slots fs ++ (record { slot = u; by = none } ∷ [])
    unfolding filled_in
    filled_in-unused fs h =
        filled_behind-append [] slots (u ∷ []) fs ∙ (unfold filled_behind fields_with in rw (keep-none (λ (f : Field). eqb f.id u.id) fs h))

    -- .. and it does not lack one
    fault_of-more : (p : List ℕ) (fs : List Field) → Apart u.id fs → fault_of p more fs ≡ fault_of p slots fs
    unfolding fault_of missing_at lacking is_absent
    fault_of-more p fs h =
        rw (fault_among-unused p [] fs h, filled_in-unused fs h, some-of-append, idle, or-false)

    -- its place is 0
    places_in-more : (fs : List Field) → Apart u.id fs → places_in more fs ≡ places_in slots fs ++ (0 ∷ [])
    unfolding places_in
    places_in-more fs h = rw (filled_in-unused fs h, map-append)

  -- ---- any number of them

  module _ (fs : List Field) (h : Apart u.id fs) where
    -- so many change no fault ..
    fault_of-replicate : (p : List ℕ) (n : ℕ) (slots : List Slot) → fault_of p (slots ++ replicate n u) fs ≡ fault_of p slots fs
    fault_of-replicate p zero slots = rw append-nil
    fault_of-replicate p (suc n) slots =
        rw (← append_assoc slots (u ∷ []) (replicate n u)) (fault_of-replicate p n (slots ++ (u ∷ [])) ∙ fault_of-more slots p fs h)

    -- .. and have so many places 0
    places_in-replicate : (n : ℕ) (slots : List Slot) → places_in (slots ++ replicate n u) fs ≡ places_in slots fs ++ replicate n 0
    places_in-replicate zero slots = simp append-nil
    places_in-replicate (suc n) slots =
        rw (← append_assoc slots (u ∷ []) (replicate n u))
        (places_in-replicate n (slots ++ (u ∷ [])) ∙ rw (places_in-more slots fs h, append_assoc))

    -- filled up with them, slots have the same fields at fault or missing ..
    pub fault_of-padded : (p : List ℕ) (n : ℕ) (slots : List Slot) → fault_of p (padded n u slots) fs ≡ fault_of p slots fs
    unfolding padded
    fault_of-padded p n slots = fault_of-replicate p (n - length slots) slots

    -- .. and the same places, filled up with 0
    pub places_in-padded : (n : ℕ) (slots : List Slot) → places_in (padded n u slots) fs ≡ padded n 0 (places_in slots fs)
    unfolding padded
    places_in-padded n slots = rw length-places_in (places_in-replicate (n - length slots) slots)
