-- Laws of judging fields against slots, ID by ID: no field is at fault exactly if the fields with each ID in use fit the slots with that
-- ID one by one, and each slot is filled by the first that those before it leave. Assumes nothing.
use mathlib.Core.Path.{◌≡◌, refl, subst}
use mathlib.Core.Logic.{◌↔◌, ⊎_elim}
use mathlib.Core.Bool.{Bool, true, false, not, ◌&&◌, ◌||◌}
use mathlib.Core.List.{List, [], ◌∷◌, ◌++◌, map}
use mathlib.Core.Option.{Option, none, some, some-ne-none}
use Prim.Native.Nat.{ℕ, zero, suc, ◌≤◌, zero-le, suc-le-suc}
use lib.ListN.{length, get_or, get_elem?, drop}
use lib.Dec.{T, eqb, eqb→eq, eqb_refl}
use Rattle.octets.specs.Choice.{pick, every, some_of}
use Rattle.octets.proofs.Lists.{getElem?-drop}
use Rattle.octets.proofs.Choice.{T_true, false-T, decide, T_and, T-and-left, T-and-right, unless, implies, pick-cases, every_drop}
use Rattle.octets.proofs.Keep.{every-keep, keep-none, drop-keep-snoc}
use Rattle.fields.specs.declared.field.Field.{Field}
use Rattle.kinds.specs.declared.kind.Form.TheVariants.{Barred}
use Rattle.kinds.specs.declared.kind.Slot.{Slot}
use Rattle.kinds.specs.Judge.{fits, fields_with, slots_with, form_for, at_fault, fault_among, filled_behind, filled_in, lacking, missing_at, first_of, fault_of}

-- ---- fields and slots with an ID

-- a slot with the ID goes before those behind it
pub slots_with-own : (id : ℕ) (s : Slot) (slots : List Slot) → T (eqb s.id id) → slots_with id (s ∷ slots) ≡ s ∷ slots_with id slots
unfolding slots_with
slots_with-own id s slots t = rw (T_true (eqb s.id id) t)

-- one with another does not count
pub slots_with-other : (id : ℕ) (s : Slot) (slots : List Slot) → eqb s.id id ≡ false → slots_with id (s ∷ slots) ≡ slots_with id slots
unfolding slots_with
slots_with-other id s slots e = rw e

-- an ID is that of a slot
abbrev pub in_use : ℕ → List Slot → Bool
in_use id slots = some_of (λ (s : Slot). eqb s.id id) slots

-- no slot has an ID that is not in use
pub slots_with-none : (id : ℕ) (slots : List Slot) → in_use id slots ≡ false → slots_with id slots ≡ []
unfolding slots_with
slots_with-none id slots e = keep-none (λ (s : Slot). eqb s.id id) slots e

-- ---- fields that fit slots one by one

-- each field has the form of its slot, and there are no more fields than slots
abbrev pub fitting : List ℕ → List Slot → List Field → Bool
fitting p slots [] = true
fitting p [] (f ∷ fs) = false
fitting p (s ∷ slots) (f ∷ fs) = fits s.form p f && fitting p slots fs

-- there are no more fields than slots
pub fitting-length : (p : List ℕ) (slots : List Slot) (fs : List Field) → T (fitting p slots fs) → length fs ≤ length slots
fitting-length p slots [] t = zero-le
fitting-length p [] (f ∷ fs) t = absurd t
fitting-length p (s ∷ slots) (f ∷ fs) t =
    suc-le-suc (fitting-length p slots fs (T-and-right (fits s.form p f) (fitting p slots fs) t))

-- behind the first of each the others fit
pub fitting-rest : (p : List ℕ) (s : Slot) (slots : List Slot) (fs : List Field) → T (fitting p (s ∷ slots) fs) → T (fitting p slots (drop 1 fs))
fitting-rest p s slots [] t = tt
fitting-rest p s slots (f ∷ fs) t = T-and-right (fits s.form p f) (fitting p slots fs) t

-- the first field has the form of the slot at its place, and the others fit those behind it
pub fitting-drop : (p : List ℕ) (n : ℕ) (slots : List Slot) (f : Field) (fs : List Field)
    → fitting p (drop n slots) (f ∷ fs) ≡ (fits (get_or (map (λ (s : Slot). s.form) slots) n Barred) p f && fitting p (drop 1 (drop n slots)) fs)
unfolding fits
fitting-drop p zero [] f fs = refl
fitting-drop p zero (s ∷ slots) f fs = refl
fitting-drop p (suc n) [] f fs = refl
fitting-drop p (suc n) (s ∷ slots) f fs = fitting-drop p n slots f fs

-- ---- no field at fault

-- of two faults there is none exactly if there is neither
first_of-none : (a b : Option ℕ) → (first_of a b ≡ none) ↔ ((a ≡ none) × (b ≡ none))
unfolding first_of
first_of-none none b = ((λ e. (refl, e)), (λ h. h.1))
first_of-none (some at) b = ((λ e. absurd (some-ne-none at e)), (λ h. h.0))

-- a place by a test: there is none exactly if the test is false
pick-none : (b : Bool) (at : ℕ) → (pick b (some at) none ≡ none) ↔ (b ≡ false)
pick-none true at = ((λ e. absurd (some-ne-none at e)), (λ e. absurd (false-T true e tt)))
pick-none false at = ((λ e. refl), (λ e. refl))

module _ (p : List ℕ) (slots : List Slot) where
  -- the slots with an ID behind those that fields fill
  abbrev open_slots : ℕ → List Field → List Slot
  open_slots id before = drop (length (fields_with id before)) (slots_with id slots)

  -- behind fields before, those with each ID in use fit the slots that are open
  abbrev Fit : List Field → List Field → Type 0
  Fit before fs = (id : ℕ) → T (in_use id slots) → T (fitting p (open_slots id before) (fields_with id fs))

  module _ (before : List Field) (f : Field) (fs : List Field) where
    -- the first field, if it has the ID, fits the first slot that is open ..
    abbrev own : ℕ → Bool
    own id = not (eqb f.id id) || fits (form_for slots before f) p f

    -- .. and the others the others
    abbrev others : ℕ → Bool
    others id = fitting p (open_slots id (before ++ (f ∷ []))) (fields_with id fs)

    -- those with its own ID fit exactly if both do ..
    fitting-own : fitting p (open_slots f.id before) (fields_with f.id (f ∷ fs)) ≡ (own f.id && others f.id)
    unfolding fields_with form_for
    fitting-own =
        rw (drop-keep-snoc (λ (g : Field). eqb g.id f.id) before f (slots_with f.id slots), T_true (eqb f.id f.id) (eqb_refl f.id))
        (fitting-drop p (length (fields_with f.id before)) (slots_with f.id slots) f (fields_with f.id fs))

    -- .. and so do those with any ID
    fitting-step : (id : ℕ) → fitting p (open_slots id before) (fields_with id (f ∷ fs)) ≡ (own id && others id)
    unfolding fields_with
    fitting-step id =
        ⊎_elim
        (λ t. subst (λ (j : ℕ). fitting p (open_slots j before) (fields_with j (f ∷ fs)) ≡ (own j && others j)) (eqb→eq f.id id t) fitting-own)
        (λ e. rw (drop-keep-snoc (λ (g : Field). eqb g.id id) before f (slots_with id slots)) (rw e))
        (decide (eqb f.id id))

    -- the first is not at fault exactly if it has its form where its ID is in use
    fault-fits : (at_fault p slots before f ≡ false) ↔ (T (in_use f.id slots) → T (fits (form_for slots before f) p f))
    unfolding at_fault
    fault-fits = unless (in_use f.id slots) (fits (form_for slots before f) p f)

    -- they fit, so the first is not at fault ..
    fit-first : Fit before (f ∷ fs) → at_fault p slots before f ≡ false
    fit-first h =
        fault-fits.1
        (λ u. (implies (eqb f.id f.id) (fits (form_for slots before f) p f)).0
        (T-and-left (own f.id) (others f.id) (rw (fitting-step f.id) at (h f.id u)))
        (eqb_refl f.id))

    -- .. and those behind it fit
    fit-rest : Fit before (f ∷ fs) → Fit (before ++ (f ∷ [])) fs
    fit-rest h id u = T-and-right (own id) (others id) (rw (fitting-step id) at (h id u))

    -- the first is not at fault, and those behind it fit
    fit-cons : at_fault p slots before f ≡ false → Fit (before ++ (f ∷ [])) fs → Fit before (f ∷ fs)
    fit-cons e h id u =
        rw (fitting-step id)
        (T_and (own id) (others id)
        ((implies (eqb f.id id) (fits (form_for slots before f) p f)).1 (λ t. fault-fits.0 e (rw (eqb→eq f.id id t) u)))
        (h id u))

  -- none is at fault, so they fit
  fault_among-fit : (before fs : List Field) → fault_among p slots before fs ≡ none → Fit before fs
  unfolding fault_among fields_with
  fault_among-fit before [] e = λ id u. tt
  fault_among-fit before (f ∷ fs) e =
      pick-cases (λ o. o ≡ none → Fit before (f ∷ fs)) (at_fault p slots before f) (some f.at) (fault_among p slots (before ++ (f ∷ [])) fs)
      (λ t c. absurd (some-ne-none f.at c))
      (λ q c. fit-cons before f fs q (fault_among-fit (before ++ (f ∷ [])) fs c))
      e

  -- they fit, so none is at fault
  fit-fault_among : (before fs : List Field) → Fit before fs → fault_among p slots before fs ≡ none
  unfolding fault_among
  fit-fault_among before [] h = refl
  fit-fault_among before (f ∷ fs) h = rw (fit-first before f fs h) (fit-fault_among (before ++ (f ∷ [])) fs (fit-rest before f fs h))

  -- no field is at fault or missing exactly if those with each ID in use fit the slots with that ID, and no slot lacks its field
  pub fault_of-none : (fs : List Field)
      → (fault_of p slots fs ≡ none)
      ↔ (((id : ℕ) → T (in_use id slots) → T (fitting p (slots_with id slots) (fields_with id fs))) × (some_of lacking (filled_in slots fs) ≡ false))
  unfolding fault_of missing_at fields_with
  fault_of-none fs =
      let both = first_of-none (fault_among p slots [] fs) (missing_at p (filled_in slots fs)) in
      let full = pick-none (some_of lacking (filled_in slots fs)) (length p) in
      (λ e. (fault_among-fit [] fs (both.0 e).0, full.0 (both.0 e).1), λ h. both.1 (fit-fault_among [] fs h.0, full.1 h.1))

-- ---- slots and the fields that fill them

-- the fields with an ID behind those that slots before take
abbrev pub left_for : ℕ → List Slot → List Field → List Field
left_for id earlier fs = drop (length (slots_with id earlier)) (fields_with id fs)

-- each of them has that ID
pub every-left_for : (id : ℕ) (earlier : List Slot) (fs : List Field) → T (every (λ (f : Field). eqb f.id id) (left_for id earlier fs))
unfolding fields_with
every-left_for id earlier fs =
    every_drop (λ (f : Field). eqb f.id id) (length (slots_with id earlier)) (fields_with id fs) (every-keep (λ (f : Field). eqb f.id id) fs)

-- behind one slot more the first of them is taken, if it has the ID
pub left_for-snoc : (id : ℕ) (earlier : List Slot) (s : Slot) (fs : List Field)
    → left_for id (earlier ++ (s ∷ [])) fs ≡ pick (eqb s.id id) (drop 1 (left_for id earlier fs)) (left_for id earlier fs)
unfolding slots_with
left_for-snoc id earlier s fs = drop-keep-snoc (λ (r : Slot). eqb r.id id) earlier s (fields_with id fs)

-- the first slot is filled by the first of them
pub filled_behind-cons : (earlier : List Slot) (s : Slot) (slots : List Slot) (fs : List Field)
    → filled_behind earlier (s ∷ slots) fs ≡ record { slot = s; by = get_elem? (left_for s.id earlier fs) 0 } ∷ filled_behind (earlier ++ (s ∷ [])) slots fs
unfolding filled_behind
filled_behind-cons earlier s slots fs = rw (getElem?-drop (length (slots_with s.id earlier)) (fields_with s.id fs))

-- behind one slot more the fields left fit the slots left
pub fitting-next : (p : List ℕ) (id : ℕ) (earlier : List Slot) (s : Slot) (slots : List Slot) (fs : List Field)
    → T (fitting p (slots_with id (s ∷ slots)) (left_for id earlier fs)) → T (fitting p (slots_with id slots) (left_for id (earlier ++ (s ∷ [])) fs))
fitting-next p id earlier s slots fs t =
    rw (left_for-snoc id earlier s fs)
    (pick-cases (λ l. T (fitting p (slots_with id slots) l)) (eqb s.id id) (drop 1 (left_for id earlier fs)) (left_for id earlier fs)
    (λ u. fitting-rest p s (slots_with id slots) (left_for id earlier fs) (rw (slots_with-own id s slots u) at t))
    (λ e. rw (slots_with-other id s slots e) at t))
