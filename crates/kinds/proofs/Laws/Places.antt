-- Laws of the places of fields in slots: each slot's is that of the field that fills it, so that the first open slot with a field's ID
-- is the one that the field fills next, and tells whether it is at fault. Assumes nothing.
use mathlib.Core.Path.{◌≡◌, refl, sym, ap, ◌∙◌}
use mathlib.Core.Logic.{⊎_elim}
use mathlib.Core.Bool.{Bool, true, false, not, and-true}
use mathlib.Core.List.{List, [], ◌∷◌, ◌++◌, map}
use mathlib.Core.Option.{Option, none, some}
use Prim.Native.Nat.{ℕ, zero, suc, ◌+◌, ◌≤◌, ◌<◌, zero-le, suc-le-suc}
use native.Mathlib.Nat.{zero-add}
use native.Mathlib.Numerals.{add-one}
use native.Mathlib.Omega.{arith}
use lib.ListN.{length, get_or, set, replicate, get_elem?, length-append}
use lib.Dec.{T, leb, eqb, eqb_refl, leb-zero, leb-suc-zero, leb-suc-suc, le→leb, leb→le}
use borrow.Author.Tests.{eqb-true, ne_eqb, le-leb, lt-leb}
use Rattle.std.specs.Prelude.{Some, None}
use Rattle.std.specs.Prelude.{Option as Maybe}
use Rattle.std.specs.Option.{option_map}
use Rattle.octets.specs.Choice.{pick, every, some_of}
use Rattle.octets.proofs.Choice.{T_true, decide, T_and, T-and-left, T-and-right, every-get_or}
use Rattle.octets.proofs.Lists.{getElem?-snoc, getElem?-snoc-other}
use Rattle.octets.proofs.Keep.{every-kept, keep-snoc-true, keep-snoc-false}
use Rattle.octets.proofs.Places.{eqb_comm}
use Rattle.fields.specs.declared.field.Field.{Field}
use Rattle.fields.proofs.Laws.Fields.{coded, coded_says}
use Rattle.kinds.specs.declared.kind.Form.{Form}
use Rattle.kinds.specs.declared.kind.Form.TheVariants.{Barred}
use Rattle.kinds.specs.declared.kind.Slot.{Slot}
use Rattle.kinds.specs.Judge.{fits, fields_with, slots_with, form_for, at_fault, Filled, filled_behind, filled_in, is_absent, lacking}
use Rattle.kinds.specs.Found.{place_of, places_in}
use Rattle.kinds.specs.Inner.{PlacesInside, open_in, used_in, lack_in}
use Rattle.kinds.proofs.Laws.Judging.{in_use}
use Rattle.kinds.proofs.Laws.Slots.{blank, open_in-cons, used_in-some}

-- ---- how many slots and fields have an ID

abbrev pub slot_count : ℕ → List Slot → ℕ
slot_count id slots = length (slots_with id slots)

abbrev pub field_count : ℕ → List Field → ℕ
field_count id fs = length (fields_with id fs)

module _ (id : ℕ) (slots : List Slot) (s : Slot) where
  -- one more, with one slot more that has it
  slot_count-own : eqb s.id id ≡ true → slot_count id (slots ++ (s ∷ [])) ≡ suc (slot_count id slots)
  unfolding slots_with
  slot_count-own e = ap length (keep-snoc-true (λ (r : Slot). eqb r.id id) slots s e) ∙ simp (length-append, add-one)

  -- as many, with one that has another
  slot_count-other : eqb s.id id ≡ false → slot_count id (slots ++ (s ∷ [])) ≡ slot_count id slots
  unfolding slots_with
  slot_count-other e = ap length (keep-snoc-false (λ (r : Slot). eqb r.id id) slots s e)

  -- so no fewer
  slot_count-le : slot_count id slots ≤ slot_count id (slots ++ (s ∷ []))
  slot_count-le =
      ⊎_elim
      (λ t. omega (arith, slot_count-own (T_true (eqb s.id id) t)))
      (λ e. omega (arith, slot_count-other e))
      (decide (eqb s.id id))

-- ---- the place of a slot's field

-- of a slot behind those earlier, 0 where no field fills it
abbrev pub place : List Slot → Slot → List Field → ℕ
place earlier s fs = place_of (get_elem? (fields_with s.id fs) (slot_count s.id earlier))

-- of slots behind those earlier
abbrev pub places_behind : List Slot → List Slot → List Field → List ℕ
places_behind earlier slots fs = map (λ (s : Filled). place_of s.by) (filled_behind earlier slots fs)

-- no field: no place
none-behind : (earlier slots : List Slot) → places_behind earlier slots [] ≡ replicate (length slots) 0
unfolding filled_behind fields_with
none-behind earlier [] = refl
none-behind earlier (s ∷ slots) = ap (λ (l : List ℕ). 0 ∷ l) (none-behind (earlier ++ (s ∷ [])) slots)

pub places-none : (slots : List Slot) → places_in slots [] ≡ replicate (length slots) 0
unfolding places_in filled_in
places-none slots = none-behind [] slots

-- a field is missing exactly past the last
isAbsent-getElem? : (fs : List Field) (k : ℕ) → is_absent (get_elem? fs k) ≡ leb (length fs) k
unfolding is_absent
isAbsent-getElem? [] k = sym (leb-zero k)
isAbsent-getElem? (f ∷ fs) zero = sym (leb-suc-zero (length fs))
isAbsent-getElem? (f ∷ fs) (suc k) = isAbsent-getElem? fs k ∙ sym (leb-suc-suc (length fs) k)

-- ---- the places of fields in the packet

-- no field, or one of which a test holds
abbrev if_some : (Field → Bool) → Option Field → Bool
if_some q none = true
if_some q (some f) = q f

-- the test holds of each field, so of one of them
if-some-getElem? : (q : Field → Bool) (fs : List Field) (k : ℕ) → T (every q fs) → T (if_some q (get_elem? fs k))
if-some-getElem? q [] k t = tt
if-some-getElem? q (f ∷ fs) zero t = T-and-left (q f) (every q fs) t
if-some-getElem? q (f ∷ fs) (suc k) t = if-some-getElem? q fs k (T-and-right (q f) (every q fs) t)

module _ (p : List ℕ) where
  -- no place is no field
  absent-place : (o : Option Field) → T (if_some (coded p) o) → eqb (place_of o) 0 ≡ is_absent o
  unfolding is_absent
  absent-place none t = refl
  absent-place (some f) t = ne_eqb f.at 0 (λ e. omega (arith, (coded_says p f t).above))

  -- four octets stand at the place
  inside-place : 4 ≤ length p → (o : Option Field) → T (if_some (coded p) o) → T (leb (place_of o + 4) (length p))
  inside-place h none t = le→leb 4 (length p) h
  inside-place h (some f) t = (coded_says p f t).word

  module _ (fs : List Field) (t : T (every (coded p) fs)) where
    -- the field in a slot is one of them
    coded_by : (id k : ℕ) → T (if_some (coded p) (get_elem? (fields_with id fs) k))
    unfolding fields_with
    coded_by id k =
        if-some-getElem? (coded p) (fields_with id fs) k (every-kept (λ (f : Field). eqb f.id id) (coded p) fs t)

    -- a slot is open exactly if no field fills it
    place-absent : (earlier : List Slot) (s : Slot) → eqb (place earlier s fs) 0 ≡ is_absent (get_elem? (fields_with s.id fs) (slot_count s.id earlier))
    place-absent earlier s =
        absent-place (get_elem? (fields_with s.id fs) (slot_count s.id earlier)) (coded_by s.id (slot_count s.id earlier))

    -- that is, if no more fields have its ID than slots before it
    place-open : (earlier : List Slot) (s : Slot) (id : ℕ) → s.id ≡ id → eqb (place earlier s fs) 0 ≡ leb (field_count id fs) (slot_count id earlier)
    place-open earlier s id e =
        place-absent earlier s
        ∙ isAbsent-getElem? (fields_with s.id fs) (slot_count s.id earlier)
        ∙ ap (λ (i : ℕ). leb (field_count i fs) (slot_count i earlier)) e

    lack_in-behind : (earlier slots : List Slot) → lack_in slots (places_behind earlier slots fs) ≡ some_of lacking (filled_behind earlier slots fs)
    unfolding filled_behind lacking
    lack_in-behind earlier [] = refl
    lack_in-behind earlier (s ∷ slots) = rw (place-absent earlier s, lack_in-behind (earlier ++ (s ∷ [])) slots)

    -- a slot that must be filled is open exactly if a field is missing
    pub lack_in-places : (slots : List Slot) → lack_in slots (places_in slots fs) ≡ some_of lacking (filled_in slots fs)
    unfolding places_in filled_in
    lack_in-places slots = lack_in-behind [] slots

    inside-behind : 4 ≤ length p → (earlier slots : List Slot) → T (every (λ (a : ℕ). leb (a + 4) (length p)) (places_behind earlier slots fs))
    unfolding filled_behind
    inside-behind h earlier [] = tt
    inside-behind h earlier (s ∷ slots) =
        T_and (leb (place earlier s fs + 4) (length p)) (every (λ (a : ℕ). leb (a + 4) (length p)) (places_behind (earlier ++ (s ∷ [])) slots fs))
        (inside-place h (get_elem? (fields_with s.id fs) (slot_count s.id earlier)) (coded_by s.id (slot_count s.id earlier)))
        (inside-behind h (earlier ++ (s ∷ [])) slots)

    -- four octets stand at each place
    pub inside-places : 4 ≤ length p → (slots : List Slot) → PlacesInside p (places_in slots fs)
    unfolding PlacesInside places_in filled_in
    inside-places h slots = inside-behind h [] slots

-- .. at any of them
pub place_inside : (p places : List ℕ) (i : ℕ) → PlacesInside p places → i < length places → get_or places i 0 + 4 ≤ length p
unfolding PlacesInside
place_inside p places i t h =
    leb→le (get_or places i 0 + 4) (length p) (every-get_or (λ (a : ℕ). leb (a + 4) (length p)) places i 0 t h)

-- ---- one field more

module _ (fs : List Field) (f : Field) where
  -- behind the others
  abbrev more : List Field
  more = fs ++ (f ∷ [])

  -- it goes behind the others with its ID
  fields_with-own : fields_with f.id more ≡ fields_with f.id fs ++ (f ∷ [])
  unfolding fields_with
  fields_with-own = keep-snoc-true (λ (g : Field). eqb g.id f.id) fs f (T_true (eqb f.id f.id) (eqb_refl f.id))

  -- and not behind those with another
  fields_with-other : (id : ℕ) → eqb id f.id ≡ false → fields_with id more ≡ fields_with id fs
  unfolding fields_with
  fields_with-other id e = keep-snoc-false (λ (g : Field). eqb g.id id) fs f (eqb_comm f.id id ∙ e)

  -- it fills the slot that as many slots with its ID go before as fields
  place-own : (earlier : List Slot) (s : Slot) → eqb s.id f.id ≡ true → field_count f.id fs ≡ slot_count f.id earlier → place earlier s more ≡ f.at
  place-own earlier s e n = rw (eqb-true s.id f.id e, ← n, fields_with-own, getElem?-snoc (fields_with f.id fs) f)

  -- no other slot with its ID
  place-past : (earlier : List Slot) (s : Slot) → eqb s.id f.id ≡ true → (field_count f.id fs ≡ slot_count f.id earlier → ⊥)
      → place earlier s more ≡ place earlier s fs
  place-past earlier s e n =
      rw (eqb-true s.id f.id e, fields_with-own, getElem?-snoc-other (fields_with f.id fs) f (slot_count f.id earlier) n)

  -- and none with another
  place_other : (earlier : List Slot) (s : Slot) → eqb s.id f.id ≡ false → place earlier s more ≡ place earlier s fs
  place_other earlier s e = rw (fields_with-other s.id e)

  -- behind the slot that it fills all is as before
  places-past : (earlier slots : List Slot) → field_count f.id fs < slot_count f.id earlier → places_behind earlier slots more ≡ places_behind earlier slots fs
  unfolding filled_behind
  places-past earlier [] h = refl
  places-past earlier (s ∷ slots) h =
      let rest = places-past (earlier ++ (s ∷ [])) slots (omega (arith, slot_count-le f.id earlier s)) in
      ⊎_elim
      (λ t. cc (rest, place-past earlier s (T_true (eqb s.id f.id) t) (λ e. omega arith)))
      (λ e. cc (rest, place_other earlier s e))
      (decide (eqb s.id f.id))

-- ---- what the first open slot with a field's ID says

module _ (fs : List Field) (f : Field) where
  -- the form of the slot with its ID behind m others
  abbrev form_at : List Slot → ℕ → Form
  form_at slots m = get_or (map (λ (s : Slot). s.form) (slots_with f.id slots)) m Barred

  -- of slots behind those earlier: m of those with its ID are filled, and it fills the i-th slot
  record Filling (earlier slots : List Slot) (m i : ℕ) : Type 0 where
    pub inside : i < length slots
    pub used : in_use f.id slots ≡ true
    pub form : form_at slots m ≡ (get_or slots i blank).form
    pub places : places_behind earlier slots (fs ++ (f ∷ [])) ≡ set (places_behind earlier slots fs) i f.at

  -- there are no more than m
  record Closed (earlier slots : List Slot) (m : ℕ) : Type 0 where
    pub form : form_at slots m ≡ Barred
    pub places : places_behind earlier slots (fs ++ (f ∷ [])) ≡ places_behind earlier slots fs

  abbrev Means : List Slot → List Slot → ℕ → Maybe ℕ → Type 0
  Means earlier slots m (Some i) = Filling earlier slots m i
  Means earlier slots m None = Closed earlier slots m

  module _ (earlier : List Slot) (s : Slot) (slots : List Slot) where
    -- the first slot has its ID and is open
    means-open : eqb s.id f.id ≡ true → field_count f.id fs ≡ slot_count f.id earlier → Means earlier (s ∷ slots) 0 (Some 0)
    unfolding filled_behind slots_with
    means-open e n =
        let one = slot_count-own f.id earlier s e in
        record {
          inside = suc-le-suc zero-le;
          used = rw e;
          form = rw e;
          places = cc (place-own fs f earlier s e n, places-past fs f (earlier ++ (s ∷ [])) slots (omega arith));
        }

    -- it has its ID and is filled
    means-again : (m : ℕ) (u : Maybe ℕ) → eqb s.id f.id ≡ true → (field_count f.id fs ≡ slot_count f.id earlier → ⊥)
        → Means (earlier ++ (s ∷ [])) slots m u → Means earlier (s ∷ slots) (suc m) (option_map suc u)
    unfolding filled_behind slots_with
    means-again m (Some i) e n h =
        record {
          inside = suc-le-suc h.inside;
          used = rw e;
          form = rw e h.form;
          places = cc (place-past fs f earlier s e n, h.places);
        }
    means-again m None e n h = record { form = rw e h.form; places = cc (place-past fs f earlier s e n, h.places) }

    -- so it is open exactly if none is filled
    means-own : (m : ℕ) (u : Maybe ℕ) → eqb s.id f.id ≡ true → field_count f.id fs ≡ slot_count f.id earlier + m
        → ((k : ℕ) → field_count f.id fs ≡ slot_count f.id (earlier ++ (s ∷ [])) + k → Means (earlier ++ (s ∷ [])) slots k u)
        → Means earlier (s ∷ slots) m (pick (leb (field_count f.id fs) (slot_count f.id earlier)) (Some 0) (option_map suc u))
    means-own zero u e n rest =
        rw (le-leb (field_count f.id fs) (slot_count f.id earlier) (omega arith)) (means-open e (omega arith))
    means-own (suc m) u e n rest =
        rw (lt-leb (field_count f.id fs) (slot_count f.id earlier) (omega arith))
        (means-again m u e (λ q. omega arith) (rest m (omega (arith, slot_count-own f.id earlier s e))))

    -- it has another
    means-later : (m : ℕ) (u : Maybe ℕ) → eqb s.id f.id ≡ false → Means (earlier ++ (s ∷ [])) slots m u → Means earlier (s ∷ slots) m (option_map suc u)
    unfolding filled_behind slots_with
    means-later m (Some i) e h =
        record {
          inside = suc-le-suc h.inside;
          used = rw e h.used;
          form = rw e h.form;
          places = cc (place_other fs f earlier s e, h.places);
        }
    means-later m None e h = record { form = rw e h.form; places = cc (place_other fs f earlier s e, h.places) }

  module _ (p : List ℕ) (t : T (every (coded p) fs)) where
    means-open_in : (slots earlier : List Slot) (m : ℕ) → field_count f.id fs ≡ slot_count f.id earlier + m
        → Means earlier slots m (open_in slots (places_behind earlier slots fs) f.id)
    unfolding filled_behind slots_with
    means-open_in [] earlier m n = record { form = refl; places = refl }
    means-open_in (s ∷ slots) earlier m n =
        let next = open_in slots (places_behind (earlier ++ (s ∷ [])) slots fs) f.id in
        let rest = means-open_in slots (earlier ++ (s ∷ [])) in
        rw (open_in-cons s slots (place earlier s fs) (places_behind (earlier ++ (s ∷ [])) slots fs) f.id)
        (⊎_elim
        (λ own.
        let e = T_true (eqb s.id f.id) own in
        rw (e, place-open p fs t earlier s f.id (eqb-true s.id f.id e)) (means-own earlier s slots m next e n rest))
        (λ e. rw e (means-later earlier s slots m next e (rest m (n ∙ rw (slot_count-other f.id earlier s e)))))
        (decide (eqb s.id f.id)))

-- the first open slot for a field behind others
abbrev pub open_for : List Slot → List Field → Field → Maybe ℕ
open_for slots fs f = open_in slots (places_in slots fs) f.id

module _ (p : List ℕ) (slots : List Slot) (fs : List Field) (f : Field) (t : T (every (coded p) fs)) where
  open_means : (u : Maybe ℕ) → open_for slots fs f ≡ u → Means fs f [] slots (field_count f.id fs) u
  unfolding places_in filled_in slots_with
  open_means u e = rw e at (means-open_in fs f p t slots [] (field_count f.id fs) (sym (zero-add (field_count f.id fs))))

  module _ (i : ℕ) (e : open_for slots fs f ≡ Some i) where
    -- there is that slot
    pub fills-inside : i < length slots
    fills-inside = (open_means (Some i) e).inside

    -- it is at fault exactly if it does not have the slot's form
    pub fills-fault : at_fault p slots fs f ≡ not (fits (get_or slots i blank).form p f)
    unfolding at_fault form_for
    fills-fault = rw ((open_means (Some i) e).used, (open_means (Some i) e).form)

    -- its place is the slot's
    pub fills-places : places_in slots (fs ++ (f ∷ [])) ≡ set (places_in slots fs) i f.at
    unfolding places_in filled_in
    fills-places = (open_means (Some i) e).places

  -- none: it is at fault exactly if the message has a use for it, ..
  module _ (e : open_for slots fs f ≡ None) where
    pub closed-fault : at_fault p slots fs f ≡ used_in slots f.id
    unfolding at_fault form_for fits
    closed-fault = rw (used_in-some slots f.id, (open_means None e).form, and-true)

    -- .. and has no place
    pub closed-places : places_in slots (fs ++ (f ∷ [])) ≡ places_in slots fs
    unfolding places_in filled_in
    closed-places = (open_means None e).places
