-- Laws of judging a packet's fields in their order: what is known at each place of a walk that goes to the end. Assumes nothing.
use mathlib.Core.Path.{◌≡◌, refl, sym, ◌∙◌, subst}
use mathlib.Core.Bool.{true, false, ◌&&◌}
use mathlib.Core.List.{List, [], ◌∷◌, ◌++◌, append-nil, append_assoc}
use mathlib.Core.Option.{none, some}
use Prim.Native.Nat.{ℕ, ◌+◌, ◌≤◌, ◌<◌}
use native.Mathlib.Omega.{arith}
use lib.ListN.{length, get_or, set, replicate}
use lib.Dec.{T, eqb}
use borrow.Author.Tests.{eq-eqb, ne_eqb}
use Rattle.std.specs.Prelude.{Some, None, Ok, Err}
use Rattle.octets.specs.Choice.{pick, every}
use Rattle.octets.specs.Big.{big_at}
use Rattle.octets.proofs.Choice.{T-and-left, every_append}
use Rattle.sheet.specs.declared.Refusal.TheVariants.{Fields}
use Rattle.fields.specs.declared.field.Field.{Field}
use Rattle.fields.specs.Header.{first_field}
use Rattle.fields.specs.Walk.{next_at, field_right, field_at, fields_from, stop_from, fields_of}
use Rattle.fields.proofs.Laws.Walk.{next-after, right_end, fields_from-right, fields_from-wrong, stop_from-right, stop_from-whole}
use Rattle.fields.proofs.Laws.Fields.{coded, every-coded}
use Rattle.kinds.specs.declared.kind.Slot.{Slot}
use Rattle.kinds.specs.Judge.{fits, number_at, fields_with, grant_in, granted, at_fault, fault_among, missing_at, first_of, fault_of}
use Rattle.kinds.specs.Found.{places_in}
use Rattle.kinds.specs.Inner.{Walked, JudgedIs, PlacesInside, open_in, used_in, lack_in}
use Rattle.kinds.proofs.Laws.Slots.{blank}
use Rattle.kinds.proofs.Laws.Places.{places-none, inside-places, lack_in-places, open_for, fills-inside, fills-fault, fills-places, closed-fault, closed-places}

-- ---- the first Result among the fields from a place on

module _ (p : List ℕ) (at id : ℕ) where
  -- no field is left
  pub granted-end : length p ≤ at → granted p id (fields_from p at) ≡ false
  unfolding granted fields_with grant_in
  granted-end h = rw (fields_from-wrong p at (right_end p at h))

  -- the field there is the first Result
  pub granted-first : T (field_right p at) → get_or p at 0 ≡ id
      → granted p id (fields_from p at) ≡ (eqb (get_or p (at + 1) 0) 2 && eqb (big_at 2 p (at + 2)) 1)
  unfolding granted fields_with grant_in field_at number_at
  granted-first t e = rw (fields_from-right p at t, eq-eqb (get_or p at 0) id e)

  -- it is another field
  pub granted-next : T (field_right p at) → (get_or p at 0 ≡ id → ⊥) → granted p id (fields_from p at) ≡ granted p id (fields_from p (next_at p at))
  unfolding granted fields_with field_at
  granted-next t n = rw (fields_from-right p at t, ne_eqb (get_or p at 0) id n)

-- ---- the fields before a place are judged

-- none of them is at fault, and these are their places
pub record Judging (p : List ℕ) (slots : List Slot) (places : List ℕ) (at : ℕ) : Type 0 where
  pub before : List Field
  pub theirs : places ≡ places_in slots before
  pub judged : fault_among p slots [] (fields_of p) ≡ fault_among p slots before (fields_from p at)
  pub all : before ++ fields_from p at ≡ fields_of p
  pub whole : stop_from p at ≡ length p
  pub least : first_field ≤ at

-- nothing is judged yet
pub judging_first : (p : List ℕ) (slots : List Slot) → Walked p → Judging p slots (replicate (length slots) 0) first_field
unfolding fields_of
judging_first p slots w =
    record {
      before = [];
      theirs = sym (places-none slots);
      judged = refl;
      all = refl;
      whole = w.whole;
      least = omega arith;
    }

module _ {p : List ℕ} {slots : List Slot} {places : List ℕ} {at : ℕ} (j : Judging p slots places at) where
  -- they are fields of the packet
  judging-coded : T (every (coded p) j.before)
  judging-coded =
      T-and-left (every (coded p) j.before) (every (coded p) (fields_from p at))
      (rw every_append at (subst (λ (fs : List Field). T (every (coded p) fs)) (sym j.all) (every-coded p)))

  -- the places are in the packet
  judging-inside : 12 ≤ length p → PlacesInside p places
  judging-inside h = rw j.theirs (inside-places p j.before judging-coded (omega arith) slots)

  module _ (h : at < length p) where
    -- there is a field at the place
    pub judging-right : T (field_right p at)
    judging-right = stop_from-whole p at j.whole h

    -- it goes before those from the next on
    judging-fields : fields_from p at ≡ field_at p at ∷ fields_from p (next_at p at)
    judging-fields = fields_from-right p at judging-right

    -- it is not at fault: all before the next are judged
    judging-next : (places' : List ℕ) → at_fault p slots j.before (field_at p at) ≡ false → places_in slots (j.before ++ (field_at p at ∷ [])) ≡ places'
        → Judging p slots places' (next_at p at)
    unfolding fault_among
    judging-next places' e q =
        record {
          before = j.before ++ (field_at p at ∷ []);
          theirs = sym q;
          judged = j.judged ∙ rw (judging-fields, e);
          all = append_assoc j.before (field_at p at ∷ []) (fields_from p (next_at p at)) ∙ rw (← judging-fields) j.all;
          whole = sym (stop_from-right p at judging-right) ∙ j.whole;
          least = omega (arith, j.least, next-after p at);
        }

    -- it is at fault, and the first
    judged-fault : at_fault p slots j.before (field_at p at) ≡ true → JudgedIs p slots (Err Fields)
    unfolding fault_of first_of fault_among field_at
    judged-fault e = ((at, rw (j.judged, judging-fields, e)), refl)

    -- the first open slot with its ID
    judging-open : open_for slots j.before (field_at p at) ≡ open_in slots places (get_or p at 0)
    unfolding field_at
    judging-open = rw j.theirs

    module _ (i : ℕ) (e : open_in slots places (get_or p at 0) ≡ Some i) where
      -- it fills a slot that there is
      pub judging-slot : i < length slots
      judging-slot = fills-inside p slots j.before (field_at p at) judging-coded i (judging-open ∙ e)

      -- and has its form
      pub judging-fills : fits (get_or slots i blank).form p (field_at p at) ≡ true → Judging p slots (set places i at) (next_at p at)
      judging-fills q =
          judging-next (set places i at)
          (fills-fault p slots j.before (field_at p at) judging-coded i (judging-open ∙ e) ∙ rw q)
          (fills-places p slots j.before (field_at p at) judging-coded i (judging-open ∙ e) ∙ unfold field_at in rw j.theirs)

      -- and does not have it
      pub judged-wrong : fits (get_or slots i blank).form p (field_at p at) ≡ false → JudgedIs p slots (Err Fields)
      judged-wrong q = judged-fault (fills-fault p slots j.before (field_at p at) judging-coded i (judging-open ∙ e) ∙ rw q)

    module _ (e : open_in slots places (get_or p at 0) ≡ None) where
      judging-closed : at_fault p slots j.before (field_at p at) ≡ used_in slots (get_or p at 0)
      unfolding field_at
      judging-closed = closed-fault p slots j.before (field_at p at) judging-coded (judging-open ∙ e)

      -- it is a repeat
      pub judged-repeat : used_in slots (get_or p at 0) ≡ true → JudgedIs p slots (Err Fields)
      judged-repeat q = judged-fault (judging-closed ∙ q)

      -- the message has no use for it
      pub judging-skips : used_in slots (get_or p at 0) ≡ false → Judging p slots places (next_at p at)
      judging-skips q =
          judging-next places (judging-closed ∙ q)
          (closed-places p slots j.before (field_at p at) judging-coded (judging-open ∙ e) ∙ sym j.theirs)

  module _ (h : length p ≤ at) (l : first_field ≤ length p) where
    -- the end is reached: all fields are judged
    judging-all : j.before ≡ fields_of p
    judging-all = sym (append-nil j.before) ∙ rw (← fields_from-wrong p at (right_end p at h)) j.all

    -- whether one is missing
    judging-end : fault_of p slots (fields_of p) ≡ pick (lack_in slots places) (some (length p)) none
    unfolding fault_of first_of fault_among missing_at
    judging-end =
        rw (j.judged, fields_from-wrong p at (right_end p at h), ← judging-all, j.theirs, lack_in-places p j.before judging-coded slots)

    -- one is
    pub judged-lacking : lack_in slots places ≡ true → JudgedIs p slots (Err Fields)
    judged-lacking e = ((length p, judging-end ∙ rw e), refl)

    -- none is
    pub judged-right : lack_in slots places ≡ false → JudgedIs p slots (Ok places)
    judged-right e = (judging-end ∙ rw e, rw (← judging-all) j.theirs, judging-inside l)
