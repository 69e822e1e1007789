-- What a row of the table allows is what fills its slot: judging accepts fields and values exactly if the rows allow an arrangement of the
-- useful fields, with those values. Row by row: a slot takes the first field with its ID that the slots before leave. Assumes nothing.
use mathlib.Core.Path.{◌≡◌, refl, sym, ap, ◌∙◌, subst}
use mathlib.Core.Logic.{⊎_elim}
use mathlib.Core.Bool.{Bool, true, false, not, ◌&&◌, ◌||◌, and-true, and-false}
use mathlib.Core.List.{List, [], ◌∷◌, ◌++◌, map}
use mathlib.Core.Option.{Option, none, some}
use Prim.Native.Nat.{ℕ, suc}
use lib.ListN.{length, get_elem?, take, drop}
use lib.Seq.{take-nil, take_all}
use lib.Dec.{T, eqb, eqb→eq, eqb_refl}
use borrow.Author.Tests.{not-true, not-false}
use Rattle.octets.specs.Choice.{pick, every, some_of}
use Rattle.octets.proofs.Choice.{or-false-both, T_true, true-T, decide, T_and, T-and-left, T-and-right, T-or-left, T-or-right, pick-cases}
use Rattle.octets.proofs.Keep.{keep-keep}
use Rattle.fields.specs.declared.field.Field.{Field}
use Rattle.fields.specs.Walk.{fields_of}
use Rattle.kinds.specs.declared.kind.Form.TheVariants.{Barred}
use Rattle.kinds.specs.declared.kind.Slot.{Slot}
use Rattle.kinds.specs.Kind.{Need, always, maybe, unless_granted, Row, row, settled, may_lack, may_have}
use Rattle.kinds.specs.Judge.{Held, fits, fields_with, slots_with, Filled, filled_behind, filled_in, is_absent, lacking, fault_of, held_by}
use Rattle.packet.specs.Claims.{useful, Arranged, present, Allows, AllowsAll}
use Rattle.kinds.proofs.Laws.Sound.{Sound, AllSound, fault-sound}
use Rattle.kinds.proofs.Laws.Judging.{fitting, fitting-length, slots_with-own, slots_with-other, in_use, slots_with-none, fault_of-none, left_for, every-left_for, left_for-snoc, filled_behind-cons}

-- ---- a row and its slot

-- the slot has the row's ID, its form where the field may be there, and must be filled where it may not be absent
settled_is : (grant : Bool) (r : Row)
    → settled grant r ≡ record { id = r.id; form = pick (may_have grant r.need) r.form Barred; must = not (may_lack grant r.need) }
unfolding settled may_have may_lack
settled_is grant r = by-need grant r.need
  where
    by-need : (g : Bool) (need : Need)
        → settled g (row r.id r.form need) ≡ record { id = r.id; form = pick (may_have g need) r.form Barred; must = not (may_lack g need) }
    by-need g always = refl
    by-need g maybe = refl
    by-need true unless_granted = refl
    by-need false unless_granted = refl

-- so it has the row's ID
settled-id : (grant : Bool) (r : Row) → (settled grant r).id ≡ r.id
settled-id grant r = ap (λ (s : Slot). s.id) (settled_is grant r)

-- a field fits the slot exactly if it may be there and has the row's form
settled-fits : (grant : Bool) (r : Row) (p : List ℕ) (f : Field) → fits (settled grant r).form p f ≡ (may_have grant r.need && fits r.form p f)
unfolding fits
settled-fits grant r p f =
    rw (settled_is grant r)
    (pick-cases (λ form. fits form p f ≡ (may_have grant r.need && fits r.form p f)) (may_have grant r.need) r.form Barred
    (λ t. rw (T_true (may_have grant r.need) t))
    (λ e. rw e))

-- an ID is that of a row
abbrev pub uses : ℕ → List Row → Bool
uses id rows = some_of (λ (r : Row). eqb r.id id) rows

-- .. exactly if it is that of a slot
in_use-settled : (grant : Bool) (id : ℕ) (rows : List Row) → in_use id (map (settled grant) rows) ≡ uses id rows
in_use-settled grant id [] = refl
in_use-settled grant id (r ∷ rows) = rw (settled_is grant r, in_use-settled grant id rows)

-- ---- rows in order

-- the field may not be absent
abbrev is_always : Need → Bool
is_always always = true
is_always maybe = false
is_always unless_granted = false

-- no row has the ID of one before it that may be absent
abbrev pub orderly : List Row → Bool
orderly [] = true
orderly (r ∷ rows) = (is_always r.need || not (uses r.id rows)) && orderly rows

-- the rows behind the first are in order
pub orderly_rest : (r : Row) (rows : List Row) → T (orderly (r ∷ rows)) → T (orderly rows)
orderly_rest r rows t = T-and-right (is_always r.need || not (uses r.id rows)) (orderly rows) t

-- ---- useful fields and fields present, ID by ID

-- of the useful fields those with an ID in use are those of all, and none has another
fields_with-useful : (rows : List Row) (id : ℕ) (fs : List Field) → fields_with id (useful rows fs) ≡ pick (uses id rows) (fields_with id fs) []
unfolding fields_with useful
fields_with-useful rows id fs =
    keep-keep (λ (f : Field). eqb f.id id) (λ (f : Field). uses f.id rows) (uses id rows) (λ f t. ap (λ (i : ℕ). uses i rows) (eqb→eq f.id id t)) fs

-- so fields that are arranged as the useful ones have those of all with an ID in use
pub arranged_used : (rows : List Row) (fs gs : List Field) → Arranged (useful rows fs) gs → (id : ℕ) → T (uses id rows) → fields_with id fs ≡ fields_with id gs
arranged_used rows fs gs a id u = sym (rw (T_true (uses id rows) u) at (fields_with-useful rows id fs)) ∙ a id

-- no field, or one with the ID
abbrev has_id : ℕ → Option Field → Bool
has_id id none = true
has_id id (some f) = eqb f.id id

-- one with another ID does not count
present-other : (id other : ℕ) (o : Option Field) (os : List (Option Field)) → T (has_id other o) → eqb other id ≡ false
    → fields_with id (present (o ∷ os)) ≡ fields_with id (present os)
unfolding fields_with present
present-other id other none os t e = refl
present-other id other (some f) os t e = rw (eqb→eq f.id other t, e)

-- one with the ID goes before the others
pub present-own : (id : ℕ) (f : Field) (os : List (Option Field)) → T (eqb f.id id) → fields_with id (present (some f ∷ os)) ≡ f ∷ fields_with id (present os)
unfolding fields_with present
present-own id f os t = rw (T_true (eqb f.id id) t)

-- ---- slots that are filled

-- the field that fills a slot has its ID
first-has_id : (id : ℕ) (xs : List Field) → T (every (λ (f : Field). eqb f.id id) xs) → T (has_id id (get_elem? xs 0))
first-has_id id [] t = tt
first-has_id id (f ∷ xs) t = T-and-left (eqb f.id id) (every (λ (g : Field). eqb g.id id) xs) t

-- the fields that fill slots
abbrev fillers : List Filled → List (Option Field)
fillers filled = map (λ (s : Filled). s.by) filled

-- the first of the fields left, and as many of the others
present-first : (id n : ℕ) (xs : List Field) (os : List (Option Field)) → T (every (λ (f : Field). eqb f.id id) xs)
    → fields_with id (present os) ≡ take n (drop 1 xs) → fields_with id (present (get_elem? xs 0 ∷ os)) ≡ take (suc n) xs
present-first id n [] os t e = unfold present in (e ∙ take-nil n)
present-first id n (f ∷ xs) os t e =
    present-own id f os (T-and-left (eqb f.id id) (every (λ (g : Field). eqb g.id id) xs) t) ∙ ap (λ (l : List Field). f ∷ l) e

-- of the fields that fill slots, those with an ID are as many of those left as there are slots
present-filled : (id : ℕ) (earlier slots : List Slot) (fs : List Field)
    → fields_with id (present (fillers (filled_behind earlier slots fs))) ≡ take (length (slots_with id slots)) (left_for id earlier fs)
present-filled id earlier [] fs = unfold filled_behind present fields_with slots_with in refl
present-filled id earlier (s ∷ slots) fs =
    let more = earlier ++ (s ∷ []) in
    let xs = left_for s.id earlier fs in
    let os = fillers (filled_behind more slots fs) in
    let next = rw (left_for-snoc id earlier s fs) at (present-filled id more slots fs) in
    rw (filled_behind-cons earlier s slots fs)
    (⊎_elim
    (λ t. rw (ap (λ (i : ℕ). left_for i earlier fs) (eqb→eq s.id id t), slots_with-own id s slots t)
    (present-first id (length (slots_with id slots)) (left_for id earlier fs) os (every-left_for id earlier fs) (rw (T_true (eqb s.id id) t) at next)))
    (λ e. rw (present-other id s.id (get_elem? xs 0) os (first-has_id s.id xs (every-left_for s.id earlier fs)) e, slots_with-other id s slots e) (rw e at next))
    (decide (eqb s.id id)))

-- ---- what a row allows is what fills its slot

module _ (p : List ℕ) (grant : Bool) where
  -- the slots of rows
  abbrev slots : List Row → List Slot
  slots rows = map (settled grant) rows

  -- these slots, behind those earlier, each with the field that fills it
  abbrev filled_rows : List Field → List Slot → List Row → List Filled
  filled_rows fs earlier rows = filled_behind earlier (slots rows) fs

  -- the slot of a row with the field that fills it
  abbrev filled : Row → Option Field → Filled
  filled r o = record { slot = settled grant r; by = o }

  -- no field, or one that fits the slot
  abbrev fits_in : Row → Option Field → Bool
  fits_in r none = true
  fits_in r (some f) = fits (settled grant r).form p f

  -- an empty slot lacks a field exactly if that may not be absent
  lacking-none : (r : Row) → lacking (filled r none) ≡ not (may_lack grant r.need)
  unfolding lacking is_absent
  lacking-none r = rw (settled_is grant r, and-true)

  -- a field with the row's ID that fits the slot, or none that it lacks; and the value that the message holds there
  record Fills (r : Row) (o : Option Field) (v : Held) : Type 0 where
    own : T (has_id r.id o)
    fit : T (fits_in r o)
    full : lacking (filled r o) ≡ false
    held : held_by p (filled r o) ≡ v

  -- what the row allows fills the slot
  allows-fills : (r : Row) (o : Option Field) (v : Held) → Allows p grant r o v → Fills r o v
  unfolding lacking is_absent held_by
  allows-fills r none v a =
      record { own = tt; fit = tt; full = rw (lacking-none r, T_true (may_lack grant r.need) a.0); held = sym a.1 }
  allows-fills r (some f) v a =
      record {
        own = rw a.1 (eqb_refl r.id);
        fit = rw (settled-fits grant r p f) (T_and (may_have grant r.need) (fits r.form p f) a.0 a.2);
        full = and-false (settled grant r).must;
        held = rw (settled_is grant r, T_true (may_have grant r.need) a.0) (sym a.3);
      }

  -- the first of the fields left fits the first slot, and the others fit the others, so all fit
  fitting-cons : (r : Row) (behind : List Slot) (xs : List Field) → T (fits_in r (get_elem? xs 0)) → T (fitting p behind (drop 1 xs)) → T (fitting p (settled grant r ∷ behind) xs)
  fitting-cons r behind [] t u = tt
  fitting-cons r behind (f ∷ xs) t u = T_and (fits (settled grant r).form p f) (fitting p behind xs) t u

  -- ---- what judging accepts is allowed

  -- behind slots earlier, the first row's slot takes the first of the fields left with its ID
  filled-cons : (earlier : List Slot) (r : Row) (rows : List Row) (fs : List Field)
      → filled_rows fs earlier (r ∷ rows)
      ≡ filled r (get_elem? (left_for r.id earlier fs) 0) ∷ filled_rows fs (earlier ++ (settled grant r ∷ [])) rows
  filled-cons earlier r rows fs =
      filled_behind-cons earlier (settled grant r) (slots rows) fs
      ∙ ap (λ (id : ℕ). filled r (get_elem? (left_for id earlier fs) 0) ∷ filled_rows fs (earlier ++ (settled grant r ∷ [])) rows) (settled-id grant r)

  -- what fills a slot soundly its row allows
  sound-allows : (r : Row) (o : Option Field) → Sound p (settled grant r) o → Allows p grant r o (held_by p (filled r o))
  unfolding held_by
  sound-allows r none t =
      (true-T (may_lack grant r.need) (not-false (may_lack grant r.need) (sym (ap (λ (s : Slot). s.must) (settled_is grant r)) ∙ t)), refl)
  sound-allows r (some f) t =
      let both : T (may_have grant r.need && fits r.form p f) = rw (settled-fits grant r p f) at t.1 in
      let may = T-and-left (may_have grant r.need) (fits r.form p f) both in (
        may,
        eqb→eq f.id (settled grant r).id t.2 ∙ settled-id grant r,
        T-and-right (may_have grant r.need) (fits r.form p f) both,
        rw (settled_is grant r, T_true (may_have grant r.need) may),
      )

  -- slots that are filled soundly their rows allow
  sound-allowed : (fs : List Field) (rows : List Row) (earlier : List Slot) → AllSound p (filled_rows fs earlier rows)
      → AllowsAll p grant rows (fillers (filled_rows fs earlier rows)) (map (held_by p) (filled_rows fs earlier rows))
  unfolding filled_behind
  sound-allowed fs [] earlier a = tt
  sound-allowed fs (r ∷ rows) earlier a =
      let s = settled grant r in
      (sound-allows r (get_elem? (fields_with s.id fs) (length (slots_with s.id earlier))) a.0, sound-allowed fs rows (earlier ++ (s ∷ [])) a.1)

  -- ---- what is allowed judging accepts

  -- what holds of no rows, and of a row and those behind it where it holds of those, holds wherever the rows allow the fields
  pub allowed-ind {ℓ} : (P : List Row → List (Option Field) → List Held → Type ℓ) → P [] [] []
      → ((r : Row) (rows : List Row) (o : Option Field) (os : List (Option Field)) (v : Held) (values : List Held)
      → Allows p grant r o v → AllowsAll p grant rows os values → P rows os values → P (r ∷ rows) (o ∷ os) (v ∷ values))
      → (rows : List Row) (os : List (Option Field)) (values : List Held) → AllowsAll p grant rows os values → P rows os values
  allowed-ind P z step [] [] [] a = z
  allowed-ind P z step [] [] (v ∷ values) a = absurd a
  allowed-ind P z step [] (o ∷ os) values a = absurd a
  allowed-ind P z step (r ∷ rows) [] values a = absurd a
  allowed-ind P z step (r ∷ rows) (o ∷ os) [] a = absurd a
  allowed-ind P z step (r ∷ rows) (o ∷ os) (v ∷ values) a =
      step r rows o os v values a.0 a.1 (allowed-ind P z step rows os values a.1)

  -- no field has an ID that no row has
  allowed-none : (id : ℕ) (rows : List Row) (os : List (Option Field)) (values : List Held) → AllowsAll p grant rows os values
      → uses id rows ≡ false → fields_with id (present os) ≡ []
  allowed-none id =
      allowed-ind (λ rows os values. uses id rows ≡ false → fields_with id (present os) ≡ [])
      (λ e. unfold fields_with present in refl)
      (λ r rows o os v values a rest ih e.
      let both = or-false-both (eqb r.id id) (uses id rows) e in
      present-other id r.id o os (allows-fills r o v a).own both.0 ∙ ih both.1)

  -- a row that may lack its field has no row with its ID behind it
  pub orderly-lack : (r : Row) (rows : List Row) → T (orderly (r ∷ rows)) → T (may_lack grant r.need) → uses r.id rows ≡ false
  unfolding may_lack
  orderly-lack r rows t =
      by-need r.need (T-and-left (is_always r.need || not (uses r.id rows)) (orderly rows) t)
    where
      by-need : (need : Need) → T (is_always need || not (uses r.id rows)) → T (may_lack grant need) → uses r.id rows ≡ false
      by-need always u l = absurd l
      by-need maybe u l = not-true (uses r.id rows) (T_true (not (uses r.id rows)) u)
      by-need unless_granted u l = not-true (uses r.id rows) (T_true (not (uses r.id rows)) u)

  -- the first field with the row's ID is the row's, and the others are those of the rows behind it
  pub first-allowed : (r : Row) (rows : List Row) (o : Option Field) (os : List (Option Field)) (v : Held) (values : List Held)
      → T (orderly (r ∷ rows)) → Allows p grant r o v → AllowsAll p grant rows os values
      → (get_elem? (fields_with r.id (present (o ∷ os))) 0 ≡ o) × (drop 1 (fields_with r.id (present (o ∷ os))) ≡ fields_with r.id (present os))
  unfolding present
  first-allowed r rows none os v values t a rest =
      let e = allowed-none r.id rows os values rest (orderly-lack r rows t a.0) in
      (rw e, rw e)
  first-allowed r rows (some f) os v values t a rest =
      let e = present-own r.id f os (allows-fills r (some f) v a).own in
      (rw e, rw e)

  module _ (r : Row) (rows : List Row) (o : Option Field) (os : List (Option Field)) (v : Held) (values : List Held)
      (t : T (orderly (r ∷ rows))) (a : Allows p grant r o v) (rest : AllowsAll p grant rows os values) (id : ℕ) where
    -- the others with any ID are those of the rows behind it
    present-behind : pick (eqb r.id id) (drop 1 (fields_with id (present (o ∷ os)))) (fields_with id (present (o ∷ os))) ≡ fields_with id (present os)
    present-behind =
        pick-cases (λ l. l ≡ fields_with id (present os)) (eqb r.id id) (drop 1 (fields_with id (present (o ∷ os)))) (fields_with id (present (o ∷ os)))
        (λ u. subst (λ (i : ℕ). drop 1 (fields_with i (present (o ∷ os))) ≡ fields_with i (present os)) (eqb→eq r.id id u) (first-allowed r rows o os v values t a rest).1)
        (λ e. present-other id r.id o os (allows-fills r o v a).own e)

    -- they fit the slots of the rows where those behind do
    fitting-behind : T (fitting p (slots_with id (slots rows)) (fields_with id (present os)))
        → T (fitting p (slots_with id (slots (r ∷ rows))) (fields_with id (present (o ∷ os))))
    fitting-behind h =
        let back = subst (λ (l : List Field). T (fitting p (slots_with id (slots rows)) l)) (sym present-behind) h in
        ⊎_elim
        (λ u. rw (slots_with-own id (settled grant r) (slots rows) (rw (settled-id grant r) u))
        (fitting-cons r (slots_with id (slots rows)) (fields_with id (present (o ∷ os)))
        (rw (← eqb→eq r.id id u, (first-allowed r rows o os v values t a rest).0) (allows-fills r o v a).fit)
        (rw (T_true (eqb r.id id) u) at back)))
        (λ e. rw (slots_with-other id (settled grant r) (slots rows) (rw (settled-id grant r) e)) (rw e at back))
        (decide (eqb r.id id))

  -- rows in order allow fields that fit their slots
  allowed-fitting : (id : ℕ) (rows : List Row) (os : List (Option Field)) (values : List Held) → AllowsAll p grant rows os values
      → T (orderly rows) → T (fitting p (slots_with id (slots rows)) (fields_with id (present os)))
  allowed-fitting id =
      allowed-ind (λ rows os values. T (orderly rows) → T (fitting p (slots_with id (slots rows)) (fields_with id (present os))))
      (λ t. unfold fields_with present in tt)
      (λ r rows o os v values a rest ih t. fitting-behind r rows o os v values t a rest id (ih (orderly_rest r rows t)))

  -- behind slots earlier, no slot of these rows lacks its field, and the message holds these values
  abbrev Accepted : List Field → List Slot → List Row → List Held → Type 0
  Accepted fs earlier rows values =
      (some_of lacking (filled_rows fs earlier rows) ≡ false)
      × (map (held_by p) (filled_rows fs earlier rows) ≡ values)

  -- rows in order allow fields that fill their slots, where these are those left
  allowed-accepted : (fs : List Field) (rows : List Row) (os : List (Option Field)) (values : List Held) → AllowsAll p grant rows os values
      → T (orderly rows) → (earlier : List Slot) → ((id : ℕ) → T (uses id rows) → left_for id earlier fs ≡ fields_with id (present os))
      → Accepted fs earlier rows values
  allowed-accepted fs =
      allowed-ind
      (λ rows os values. T (orderly rows) → (earlier : List Slot) → ((id : ℕ) → T (uses id rows) → left_for id earlier fs ≡ fields_with id (present os))
      → Accepted fs earlier rows values)
      (λ t earlier h. unfold filled_behind in (refl, refl))
      (λ r rows o os v values a rest ih t earlier h.
      let more = earlier ++ (settled grant r ∷ []) in
      let first : get_elem? (left_for r.id earlier fs) 0 ≡ o =
      rw (h r.id (T-or-left (eqb r.id r.id) (uses r.id rows) (eqb_refl r.id))) (first-allowed r rows o os v values t a rest).0 in
      let fill = allows-fills r o v a in
      let next =
      ih (orderly_rest r rows t) more
      (λ id u. rw (left_for-snoc id earlier (settled grant r) fs, settled-id grant r, h id (T-or-right (eqb r.id id) (uses id rows) u)) (present-behind r rows o os v values t a rest id)) in
      rw (filled-cons earlier r rows fs, first) (rw fill.full next.0, rw (fill.held, next.1)))

-- ---- judging

-- no field of the packet is at fault or missing, and the message holds these values
abbrev pub Judged : List ℕ → List Slot → List Held → Type 0
Judged p slots values = (fault_of p slots (fields_of p) ≡ none) × (map (held_by p) (filled_in slots (fields_of p)) ≡ values)

module _ (p : List ℕ) (rows : List Row) (grant : Bool) (values : List Held) where
  -- the fields of the packet
  abbrev fs : List Field
  fs = fields_of p

  -- fields that fit the slots with their ID are no more than they
  useful-taken : (id : ℕ) → (T (uses id rows) → T (fitting p (slots_with id (map (settled grant) rows)) (fields_with id fs)))
      → fields_with id (useful rows fs) ≡ take (length (slots_with id (map (settled grant) rows))) (fields_with id fs)
  useful-taken id h =
      let slots = slots_with id (map (settled grant) rows) in
      rw (fields_with-useful rows id fs)
      (pick-cases (λ l. l ≡ take (length slots) (fields_with id fs)) (uses id rows) (fields_with id fs) []
      (λ u. sym (take_all (length slots) (fields_with id fs) (fitting-length p slots (fields_with id fs) (h u))))
      (λ e. rw (slots_with-none id (map (settled grant) rows) (in_use-settled grant id rows ∙ e))))

  -- the rows allow an arrangement of the useful fields, with these values
  abbrev pub Allowed : Type 0
  Allowed = (chosen : List (Option Field)) × AllowsAll p grant rows chosen values × Arranged (useful rows fs) (present chosen)

  -- what judging accepts is allowed
  pub judged-allowed : Judged p (map (settled grant) rows) values → Allowed
  unfolding slots_with filled_in
  judged-allowed j =
      let slots = map (settled grant) rows in
      let right = (fault_of-none p slots fs).0 j.0 in (
        fillers (filled_behind [] slots fs),
        rw j.1 at (sound-allowed p grant fs rows [] (fault-sound p slots j.0)),
        λ id. useful-taken id (λ u. right.0 id (rw (in_use-settled grant id rows) u)) ∙ sym (present-filled id [] slots fs),
      )

  -- what is allowed judging accepts, where the rows are in order
  pub allowed-judged : T (orderly rows) → Allowed → Judged p (map (settled grant) rows) values
  unfolding slots_with filled_in
  allowed-judged t a =
      let same = arranged_used rows fs (present a.0) a.2 in
      let right = allowed-accepted p grant fs rows a.0 values a.1 t [] same in (
        (fault_of-none p (map (settled grant) rows) fs).1
            ((λ id u. rw (same id (rw (in_use-settled grant id rows) at u)) (allowed-fitting p grant id rows a.0 values a.1 t)), right.0),
        right.1,
      )
