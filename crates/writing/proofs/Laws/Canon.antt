-- Canonical packets: what is written is one (`written-canonical`), and one that reads to a meaning is the meaning's packet
-- (`canonical-is`). Of a packet that reads to a meaning both say one thing: its fields, as they stand, are those laid out for the
-- meaning, row by row. Assumes nothing.
use mathlib.Core.Path.{◌≡◌, refl, sym, ap, ◌∙◌}
use mathlib.Core.Logic.{⊎_elim}
use mathlib.Core.Bool.{Bool, true, false, not, ◌&&◌}
use mathlib.Core.List.{List, [], ◌∷◌, map, cons-ne-nil}
use mathlib.Core.Option.{Option, none, some, none-ne-some, some-injective}
use Prim.Native.Nat.{ℕ, suc, ◌+◌, ◌≤◌}
use native.Mathlib.Omega.{arith}
use lib.ListN.{length, get_or, get_elem?, drop, length-drop}
use lib.Seq.{length-take-le, drop_at, get_or-take, get_or-drop}
use lib.Dec.{T, leb, eqb, leb→le, eqb→eq, eqb_refl}
use borrow.Author.Tests.{eq-eqb, not-true}
use Rattle.octets.specs.Choice.{pick, every}
use Rattle.octets.specs.Big.{big_of}
use Rattle.octets.proofs.Choice.{T_true, true-T, false-T, decide, T_and, T-and-left, T-and-right, T-or-left, T-or-right, T-or-cases, or-false-both, pick-cases}
use Rattle.octets.proofs.Lists.{listed-take}
use Rattle.octets.proofs.Big.{length-big_of, big_of-big_at}
use Rattle.sheet.specs.declared.Sheet.{Sheet}
use Rattle.sheet.specs.Value.{valid_alone}
use Rattle.fields.specs.declared.field.Field.{Field}
use Rattle.fields.specs.Header.{first_field}
use Rattle.fields.specs.Walk.{zeros, padding, value_of, field_at, fields_of, whole}
use Rattle.fields.specs.Layout.{Content, laid_all, content_of, contents_of}
use Rattle.fields.proofs.Laws.Walk.{right-padding, every-field}
use Rattle.fields.proofs.Laws.Fields.{coded, coded_says, every-coded}
use Rattle.fields.proofs.Laws.Layouts.{laid_once, walk_meets}
use Rattle.kinds.specs.declared.kind.Form.{Form}
use Rattle.kinds.specs.declared.kind.Form.TheVariants.{UserId, Number, Cause, Result, MessageType, Barred}
use Rattle.kinds.specs.Kind.{Row, numbers_of, may_lack, grants}
use Rattle.kinds.specs.Judge.{Held, absent, number_at, fits, held_in, fields_with}
use Rattle.packet.specs.Claims.{present, Allows, AllowsAll, is_one}
use Rattle.packet.proofs.Laws.Allowed.{uses, orderly, orderly_rest, arranged_used, allowed-ind, orderly-lack, first-allowed}
use Rattle.packet.specs.Meaning.{Value, value_in, Meaning, number_held}
use Rattle.plan.specs.Packet.{is_nothing, octets_for, contents_for, header, with_header, packet_of, packet_as}
use Rattle.writing.specs.Canonical.{in_order, bare, canonical_in, canonical}
use Rattle.writing.specs.Claims.{are_octets, ReadsTo}
use Rattle.packet.proofs.Laws.Accepts.{kind-orderly}
use Rattle.writing.proofs.Laws.Kinds.{ahead, gathered, kind-right, kind-with}
use Rattle.writing.proofs.Laws.Front.{octets-lt, length-header, header_is}
use Rattle.writing.proofs.Laws.Back.{packet-reads}
use Rattle.writing.proofs.Laws.Forth.{Says, held_something, reads-says, reads-writable}

-- ---- any lists

-- only nothing is mapped to nothing
map-nil : {A B : Type 0} (f : A → B) (xs : List A) → map f xs ≡ [] → xs ≡ []
map-nil f [] e = refl
map-nil f (x ∷ xs) e = cc

module _ {A : Type 0} (p : A → Bool) where
  -- what holds of each holds of the first
  every_first : (x : A) (xs : List A) → T (every p (x ∷ xs)) → T (p x)
  every_first x xs t = T-and-left (p x) (every p xs) t

  -- and of each behind it
  every_rest : (x : A) (xs : List A) → T (every p (x ∷ xs)) → T (every p xs)
  every_rest x xs t = T-and-right (p x) (every p xs) t

-- ---- fields in the order of rows

-- a field with an ID that begins fields is the first with it
own_first : (id : ℕ) (f : Field) (fs : List Field) → f.id ≡ id → get_elem? (fields_with id (f ∷ fs)) 0 ≡ some f
unfolding fields_with
own_first id f fs e = rw (e, T_true (eqb id id) (eqb_refl id))

module _ (p : List ℕ) where
  -- where there are no fields, they are in order
  in-order-nil : (rows : List Row) → T (in_order p rows [])
  unfolding in_order
  in-order-nil [] = tt
  in-order-nil (r ∷ rows) = tt

  -- where there are no rows, there are no fields in order
  in-order-end : (fs : List Field) → T (in_order p [] fs) → fs ≡ []
  unfolding in_order
  in-order-end [] t = refl
  in-order-end (f ∷ fs) t = absurd t

  -- fields in order have no ID that no row has
  unused-none : (id : ℕ) (rows : List Row) (fs : List Field) → uses id rows ≡ false → T (in_order p rows fs) → fields_with id fs ≡ []
  unfolding in_order fields_with
  unused-none id [] [] e t = refl
  unused-none id [] (f ∷ fs) e t = absurd t
  unused-none id (r ∷ rows) [] e t = refl
  unused-none id (r ∷ rows) (f ∷ fs) e t =
      let both = or-false-both (eqb r.id id) (uses id rows) e in
      ⊎_elim
      (λ own. rw (← eqb→eq r.id f.id own, both.0) (unused-none id rows fs both.1 (T-and-right (bare r.form p f) (in_order p rows fs) (rw (T_true (eqb r.id f.id) own) at t))))
      (λ other. unused-none id rows (f ∷ fs) both.1 (rw other at t))
      (decide (eqb r.id f.id))

  -- a field with the first row's ID goes before those in the order of the others
  in-order-own : (r : Row) (rows : List Row) (f : Field) (fs : List Field) → f.id ≡ r.id → T (bare r.form p f) → T (in_order p rows fs) → T (in_order p (r ∷ rows) (f ∷ fs))
  unfolding in_order
  in-order-own r rows f fs e b t = rw (eq-eqb r.id f.id (sym e)) (T_and (bare r.form p f) (in_order p rows fs) b t)

  -- fields in the order of the others are in order where no other has the first row's ID
  in-order-skip : (r : Row) (rows : List Row) (fs : List Field) → uses r.id rows ≡ false → T (in_order p rows fs) → T (in_order p (r ∷ rows) fs)
  unfolding in_order
  in-order-skip r rows [] e t = tt
  in-order-skip r rows (f ∷ fs) e t =
      pick-cases T (eqb r.id f.id) (bare r.form p f && in_order p rows fs) (in_order p rows (f ∷ fs))
      (λ own.
      let first = own_first r.id f fs (sym (eqb→eq r.id f.id own)) in
      absurd (none-ne-some f (rw (unused-none r.id rows (f ∷ fs) e t) at first)))
      (λ other. t)

  -- fields in the order of such rows that begin with another ID do not have it
  ahead_none : (id : ℕ) (rows : List Row) (f : Field) (fs : List Field) → T (ahead id rows) → T (gathered rows)
      → eqb id f.id ≡ false → T (in_order p rows (f ∷ fs)) → fields_with id (f ∷ fs) ≡ []
  unfolding in_order
  ahead_none id [] f fs a g e t = absurd t
  ahead_none id (r ∷ rows) f fs a g e t =
      ⊎_elim
      (λ own.
      let is : r.id ≡ id = eqb→eq r.id id own in
      ahead_none id rows f fs (rw is at (T-and-left (ahead r.id rows) (gathered rows) g)) (T-and-right (ahead r.id rows) (gathered rows) g) e (rw (is, e) at t))
      (λ u. unused-none id (r ∷ rows) (f ∷ fs) (not-true (uses id (r ∷ rows)) (T_true (not (uses id (r ∷ rows))) u)) t)
      (T-or-cases (eqb r.id id) (not (uses id (r ∷ rows))) a)

  -- of fields in order the first is the first row's, or none has its ID
  in-order-cases {κ} : (P : List Field → Type κ) (r : Row) (rows : List Row) → T (gathered (r ∷ rows))
      → ((f : Field) (fs : List Field) → f.id ≡ r.id → T (bare r.form p f) → T (in_order p rows fs) → P (f ∷ fs))
      → ((fs : List Field) → fields_with r.id fs ≡ [] → T (in_order p rows fs) → P fs)
      → (fs : List Field) → T (in_order p (r ∷ rows) fs) → P fs
  unfolding in_order
  in-order-cases P r rows g here later [] t = later [] (unfold fields_with in refl) (in-order-nil rows)
  in-order-cases P r rows g here later (f ∷ fs) t =
      ⊎_elim
      (λ own.
      let both : T (bare r.form p f && in_order p rows fs) = rw (T_true (eqb r.id f.id) own) at t in
      here f fs (sym (eqb→eq r.id f.id own)) (T-and-left (bare r.form p f) (in_order p rows fs) both) (T-and-right (bare r.form p f) (in_order p rows fs) both))
      (λ other.
      let rest : T (in_order p rows (f ∷ fs)) = rw other at t in
      later (f ∷ fs) (ahead_none r.id rows f fs (T-and-left (ahead r.id rows) (gathered rows) g) (T-and-right (ahead r.id rows) (gathered rows) g) other rest) rest)
      (decide (eqb r.id f.id))

-- ---- one field

module _ (p : List ℕ) where
  -- the value of a field ends in the packet
  inside : (f : Field) → T (coded p f) → f.at + 2 + f.len ≤ length p
  inside f c = leb→le (f.at + 2 + f.len) (length p) (coded_says p f c).inside

  -- and is as long as the field says
  length-value : (f : Field) → T (coded p f) → length (value_of p f) ≡ f.len
  unfolding value_of
  length-value f c = length-take-le f.len (drop (f.at + 2) p) (rw length-drop (omega (arith, inside f c)))

  -- ---- as it stands

  -- two octets are those of the number that they make
  number-value : T (are_octets p) → (f : Field) → T (coded p f) → T (eqb f.len 2) → value_of p f ≡ big_of 2 (number_at p f)
  unfolding value_of number_at
  number-value o f c t =
      let two : f.len ≡ 2 = eqb→eq f.len 2 t in
      rw two (sym (big_of-big_at p (octets-lt p o) 2 (f.at + 2) (omega (arith, inside f c))))

  -- the octets of a field that has a form and is bare are those of its value
  value-is : T (are_octets p) → (form : Form) (f : Field) → T (coded p f) → T (fits form p f) → T (bare form p f)
      → value_of p f ≡ octets_for form (value_in p (held_in form p f))
  unfolding fits bare held_in value_in value_of octets_for
  value-is o UserId f c t b = rw (T_true (leb (f.at + 2 + f.len) (length p)) (coded_says p f c).inside)
  value-is o Number f c t b = number-value o f c t
  value-is o Cause f c t b = number-value o f c b
  value-is o Result f c t b = number-value o f c (T-and-left (eqb f.len 2) (leb (number_at p f) 1) t)
  value-is o MessageType f c t b =
      let two : f.len ≡ 2 = eqb→eq f.len 2 (T-and-left (eqb f.len 2) (eqb (get_or p (f.at + 3) 0) 0) t) in
      let second : suc (f.at + 2) ≡ f.at + 3 = omega arith in
      rw two (sym (listed-take 2 (f.at + 2) p (omega (arith, inside f c))) ∙ rw (second, eqb→eq (get_or p (f.at + 3) 0) 0 b))
  value-is o Barred f c t b = absurd t

  -- ---- bare

  -- a value of two octets
  two-long : (f : Field) (xs : List ℕ) → T (coded p f) → value_of p f ≡ xs → length xs ≡ 2 → T (eqb f.len 2)
  two-long f xs c e l = true-T (eqb f.len 2) (eq-eqb f.len 2 (sym (length-value f c) ∙ ap length e ∙ l))

  -- what is written in a form is bare in it
  bare-own : (form : Form) (v : Value) (f : Field) → T (coded p f) → value_of p f ≡ octets_for form v → T (bare form p f)
  unfolding bare octets_for value_of
  bare-own UserId v f c e = tt
  bare-own Number v f c e = tt
  bare-own Cause v f c e = two-long f (octets_for Cause v) c e (length-big_of 2 (number_held v))
  bare-own Result v f c e = tt
  bare-own MessageType v f c e =
      let two : f.len ≡ 2 = eqb→eq f.len 2 (two-long f (octets_for MessageType v) c e refl) in
      let second : f.at + 3 ≡ f.at + 2 + 1 = omega arith in
      true-T (eqb (get_or p (f.at + 3) 0) 0)
      (eq-eqb (get_or p (f.at + 3) 0) 0
      (rw (second, ← get_or-drop (f.at + 2) p 1 0, ← get_or-take f.len (drop (f.at + 2) p) 1 0 (omega arith)) (ap (λ (xs : List ℕ). get_or xs 1 0) e)))
  bare-own Barred v f c e = tt

-- ---- fields laid out

module _ (p : List ℕ) where
  -- fields, as they stand, are those laid out for values
  abbrev Laid : List Row → List Value → List Field → Type 0
  Laid rows values fs = map (content_of p) fs ≡ contents_for rows values

  -- of fields laid out the first is the first row's, or its value is nothing
  laid-cases {κ} : (P : List Field → Type κ) (r : Row) (rows : List Row) (v : Value) (values : List Value)
      → ((f : Field) (fs : List Field) → f.id ≡ r.id → value_of p f ≡ octets_for r.form v → Laid rows values fs → P (f ∷ fs))
      → ((fs : List Field) → T (is_nothing v) → Laid rows values fs → P fs)
      → (fs : List Field) → Laid (r ∷ rows) (v ∷ values) fs → P fs
  unfolding contents_for content_of
  laid-cases P r rows v values here later fs =
      pick-cases (λ cs. map (content_of p) fs ≡ cs → P fs) (is_nothing v) (contents_for rows values) (own ∷ contents_for rows values) (later fs) (λ e. first fs)
    where
      own : Content
      own = record { id = r.id; value = octets_for r.form v }

      first : (gs : List Field) → map (content_of p) gs ≡ own ∷ contents_for rows values → P gs
      first [] l = absurd (cons-ne-nil own (contents_for rows values) (sym l))
      first (f ∷ gs) l =
          let is : content_of p f ≡ own = cc in
          here f gs (ap (λ (c : Content). c.id) is) (ap (λ (c : Content). c.value) is) (cc)

module _ (p : List ℕ) (grant : Bool) where
  -- a row whose value is nothing may lack its field
  nothing-lacks : (r : Row) (o : Option Field) (v : Held) → Allows p grant r o v → T (is_nothing (value_in p v)) → T (may_lack grant r.need)
  nothing-lacks r none v a t = a.0
  nothing-lacks r (some f) v a t = absurd (false-T (is_nothing (value_in p v)) (rw a.3 (held_something p r.form f a.2)) t)

  -- fields laid out for values that the rows allow are in order
  laid_in_order : (rows : List Row) (os : List (Option Field)) (held : List Held) → AllowsAll p grant rows os held
      → T (orderly rows) → (fs : List Field) → T (every (coded p) fs) → Laid p rows (map (value_in p) held) fs → T (in_order p rows fs)
  laid_in_order =
      allowed-ind p grant (λ rows os held. T (orderly rows) → (fs : List Field) → T (every (coded p) fs) → Laid p rows (map (value_in p) held) fs → T (in_order p rows fs))
      (λ t fs c l. rw (map-nil (content_of p) fs (unfold contents_for in l)) (in-order-nil p []))
      (λ r rows o os v held a rest ih t fs c l.
      let behind = ih (orderly_rest r rows t) in
      laid-cases p (λ fs. T (every (coded p) fs) → T (in_order p (r ∷ rows) fs)) r rows (value_in p v) (map (value_in p) held)
      (λ f fs own e l c.
      in-order-own p r rows f fs own (bare-own p r.form (value_in p v) f (every_first (coded p) f fs c) e) (behind fs (every_rest (coded p) f fs c) l))
      (λ fs n l c. in-order-skip p r rows fs (orderly-lack p grant r rows t (nothing-lacks r o v a n)) (behind fs c l))
      fs l c)

  -- fields that are those chosen, ID by ID
  record Chosen (rows : List Row) (os : List (Option Field)) (fs : List Field) : Type 0 where
    code : T (every (coded p) fs)
    same : (id : ℕ) → T (uses id rows) → fields_with id fs ≡ fields_with id (present os)

  -- where none is chosen for the first row, they are so for the others
  chosen_none : (r : Row) (rows : List Row) (os : List (Option Field)) (fs : List Field) → Chosen (r ∷ rows) (none ∷ os) fs → Chosen rows os fs
  unfolding present
  chosen_none r rows os fs b =
      record { code = b.code; same = λ id u. b.same id (T-or-right (eqb r.id id) (uses id rows) u) }

  -- where their first is, the rest are
  chosen-some : (r : Row) (rows : List Row) (f : Field) (os : List (Option Field)) (fs : List Field) → Chosen (r ∷ rows) (some f ∷ os) (f ∷ fs) → Chosen rows os fs
  unfolding present fields_with
  chosen-some r rows f os fs b =
      record {
        code = every_rest (coded p) f fs b.code;
        same = λ id u. behind id (eqb f.id id) (b.same id (T-or-right (eqb r.id id) (uses id rows) u));
      }
    where
      behind : (id : ℕ) (own : Bool)
          → pick own (f ∷ fields_with id fs) (fields_with id fs) ≡ pick own (f ∷ fields_with id (present os)) (fields_with id (present os))
          → fields_with id fs ≡ fields_with id (present os)
      behind id true e = cc
      behind id false e = e

  -- an absent value is not laid out
  laid_none : (r : Row) (rows : List Row) (v : Held) (values : List Value) (fs : List Field) → v ≡ absent → Laid p rows values fs
      → Laid p (r ∷ rows) (value_in p v ∷ values) fs
  unfolding contents_for value_in is_nothing
  laid_none r rows v values fs e l = rw e l

  -- a bare field is laid out as it stands
  laid-some : T (are_octets p) → (r : Row) (rows : List Row) (f : Field) (v : Held) (values : List Value) (fs : List Field)
      → Allows p grant r (some f) v → T (coded p f) → T (bare r.form p f) → Laid p rows values fs → Laid p (r ∷ rows) (value_in p v ∷ values) (f ∷ fs)
  unfolding contents_for content_of
  laid-some o r rows f v values fs a c b l =
      rw (a.3, held_something p r.form f a.2, ← value-is p o r.form f c a.2 b, a.1, l)

  -- fields in order that are those chosen are those laid out
  in-order-laid : T (are_octets p) → (rows : List Row) (os : List (Option Field)) (held : List Held) → AllowsAll p grant rows os held
      → T (orderly rows) → T (gathered rows) → (fs : List Field) → T (in_order p rows fs) → Chosen rows os fs → Laid p rows (map (value_in p) held) fs
  in-order-laid o =
      allowed-ind p grant
      (λ rows os held. T (orderly rows) → T (gathered rows) → (fs : List Field) → T (in_order p rows fs) → Chosen rows os fs → Laid p rows (map (value_in p) held) fs)
      (λ t g fs i b. unfold contents_for in rw (in-order-end p fs i))
      (λ r rows c os v held a rest ih t g.
      let values = map (value_in p) held in
      let behind = ih (orderly_rest r rows t) (T-and-right (ahead r.id rows) (gathered rows) g) in
      let first : (fs : List Field) → Chosen (r ∷ rows) (c ∷ os) fs → get_elem? (fields_with r.id fs) 0 ≡ c =
      λ fs b. rw (b.same r.id (T-or-left (eqb r.id r.id) (uses r.id rows) (eqb_refl r.id))) (first-allowed p grant r rows c os v held t a rest).0 in
      in-order-cases p (λ fs. Chosen (r ∷ rows) (c ∷ os) fs → Laid p (r ∷ rows) (value_in p v ∷ values) fs) r rows g
      (λ f fs own plain i b.
      let is : c ≡ some f = sym (first (f ∷ fs) b) ∙ own_first r.id f fs own in
      laid-some o r rows f v values fs (rw is at a) (every_first (coded p) f fs b.code) plain
      (behind fs i (chosen-some r rows f os fs (rw is at b))))
      (λ fs e i b.
      let is : c ≡ none = sym (first fs b) ∙ rw e in
      let lacks : Allows p grant r none v = rw is at a in
      laid_none r rows v values fs lacks.1 (behind fs i (chosen_none r rows os fs (rw is at b)))))

-- ---- packets that read to a meaning

-- behind the header stand the fields
drop-with_header : (first ssrc : ℕ) (letters : List ℕ) (cs : List Content) → length letters ≡ 4 → drop first_field (with_header first ssrc letters (laid_all cs)) ≡ laid_all cs
unfolding with_header
drop-with_header first ssrc letters cs four =
    let size = first_field + length (laid_all cs) in
    drop_at (header first size ssrc letters) (laid_all cs) first_field (length-header first size ssrc letters four)

module _ (s : Sheet) (p : List ℕ) (m : Meaning) (r : Says s p m) where
  -- its rows
  abbrev rows : List Row
  rows = r.kind.rows

  -- whether its Result is 1
  abbrev grant : Bool
  grant = grants is_one rows r.held

  -- its values
  abbrev values : List Value
  values = map (value_in p) r.held

  -- its fields, as they stand, are those laid out for the meaning
  abbrev AsLaid : Type 0
  AsLaid = contents_of p ≡ contents_for rows values

  -- so it is the meaning's packet
  laid-packet : T (are_octets p) → AsLaid → packet_as r.kind m ≡ p
  unfolding packet_as with_header
  laid-packet o l =
      let has = kind-with (numbers_of s) p r.kind r.is in
      ap (packet_as r.kind) r.means
      ∙ rw (← has.1, ← has.2, ← l, ← walk_meets p r.walked) (sym (header_is p o r.head.0 r.head.1))

  -- and the meaning's packet is so laid out
  packet-laid : packet_as r.kind m ≡ p → AsLaid
  unfolding packet_as
  packet-laid e =
      let has = kind-with (numbers_of s) p r.kind r.is in
      let four = (kind-right s r.valid r.kind.kind r.kind has.0).letters in
      laid_once (contents_of p) (contents_for rows values)
      (sym (walk_meets p r.walked)
      ∙ ap (drop first_field) (sym e ∙ ap (packet_as r.kind) r.means)
      ∙ drop-with_header _ _ r.kind.letters _ four)

  -- a packet that is so laid out is canonical
  laid-canonical : AsLaid → T (canonical_in rows p)
  unfolding canonical_in contents_of
  laid-canonical l =
      let fs = fields_of p in
      let pads : Field → Bool = λ f. zeros (padding p f.at) in
      T_and (whole p) (in_order p rows fs && every pads fs) r.walked
      (T_and (in_order p rows fs) (every pads fs)
      (laid_in_order p grant rows r.chosen r.held r.allows (kind-orderly (numbers_of s) p r.kind r.is) fs (every-coded p) l)
      (every-field p pads (λ at h t. unfold field_at in right-padding p at t)))

  -- and a canonical one is so laid out
  canonical-laid : T (are_octets p) → T (canonical_in rows p) → AsLaid
  unfolding canonical_in contents_of
  canonical-laid o t =
      let has = kind-with (numbers_of s) p r.kind r.is in
      let fs = fields_of p in
      let pads : Field → Bool = λ f. zeros (padding p f.at) in
      let u = T-and-right (whole p) (in_order p rows fs && every pads fs) t in
      in-order-laid p grant o rows r.chosen r.held r.allows (kind-orderly (numbers_of s) p r.kind r.is)
      (kind-right s r.valid r.kind.kind r.kind has.0).together
      fs (T-and-left (in_order p rows fs) (every pads fs) u)
      (record {
        code = every-coded p;
        same = arranged_used rows fs (present r.chosen) r.arranged;
      })

-- what is written is canonical
pub written-canonical : (s : Sheet) → T (valid_alone s) → (m : Meaning) (p : List ℕ) → packet_of (numbers_of s) m ≡ some p → T (canonical (numbers_of s) p)
unfolding canonical
written-canonical s v m p e =
    let reads = packet-reads s v m p e in
    let r = reads-says s p m reads in
    let is : packet_as r.kind m ≡ p = some-injective (packet_as r.kind m) p (sym (reads-writable s p m reads.0 r) ∙ e) in
    rw r.is (laid-canonical s p m r (packet-laid s p m r is))

-- a canonical packet is that of its meaning
pub canonical-is : (s : Sheet) (p : List ℕ) (m : Meaning) → ReadsTo s p m → T (canonical (numbers_of s) p) → packet_of (numbers_of s) m ≡ some p
unfolding canonical
canonical-is s p m reads t =
    let r = reads-says s p m reads in
    reads-writable s p m reads.0 r ∙ ap some (laid-packet s p m r reads.0 (canonical-laid s p m r reads.0 (rw r.is at t)))
