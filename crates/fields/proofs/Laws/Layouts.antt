-- The walk and the layout agree: a right field at a place is the layout of its content there, and nothing else is. Of that, the
-- claims of specs/Claims.antt on the walk. Assumes nothing.
use mathlib.Core.Path.{◌≡◌, refl, sym, ap, ap₂, ◌∙◌}
use mathlib.Core.Logic.{⊎_elim}
use mathlib.Core.Bool.{false, ◌&&◌}
use mathlib.Core.List.{List, [], ◌∷◌, ◌++◌, map, append_assoc}
use Prim.Native.Nat.{ℕ, suc, ◌+◌, ◌-◌, ◌≤◌}
use native.Mathlib.Nat.{add-zero, add_assoc, eq-or-lt_of_le}
use native.Mathlib.Omega.{arith}
use lib.ListN.{length, get_or, take, drop, replicate, length-append, length-drop, length-replicate, take-append-drop}
use lib.Seq.{drop-cons, drop-drop, drop-append_seam, take-append-add, take-append_seam, take_at, take_all, length-take-le, get_or-drop}
use lib.Dec.{T, ltb, leb, eqb, lt→ltb, le→leb, eqb→eq}
use borrow.Author.Tests.{eq-eqb, eqb-false}
use Rattle.octets.specs.Choice.{every}
use Rattle.octets.specs.Buffer.{padded}
use Rattle.octets.proofs.Choice.{false-T, T_and, T-and-left, T-and-right, true-T, every-replicate}
use Rattle.fields.specs.Header.{first_field}
use Rattle.fields.specs.Walk.{to_word, value_end, next_at, padding, zeros, field_right, field_at, value_of, fields_from, stop_from, fields_of, whole}
use Rattle.fields.specs.Layout.{Content, laid, laid_all, id_right, ids_right, content_of, contents_of}
use Rattle.fields.specs.Claims.{WholeExactly, LaidOnce, WalkMeets, FaultExactly}
use Rattle.fields.proofs.Laws.Sized.{sized}
use Rattle.fields.proofs.Laws.Walk.{next-after, value_end-next, right-next, right-id, right-padding, right_end, fields_from-right, stop_from-right, fields_from-wrong, stop_from-wrong, stop_from-le, walk_ind}

-- ---- zeros

-- zeros are so many zeros
zeros-replicate : (xs : List ℕ) → T (zeros xs) → xs ≡ replicate (length xs) 0
unfolding zeros
zeros-replicate [] t = refl
zeros-replicate (x ∷ xs) t =
    let rest = every (λ (y : ℕ). eqb y 0) xs in
    let first : x ≡ 0 = eqb→eq x 0 (T-and-left (eqb x 0) rest t) in
    rw (first, ← zeros-replicate xs (T-and-right (eqb x 0) rest t))

-- ---- a layout's parts

-- the zeros behind a value of this length
pad_for : ℕ → List ℕ
pad_for n = replicate (to_word (2 + n) - (2 + n)) 0

-- ID octet, length octet, value, padding
laid-parts : (c : Content) → laid c ≡ c.id ∷ length c.value ∷ (c.value ++ pad_for (length c.value))
unfolding laid padded pad_for
laid-parts c =
    let two : suc (suc (length c.value)) ≡ 2 + length c.value = omega arith in
    rw two

to_word-le : (n : ℕ) → n ≤ to_word n
unfolding to_word
to_word-le n = omega arith

pub length-laid : (c : Content) → length (laid c) ≡ to_word (2 + length c.value)
unfolding pad_for
length-laid c = rw laid-parts (simp (length-append, length-replicate) (omega (arith, to_word-le (2 + length c.value))))

-- fields laid out one after another
pub laid_all-append : (cs ds : List Content) → laid_all (cs ++ ds) ≡ laid_all cs ++ laid_all ds
unfolding laid_all
laid_all-append [] ds = refl
laid_all-append (c ∷ cs) ds = rw (laid_all-append cs ds, append_assoc)

-- ---- a right field is the layout of its content

module _ (p : List ℕ) (at : ℕ) (t : T (field_right p at)) where
  -- its value is as long as the length octet says
  length-value : length (value_of p (field_at p at)) ≡ get_or p (at + 1) 0
  unfolding value_of field_at value_end
  length-value = length-take-le (get_or p (at + 1) 0) (drop (at + 2) p) (rw length-drop (omega (arith, value_end-next p at, right-next p at t)))

  -- ID octet and length octet
  octets-two : drop at p ≡ get_or p at 0 ∷ get_or p (at + 1) 0 ∷ drop (at + 2) p
  octets-two =
      let in-packet : at + 4 ≤ length p = omega (arith, next-after p at, right-next p at t) in
      let one : at + 1 ≡ suc at = omega arith in
      let two : at + 2 ≡ suc (suc at) = omega arith in
      rw (one, two, drop-cons p at 0 (omega arith), drop-cons p (suc at) 0 (omega arith))

  -- its value
  octets-value : drop (at + 2) p ≡ value_of p (field_at p at) ++ drop (value_end p at) p
  unfolding value_of field_at value_end
  octets-value =
      let len = get_or p (at + 1) 0 in
      sym (take-append-drop len (drop (at + 2) p)) ∙ rw (drop-drop, add_assoc)

  -- its padding
  padding-zeros : padding p at ≡ pad_for (get_or p (at + 1) 0)
  unfolding padding next_at value_end pad_for
  padding-zeros =
      let w = to_word (2 + get_or p (at + 1) 0) in
      let v = 2 + get_or p (at + 1) 0 in
      let many : (at + w) - (at + v) ≡ w - v = omega arith in
      zeros-replicate (padding p at) (right-padding p at t)
      ∙ ap (λ (n : ℕ). replicate n 0) (length-take-le ((at + w) - (at + v)) (drop (at + v) p) (rw length-drop (omega (arith, right-next p at t))) ∙ many)

  octets-padding : drop (value_end p at) p ≡ pad_for (get_or p (at + 1) 0) ++ drop (next_at p at) p
  unfolding padding
  octets-padding =
      let k = next_at p at - value_end p at in
      let next : value_end p at + k ≡ next_at p at = omega (arith, value_end-next p at) in
      sym (take-append-drop k (drop (value_end p at) p)) ∙ rw (drop-drop, next, ← padding-zeros)

  -- the octets from the field on: its layout, then those from the next on
  pub right-laid : drop at p ≡ laid (content_of p (field_at p at)) ++ drop (next_at p at) p
  unfolding content_of field_at
  right-laid = rw (octets-two, octets-value, octets-padding, laid-parts, length-value)
      (ap (λ (s : List ℕ). get_or p at 0 ∷ get_or p (at + 1) 0 ∷ s) (sym (append_assoc (value_of p (field_at p at)) (pad_for (get_or p (at + 1) 0)) (drop (next_at p at) p))))

  -- the layout goes up to the next field
  right-length : at + length (laid (content_of p (field_at p at))) ≡ next_at p at
  unfolding content_of field_at next_at
  right-length = rw (length-laid, length-value)

-- ---- the octets of a layout are a field

module _ (p : List ℕ) (at : ℕ) (c : Content) (rest : List ℕ) (e : drop at p ≡ laid c ++ rest) where
  pub laid-id : get_or p at 0 ≡ c.id
  laid-id = rw add-zero at (sym (get_or-drop at p 0 0)) ∙ ap (λ (s : List ℕ). get_or s 0 0) e ∙ rw laid-parts

  pub laid-len : get_or p (at + 1) 0 ≡ length c.value
  laid-len = sym (get_or-drop at p 1 0) ∙ ap (λ (s : List ℕ). get_or s 1 0) e ∙ rw laid-parts

  pub laid_next : next_at p at ≡ at + length (laid c)
  unfolding next_at
  laid_next = rw (laid-len, length-laid)

  -- behind ID octet and length octet
  laid-behind : drop (at + 2) p ≡ c.value ++ (pad_for (length c.value) ++ rest)
  laid-behind =
      sym (drop-drop 2 at p)
      ∙ ap (drop 2) (e ∙ ap (λ (s : List ℕ). s ++ rest) (laid-parts c))
      ∙ append_assoc c.value (pad_for (length c.value)) rest

  pub laid-content : content_of p (field_at p at) ≡ c
  unfolding content_of field_at value_of
  laid-content = rw (laid-id, laid-len, laid-behind, take-append_seam)

  pub laid-rest : drop (next_at p at) p ≡ rest
  laid-rest = rw laid_next (sym (drop-drop (length (laid c)) at p) ∙ ap (drop (length (laid c))) e ∙ drop-append_seam (laid c) rest)

  -- the zeros behind the value
  laid-padding : padding p at ≡ pad_for (length c.value)
  unfolding padding value_end next_at pad_for
  laid-padding =
      let v = length c.value in
      let many : (at + to_word (2 + v)) - (at + (2 + v)) ≡ to_word (2 + v) - (2 + v) = omega arith in
      let zeros-many : length (pad_for v) ≡ to_word (2 + v) - (2 + v) = length-replicate (to_word (2 + v) - (2 + v)) 0 in
      rw (laid-len, many, ← add_assoc, ← drop-drop, laid-behind, drop-append_seam) (take_at (pad_for v) rest (to_word (2 + v) - (2 + v)) zeros-many)

  -- the layout ends in the packet
  laid_in : next_at p at ≤ length p
  laid_in = omega (arith, laid_next, length-laid c, to_word-le (2 + length c.value), simp (length-drop, length-append) at (ap length e))

  pub laid-right : T (id_right c) → T (field_right p at)
  unfolding field_right zeros id_right pad_for
  laid-right t =
      rw (laid-id, laid-padding)
      (T_and (ltb c.id 192) (leb (next_at p at) (length p) && zeros (pad_for (length c.value))) t
      (T_and (leb (next_at p at) (length p)) (zeros (pad_for (length c.value))) (le→leb (next_at p at) (length p) laid_in)
      (every-replicate (λ (x : ℕ). eqb x 0) (to_word (2 + length c.value) - (2 + length c.value)) 0 tt)))

-- ---- the walk meets layouts, one after another

-- the contents of the fields from a place on
contents_from : List ℕ → ℕ → List Content
contents_from p at = map (content_of p) (fields_from p at)

-- a walk from a place to where it stops
record Met (p : List ℕ) (at : ℕ) : Type 0 where
  forward : at ≤ stop_from p at
  ids : T (ids_right (contents_from p at))
  octets : take (stop_from p at - at) (drop at p) ≡ laid_all (contents_from p at)
  stopped : field_right p (stop_from p at) ≡ false

-- it stops at once
met-stops : (p : List ℕ) (at : ℕ) → field_right p at ≡ false → Met p at
unfolding contents_from ids_right laid_all
met-stops p at e =
    let stop : stop_from p at ≡ at = stop_from-wrong p at e in
    let none : fields_from p at ≡ [] = fields_from-wrong p at e in
    let zero-on : at - at ≡ 0 = omega arith in
    record {
      forward = omega arith;
      ids = rw none tt;
      octets = rw (none, stop, zero-on);
      stopped = rw stop e;
    }

-- it goes over a field and on from the next
met_goes : (p : List ℕ) (at : ℕ) → T (field_right p at) → Met p (next_at p at) → Met p at
unfolding contents_from ids_right id_right laid_all content_of field_at
met_goes p at t m =
    let next = next-after p at in
    let stop : stop_from p at ≡ stop_from p (next_at p at) = stop_from-right p at t in
    let fields : fields_from p at ≡ field_at p at ∷ fields_from p (next_at p at) = fields_from-right p at t in
    record {
      forward = omega (arith, m.forward);
      ids = rw fields (T_and (ltb (get_or p at 0) 192) (ids_right (contents_from p (next_at p at))) (lt→ltb (get_or p at 0) 192 (right-id p at t)) m.ids);
      octets =
          let c = content_of p (field_at p at) in
          let many : stop_from p (next_at p at) - at ≡ length (laid c) + (stop_from p (next_at p at) - next_at p at) = omega (arith, right-length p at t, m.forward) in
          rw (fields, stop, many, right-laid p at t) (take-append-add (laid c) (drop (next_at p at) p) (stop_from p (next_at p at) - next_at p at) ∙ ap (λ (s : List ℕ). laid c ++ s) m.octets);
      stopped = rw stop m.stopped;
    }

walk_met : (p : List ℕ) (at : ℕ) → Met p at
walk_met p = walk_ind p (Met p) (met-stops p) (met_goes p)

-- ---- the claims

-- a list of layouts is met by a walk to the end
laid_stop : (p : List ℕ) (cs : List Content) (at : ℕ) → at ≤ length p → T (ids_right cs) → drop at p ≡ laid_all cs → stop_from p at ≡ length p
unfolding laid_all ids_right
laid_stop p [] at h t e =
    let end : length p ≤ at = omega (arith, rw length-drop at (ap length e)) in
    stop_from-wrong p at (right_end p at end) ∙ omega arith
laid_stop p (c ∷ cs) at h t e =
    let right = laid-right p at c (laid_all cs) e (T-and-left (id_right c) (ids_right cs) t) in
    stop_from-right p at right
    ∙ laid_stop p cs (next_at p at) (right-next p at right) (T-and-right (id_right c) (ids_right cs) t) (laid-rest p at c (laid_all cs) e)

-- no layout is nothing
laid_none : (c : Content) (rest : List ℕ) → laid c ++ rest ≡ [] → ⊥
laid_none c rest e = omega (arith, simp length-append at (ap length e), length-laid c, to_word-le (2 + length c.value))

pub laid_once : LaidOnce
unfolding laid_all
laid_once [] [] e = refl
laid_once [] (d ∷ ds) e = absurd (laid_none d (laid_all ds) (sym e))
laid_once (c ∷ cs) [] e = absurd (laid_none c (laid_all cs) e)
laid_once (c ∷ cs) (d ∷ ds) e =
    let p = laid d ++ laid_all ds in
    let same_first : c ≡ d = sym (laid-content p 0 c (laid_all cs) (sym e)) ∙ laid-content p 0 d (laid_all ds) refl in
    let same_rest : laid_all cs ≡ laid_all ds = sym (laid-rest p 0 c (laid_all cs) (sym e)) ∙ laid-rest p 0 d (laid_all ds) refl in
    ap₂ (λ (x : Content) (xs : List Content). x ∷ xs) same_first (laid_once cs ds same_rest)

pub walk_meets : WalkMeets
unfolding whole contents_of fields_of contents_from
walk_meets p t =
    let stop : stop_from p first_field ≡ length p = eqb→eq (stop_from p first_field) (length p) t in
    sym (take_all (stop_from p first_field - first_field) (drop first_field p) (rw (length-drop, stop) (omega arith))) ∙ (walk_met p first_field).octets

pub whole_exactly : WholeExactly
unfolding whole contents_of fields_of contents_from
whole_exactly p h = (
  (λ t. (contents_of p, (walk_met p first_field).ids, walk_meets p t)),
  λ x. true-T (whole p) (eq-eqb (stop_from p first_field) (length p) (laid_stop p x.0 first_field (sized p h.0).least x.1 x.2)),
)

pub fault_exactly : FaultExactly
unfolding whole contents_of fields_of contents_from
fault_exactly p h e =
    let m = walk_met p first_field in
    let stop = stop_from-le p first_field (sized p h.0).least in
    let short = eqb-false (stop_from p first_field) (length p) e in (
      ⊎_elim (λ q. absurd (short q)) (λ l. l) (eq-or-lt_of_le stop),
      m.ids,
      m.octets,
      λ c rest t q. false-T (field_right p (stop_from p first_field)) m.stopped (laid-right p (stop_from p first_field) c rest q t),
    )
