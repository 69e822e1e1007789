-- Laws of one field at a place: the walk over its octets alone, and what stands at a place. Assumes nothing.
use mathlib.Core.Path.{◌≡◌, refl, sym, ◌∙◌}
use mathlib.Core.Logic.{⊎_elim}
use mathlib.Core.Bool.{Bool, true, false, ◌&&◌}
use mathlib.Core.List.{List}
use Prim.Native.Nat.{ℕ, ◌+◌, ◌%◌, ◌≤◌, ◌<◌}
use native.Mathlib.Omega.{arith}
use lib.ListN.{length, get_or, take}
use lib.Seq.{length-take-le, get_or-take, take-take}
use lib.Dec.{T, leb, eqb, leb→le, eqb→eq}
use borrow.Author.Tests.{le-leb, eq-eqb, ne_eqb}
use Rattle.std.specs.Prelude.{Some, None}
use Rattle.octets.specs.Choice.{pick}
use Rattle.octets.proofs.Choice.{T_true, T_false, T-and-left, T-and-right, decide, pick_true, pick-false, pick-cases}
use Rattle.fields.specs.Header.{first_field}
use Rattle.fields.specs.Walk.{value_end, next_at, padding, field_right, field_at, stop_from, field, end, refused, place_right, step_of}
use Rattle.fields.specs.Inner.{past_field}
use Rattle.fields.proofs.Laws.Walk.{next-after, right-next, right_end, padding-slice, stop_from-pick, stop_from-wrong}

-- ---- the octets up to a field's end, and the walk over them

-- where a field's value ends goes by its length octet
value_end-by : (p q : List ℕ) (at : ℕ) → get_or p (at + 1) 0 ≡ get_or q (at + 1) 0 → value_end p at ≡ value_end q at
unfolding value_end
value_end-by p q at e = rw e

-- and so does where the next field begins
next_at-by : (p q : List ℕ) (at : ℕ) → get_or p (at + 1) 0 ≡ get_or q (at + 1) 0 → next_at p at ≡ next_at q at
unfolding next_at
next_at-by p q at e = rw e

module _ (p : List ℕ) (at next : ℕ) (is : next ≡ next_at p at) (ends : next ≤ length p) where
  -- the field's first word is among them
  get_or_part : (i : ℕ) → i < at + 4 → get_or (take next p) i 0 ≡ get_or p i 0
  get_or_part i h = get_or-take next p i 0 (omega (arith, next-after p at))

  -- it ends where it did
  next-part : next_at (take next p) at ≡ next
  next-part = next_at-by (take next p) p at (get_or_part (at + 1) (omega arith)) ∙ sym is

  -- its padding is what it was
  padding-part : padding (take next p) at ≡ padding p at
  padding-part =
      let start = value_end-by (take next p) p at (get_or_part (at + 1) (omega arith)) in
      rw (padding-slice (take next p) at, next-part, start, take-take next next p (omega arith), padding-slice p at, is)

  -- it is right if it was
  right-part : field_right (take next p) at ≡ field_right p at
  unfolding field_right
  right-part =
      rw (get_or_part at (omega arith), next-part, padding-part, length-take-le next p ends, ← is, le-leb next next (omega arith), le-leb next (length p) ends)

  -- the walk over them stops behind a right field, and before a wrong one
  stop-part : stop_from (take next p) at ≡ pick (field_right p at) next at
  stop-part =
      let behind = stop_from-wrong (take next p) next (right_end (take next p) next (omega (arith, length-take-le next p ends))) in
      stop_from-pick (take next p) at ∙ rw (right-part, next-part, behind, is)

  -- so that it comes to their end exactly if the field is right
  pub part-right : stop_from (take next p) at ≡ next → T (field_right p at)
  part-right e =
      ⊎_elim (λ t. t)
      (λ w. absurd (omega (arith, next-after p at, sym (pick-false (field_right p at) next at w) ∙ sym stop-part ∙ e)))
      (decide (field_right p at))

  pub part-wrong : (stop_from (take next p) at ≡ next → ⊥) → field_right p at ≡ false
  part-wrong n = T_false (field_right p at) (λ t. n (stop-part ∙ pick_true (field_right p at) next at (T_true (field_right p at) t)))

-- ---- past a field

module _ (p : List ℕ) (at : ℕ) where
  -- there is an end: the field is right, and that is its end
  pub past_some : (next : ℕ) → Some next ≡ past_field p at → T (field_right p at) × (next ≡ next_at p at)
  past_some next = by-case (field_right p at)
    where
      by-case : (b : Bool) → Some next ≡ pick b (Some (next_at p at)) None → T b × (next ≡ next_at p at)
      by-case true e = (tt, cc)
      by-case false e = cc

  -- there is none: it is a bad one
  pub past_none : None ≡ past_field p at → field_right p at ≡ false
  past_none = by-case (field_right p at)
    where
      by-case : (b : Bool) → None ≡ pick b (Some (next_at p at)) None → b ≡ false
      by-case true e = cc
      by-case false e = refl

-- ---- what stands at a place

-- a place on a word of the packet, behind its header
pub record Placed (p : List ℕ) (at : ℕ) : Type 0 where
  pub least : first_field ≤ at
  pub word : at % 4 ≡ 0
  pub inside : at ≤ length p

-- a right place is one
pub right_place : (p : List ℕ) (at : ℕ) → T (place_right p at) → Placed p at
unfolding place_right
right_place p at t =
    let word-inside = eqb (at % 4) 0 && leb at (length p) in
    let r = T-and-right (leb 12 at) word-inside t in
    record {
      least = leb→le 12 at (T-and-left (leb 12 at) word-inside t);
      word = eqb→eq (at % 4) 0 (T-and-left (eqb (at % 4) 0) (leb at (length p)) r);
      inside = leb→le at (length p) (T-and-right (eqb (at % 4) 0) (leb at (length p)) r);
    }

-- and such a place is right
place_right_lem : (p : List ℕ) (at : ℕ) → Placed p at → place_right p at ≡ true
unfolding place_right
place_right_lem p at o = rw (le-leb 12 at o.least, eq-eqb (at % 4) 0 o.word, le-leb at (length p) o.inside)

module _ (p : List ℕ) (at : ℕ) where
  -- a place that is not right is refused
  pub step-off : place_right p at ≡ false → step_of p at ≡ refused 4 0
  unfolding step_of
  step-off e = rw e

  pub step-misplaced : (Placed p at → ⊥) → step_of p at ≡ refused 4 0
  step-misplaced n = step-off (T_false (place_right p at) (λ t. n (right_place p at t)))

  -- the end of the packet
  pub step_end : 12 ≤ at → at % 4 ≡ 0 → at ≡ length p → step_of p at ≡ end
  unfolding step_of
  step_end h w e = rw (place_right_lem p at (record { least = h; word = w; inside = omega arith }), eq-eqb at (length p) e)

  -- before the end a wrong field is refused
  pub step-wrong : at < length p → field_right p at ≡ false → step_of p at ≡ refused 4 0
  unfolding step_of
  step-wrong l e =
      pick-cases (λ s. s ≡ refused 4 0) (place_right p at) _ _ (λ t. rw (ne_eqb at (length p) (omega arith), e)) (λ f. refl)

  -- a right field is handed out
  pub step_right : 12 ≤ at → at % 4 ≡ 0 → T (field_right p at) → (next : ℕ) → next ≡ next_at p at
      → step_of p at ≡ field (record { at = at; id = get_or p at 0; len = get_or p (at + 1) 0; next = next })
  unfolding step_of field_at
  step_right h w t next is =
      let inside : at < length p = omega (arith, right-next p at t, next-after p at) in
      rw (place_right_lem p at (record { least = h; word = w; inside = omega arith }), ne_eqb at (length p) (omega arith), T_true (field_right p at) t, is)
