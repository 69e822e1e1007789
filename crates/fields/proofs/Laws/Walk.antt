-- Laws of the walk over fields: the equations that a reader expects of it, without the count that bounds it, and where a right
-- field lies. Assumes nothing.
use mathlib.Core.Path.{◌≡◌, refl, sym, ap, ◌∙◌}
use mathlib.Core.Logic.{⊎_elim}
use mathlib.Core.Bool.{Bool, true, false, ◌&&◌}
use mathlib.Core.List.{List, [], ◌∷◌}
use Prim.Native.Nat.{ℕ, zero, suc, ◌+◌, ◌-◌, ◌%◌, ◌≤◌, ◌<◌}
use native.Mathlib.Numerals.{add-one}
use native.Mathlib.Omega.{arith}
use lib.ListN.{length, get_or, take, drop, drop_of_length-le}
use lib.Seq.{slice, drop-cons}
use lib.Dec.{T, leb, ltb, leb→le, ltb→lt}
use borrow.Author.Tests.{lt-ltb, le-leb, eq-eqb, ne_eqb}
use Rattle.octets.specs.Choice.{every, pick}
use Rattle.octets.proofs.Lists.{take-drop-slice}
use Rattle.octets.proofs.Choice.{T_and, T_true, T_false, T-and-left, T-and-right, true-T, false-T, decide, pick-false}
use Rattle.fields.specs.declared.field.Field.{Field}
use Rattle.fields.specs.Header.{first_field}
use Rattle.fields.specs.Walk.{fields_of, to_word, value_end, next_at, padding, zeros, field_right, field_at, fields_by, stop_by, fields_from, stop_from}

-- ---- where a field lies

-- a field takes a word at least
pub next-after : (p : List ℕ) (at : ℕ) → at + 4 ≤ next_at p at
unfolding next_at to_word
next-after p at = omega arith

-- so many octets behind its place the next field begins
pub next-size : (p : List ℕ) (at size : ℕ) → size ≡ to_word (2 + get_or p (at + 1) 0) → at + size ≡ next_at p at
unfolding next_at
next-size p at size e = rw e

-- its value ends before the next field begins
pub value_end-next : (p : List ℕ) (at : ℕ) → value_end p at ≤ next_at p at
unfolding value_end next_at to_word
value_end-next p at = omega arith

-- the next field begins on a word too
pub next_word : (p : List ℕ) (at : ℕ) → at % 4 ≡ 0 → next_at p at % 4 ≡ 0
unfolding next_at to_word
next_word p at h = omega arith

-- a right field ends in the packet
pub right-next : (p : List ℕ) (at : ℕ) → T (field_right p at) → next_at p at ≤ length p
unfolding field_right
right-next p at t =
    let ends = leb (next_at p at) (length p) in
    let behind = zeros (padding p at) in
    leb→le (next_at p at) (length p) (T-and-left ends behind (T-and-right (ltb (get_or p at 0) 192) (ends && behind) t))

-- it is four octets long at least, and its value ends in the packet
pub right-inside : (p : List ℕ) (at : ℕ) → T (field_right p at) → (at + 4 ≤ length p) × (at + 2 + get_or p (at + 1) 0 ≤ length p)
unfolding value_end
right-inside p at t =
    let next = right-next p at t in
    let least = next-after p at in
    let value = value_end-next p at in
    (omega arith, omega arith)

pub right_word : (p : List ℕ) (at : ℕ) → T (field_right p at) → at + 4 ≤ length p
right_word p at t = (right-inside p at t).0

pub right_value : (p : List ℕ) (at : ℕ) → T (field_right p at) → at + 2 + get_or p (at + 1) 0 ≤ length p
right_value p at t = (right-inside p at t).1

-- its ID is below 192
pub right-id : (p : List ℕ) (at : ℕ) → T (field_right p at) → get_or p at 0 < 192
unfolding field_right
right-id p at t =
    ltb→lt (get_or p at 0) 192 (T-and-left (ltb (get_or p at 0) 192) (leb (next_at p at) (length p) && zeros (padding p at)) t)

-- its padding is zero
pub right-padding : (p : List ℕ) (at : ℕ) → T (field_right p at) → T (zeros (padding p at))
unfolding field_right
right-padding p at t =
    let ends = leb (next_at p at) (length p) in
    let behind = zeros (padding p at) in
    T-and-right ends behind (T-and-right (ltb (get_or p at 0) 192) (ends && behind) t)

-- a field that has all three is right
pub field_right-all : (p : List ℕ) (at : ℕ) → get_or p at 0 < 192 → next_at p at ≤ length p → T (zeros (padding p at)) → T (field_right p at)
unfolding field_right
field_right-all p at h l t = rw (lt-ltb (get_or p at 0) 192 h, le-leb (next_at p at) (length p) l) t

-- a field with another ID is wrong
pub wrong-id : (p : List ℕ) (at : ℕ) → 192 ≤ get_or p at 0 → field_right p at ≡ false
wrong-id p at h = T_false (field_right p at) (λ t. omega (arith, right-id p at t))

-- so is one that ends past the packet
pub wrong-next : (p : List ℕ) (at : ℕ) → length p < next_at p at → field_right p at ≡ false
wrong-next p at h = T_false (field_right p at) (λ t. omega (arith, right-next p at t))

-- where no word is left there is none
pub right_room : (p : List ℕ) (at : ℕ) → length p < at + 4 → field_right p at ≡ false
right_room p at h = wrong-next p at (omega (arith, next-after p at))

-- nor at the end
pub right_end : (p : List ℕ) (at : ℕ) → length p ≤ at → field_right p at ≡ false
right_end p at h = right_room p at (omega arith)

-- ---- the padding

-- the octets from i on decide whether all are zero, where those before are
module _ (xs : List ℕ) (i : ℕ) where
  -- a zero: those behind it decide
  pub zeros-zero : i < length xs → get_or xs i 0 ≡ 0 → zeros (drop i xs) ≡ zeros (drop (i + 1) xs)
  unfolding zeros
  zeros-zero h e = rw (add-one, drop-cons xs i 0 h, eq-eqb (get_or xs i 0) 0 e)

  -- another octet
  pub zeros-other : i < length xs → (get_or xs i 0 ≡ 0 → ⊥) → zeros (drop i xs) ≡ false
  unfolding zeros
  zeros-other h n = rw (drop-cons xs i 0 h, ne_eqb (get_or xs i 0) 0 n)

  -- none left
  pub zeros-none : length xs ≤ i → zeros (drop i xs) ≡ true
  unfolding zeros
  zeros-none h = rw (drop_of_length-le xs {i = i} h)

-- the padding stands from the value's end to the next field
pub padding-slice : (p : List ℕ) (at : ℕ) → padding p at ≡ slice (value_end p at) (next_at p at) p
unfolding padding
padding-slice p at = take-drop-slice (value_end p at) (next_at p at) p

module _ (p : List ℕ) (at size : ℕ) (next : at + size ≡ next_at p at) where
  -- the octets of the field behind its value
  abbrev pub behind_value : List ℕ
  behind_value = let end = at + 2 + get_or p (at + 1) 0 in take (at + size - end) (drop end p)

  behind-value : behind_value ≡ padding p at
  unfolding padding value_end
  behind-value =
      let end : at + 2 + get_or p (at + 1) 0 ≡ at + (2 + get_or p (at + 1) 0) = omega arith in
      rw (end, next)

  -- they are zero: it is right if its ID is, and it ends in the packet
  pub padding-right : get_or p at 0 < 192 → next_at p at ≤ length p → zeros behind_value ≡ true → T (field_right p at)
  padding-right h l e = field_right-all p at h l (true-T (zeros (padding p at)) (rw behind-value at e))

  -- they are not
  pub padding-wrong : zeros behind_value ≡ false → field_right p at ≡ false
  padding-wrong e = T_false (field_right p at) (λ t. false-T (zeros (padding p at)) (rw behind-value at e) (right-padding p at t))

-- ---- the walk's equations

-- a walk that is bounded by a count: at a right field it goes on from the next, at any other place it stops
module _ {A : Type 0} (p : List ℕ) (walk : ℕ → ℕ → A) (goes : ℕ → A → A) (stops : ℕ → A) (none_left : (at : ℕ) → walk zero at ≡ stops at) (one_more : (n at : ℕ) → walk (suc n) at ≡ pick (field_right p at) (goes at (walk n (next_at p at))) (stops at)) where
  -- a bound that no field meets may be higher
  bound-suc : (n at : ℕ) → length p ≤ at + n → walk n at ≡ walk (suc n) at
  bound-suc zero at h =
      none_left at ∙ sym (one_more zero at ∙ pick-false (field_right p at) (goes at (walk zero (next_at p at))) (stops at) (right_end p at (omega arith)))
  bound-suc (suc n) at h =
      one_more n at
      ∙ ap (λ (x : A). pick (field_right p at) (goes at x) (stops at)) (bound-suc n (next_at p at) (omega (arith, next-after p at)))
      ∙ sym (one_more (suc n) at)

  -- so that the packet's length bounds nothing
  bound-length : (at : ℕ) → walk (length p) at ≡ pick (field_right p at) (goes at (walk (length p) (next_at p at))) (stops at)
  bound-length at = bound-suc (length p) at (omega arith) ∙ one_more (length p) at

-- the fields from a place on, by whether one stands there
pub fields_from-pick : (p : List ℕ) (at : ℕ) → fields_from p at ≡ pick (field_right p at) (field_at p at ∷ fields_from p (next_at p at)) []
unfolding fields_from fields_by
fields_from-pick p at = bound-length p (λ n a. fields_by n p a) (λ a fs. field_at p a ∷ fs) (λ a. []) (λ a. refl) (λ n a. refl) at

-- where the walk from a place on stops
pub stop_from-pick : (p : List ℕ) (at : ℕ) → stop_from p at ≡ pick (field_right p at) (stop_from p (next_at p at)) at
unfolding stop_from stop_by
stop_from-pick p at = bound-length p (λ n a. stop_by n p a) (λ a stop. stop) (λ a. a) (λ a. refl) (λ n a. refl) at

-- a right field goes before those from the next on
pub fields_from-right : (p : List ℕ) (at : ℕ) → T (field_right p at) → fields_from p at ≡ field_at p at ∷ fields_from p (next_at p at)
fields_from-right p at t = fields_from-pick p at ∙ rw (T_true (field_right p at) t)

pub stop_from-right : (p : List ℕ) (at : ℕ) → T (field_right p at) → stop_from p at ≡ stop_from p (next_at p at)
stop_from-right p at t = stop_from-pick p at ∙ rw (T_true (field_right p at) t)

-- at any other place the walk stops
pub fields_from-wrong : (p : List ℕ) (at : ℕ) → field_right p at ≡ false → fields_from p at ≡ []
fields_from-wrong p at e = fields_from-pick p at ∙ rw e

pub stop_from-wrong : (p : List ℕ) (at : ℕ) → field_right p at ≡ false → stop_from p at ≡ at
stop_from-wrong p at e = stop_from-pick p at ∙ rw e

-- a walk that goes to the end has a right field at each place before it
pub stop_from-whole : (p : List ℕ) (at : ℕ) → stop_from p at ≡ length p → at < length p → T (field_right p at)
stop_from-whole p at e h =
    ⊎_elim (λ t. t) (λ w. absurd (omega (arith, stop_from-wrong p at w))) (decide (field_right p at))

-- what holds of the end of a walk, and of a place where it holds of the next, holds wherever the walk goes
pub walk_ind {ℓ} : (p : List ℕ) (P : ℕ → Type ℓ) → ((at : ℕ) → field_right p at ≡ false → P at) → ((at : ℕ) → T (field_right p at) → P (next_at p at) → P at)
    → (at : ℕ) → P at
walk_ind p P stops goes at = from (length p) at (omega arith)
  where
    from : (n a : ℕ) → length p ≤ a + n → P a
    from zero a h = stops a (right_end p a (omega arith))
    from (suc n) a h =
        ⊎_elim (λ t. goes a t (from n (next_at p a) (omega (arith, next-after p a)))) (stops a) (decide (field_right p a))

-- a walk that begins in the packet stops there
pub stop_from-le : (p : List ℕ) (at : ℕ) → at ≤ length p → stop_from p at ≤ length p
stop_from-le p =
    walk_ind p (λ at. at ≤ length p → stop_from p at ≤ length p)
    (λ at e h. rw (stop_from-wrong p at e) h)
    (λ at t r h. rw (stop_from-right p at t) (r (right-next p at t)))

-- at a place of a walk that goes to the end: the next one's place
pub whole-next : (p : List ℕ) (at : ℕ) → stop_from p at ≡ length p → at < length p → (at + 4 ≤ next_at p at) × (next_at p at ≤ length p)
whole-next p at e h = (next-after p at, right-next p at (stop_from-whole p at e h))

-- so a word stands there, ..
pub whole_word : (p : List ℕ) (at : ℕ) → stop_from p at ≡ length p → at < length p → at + 4 ≤ length p
whole_word p at e h = omega (arith, whole-next p at e h)

-- .. and so many octets, a word at least
pub whole_size : (p : List ℕ) (at size : ℕ) → size ≡ to_word (2 + get_or p (at + 1) 0) → stop_from p at ≡ length p → at < length p → at + size ≤ length p
whole_size p at size is e h = omega (arith, next-size p at size is, whole-next p at e h)

pub size_least : (n size : ℕ) → size ≡ to_word (2 + n) → 4 ≤ size
unfolding to_word
size_least n size is = omega arith

-- what holds of each right field behind the header holds of each field of the packet
pub every-field : (p : List ℕ) (q : Field → Bool) → ((at : ℕ) → first_field ≤ at → T (field_right p at) → T (q (field_at p at))) → T (every q (fields_of p))
unfolding fields_of
every-field p q h =
    walk_ind p (λ at. first_field ≤ at → T (every q (fields_from p at)))
    (λ at e l. rw (fields_from-wrong p at e) tt)
    (λ at t r l. rw (fields_from-right p at t) (T_and (q (field_at p at)) (every q (fields_from p (next_at p at))) (h at l t) (r (omega (arith, next-after p at)))))
    first_field
    (omega arith)
