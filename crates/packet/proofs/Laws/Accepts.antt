-- A packet reads to a message exactly if its fields are an arrangement that the table allows (`AcceptsExactly`). It is judged by the first
-- Result that it has, which is the one that the message holds; for the other kinds that does not matter. Assumes nothing.
use mathlib.Core.Path.{◌≡◌, refl, sym, ap, ◌∙◌, subst}
use mathlib.Core.Bool.{Bool, false, not, or-false}
use mathlib.Core.List.{List, [], ◌∷◌, map}
use mathlib.Core.Option.{Option, none, some}
use Prim.Native.Nat.{ℕ}
use lib.Dec.{T, leb, eqb, eqb_refl}
use borrow.Author.Tests.{not-true}
use Rattle.octets.specs.Choice.{All, every}
use Rattle.octets.proofs.First.{first-all}
use Rattle.octets.proofs.Choice.{T_true, T-and-left, T-and-right, T-or-left}
use Rattle.fields.specs.declared.field.Field.{Field}
use Rattle.fields.specs.Header.{ack_asked, ssrc_in}
use Rattle.fields.specs.Walk.{fields_of, whole}
use Rattle.fields.specs.Claims.{Headed}
use Rattle.kinds.specs.declared.kind.Form.TheVariants.{Cause, Result}
use Rattle.kinds.specs.declared.kind.Slot.{Slot}
use Rattle.kinds.specs.declared.Numbers.{Numbers}
use Rattle.kinds.specs.Kind.{always, unless_granted, Row, row, indicator, Kind, kinds, has_kind, kind_of, settled, slots_of, may_lack, is_result, grants}
use Rattle.kinds.specs.Judge.{Held, fits, held_in, fields_with, number_at, grant_in, granted, filled_in, fault_of, held_by}
use Rattle.kinds.specs.Reading.{reads, slots_in, message_of, read_as, read_by}
use Rattle.packet.specs.Claims.{present, AllowsAll, is_one, AcceptsExactly}
use Rattle.kinds.proofs.Laws.Reading.{read_by-past}
use Rattle.packet.proofs.Laws.Allowed.{uses, orderly, arranged_used, present-own, Judged, Allowed, judged-allowed, allowed-judged}

-- ---- Result

-- no row is a Result's
abbrev no_result : List Row → Bool
no_result rows = every (λ (r : Row). not (is_result r.form)) rows

-- so none grants
grants-none : (rows : List Row) (values : List Held) → T (no_result rows) → grants is_one rows values ≡ false
unfolding grants
grants-none [] values t = refl
grants-none (r ∷ rows) [] t = refl
grants-none (r ∷ rows) (v ∷ values) t =
    let first = T-and-left (not (is_result r.form)) (no_result rows) t in
    rw (not-true (is_result r.form) (T_true (not (is_result r.form)) first))
    (grants-none rows values (T-and-right (not (is_result r.form)) (no_result rows) t))

-- the first Result decides: it is 1 exactly if the message's is
result-decides : (p : List ℕ) (id : ℕ) (rows : List Row) → T (no_result rows) → (g : Bool) (values : List Held)
    → Allowed p (row id Result always ∷ rows) g values → granted p id (fields_of p) ≡ grants is_one (row id Result always ∷ rows) values
unfolding granted grant_in grants is_result is_one may_lack fits held_in
result-decides p id rows t g values a =
    let fs = fields_of p in
    by_first a.0 values a.1 (arranged_used (row id Result always ∷ rows) fs (present a.0) a.2 id (T-or-left (eqb id id) (uses id rows) (eqb_refl id)))
  where
    by_first : (os : List (Option Field)) (vs : List Held) → AllowsAll p g (row id Result always ∷ rows) os vs
        → fields_with id (fields_of p) ≡ fields_with id (present os) → granted p id (fields_of p) ≡ grants is_one (row id Result always ∷ rows) vs
    by_first [] vs x e = absurd x
    by_first (o ∷ os) [] x e = absurd x
    by_first (none ∷ os) (v ∷ vs) x e = absurd x.0.0
    by_first (some f ∷ os) (v ∷ vs) x e =
        let two = T_true (eqb f.len 2) (T-and-left (eqb f.len 2) (leb (number_at p f) 1) x.0.2) in
        rw (e, present-own id f os (rw x.0.1 (eqb_refl id)), two, x.0.3, grants-none rows vs t) (sym (or-false (eqb (number_at p f) 1)))

-- ---- the kinds of the table

-- a kind's rows are in order, and its slots are those that the message's Result asks for
abbrev KindRight : Numbers → List ℕ → Kind → Type 0
KindRight n p k =
    T (orderly k.rows)
    × ((g : Bool) (values : List Held) → Allowed p k.rows g values → slots_in n p k ≡ slots_of (grants is_one k.rows values) k)

-- only the slots of kind 2 depend on it
kinds-right : (n : Numbers) (p : List ℕ) → All (KindRight n p) (kinds n)
unfolding kinds slots_in slots_of settled
kinds-right n p = (
  (tt, λ g values a. refl),
  (
    (
      tt,
      λ g values a. ap (λ (b : Bool). map (settled b) (row n.resultid Result always ∷ row 2 Cause unless_granted ∷ indicator ∷ []))
          (result-decides p n.resultid (row 2 Cause unless_granted ∷ indicator ∷ []) (unfold is_result in tt) g values a),
    ),
    (
      (tt, λ g values a. refl),
      (
        (tt, λ g values a. refl),
        (
          (tt, λ g values a. refl),
          (
            (tt, λ g values a. refl),
            (
              (tt, λ g values a. refl),
              tt,
            ),
          ),
        ),
      ),
    ),
  ),
)

-- the rows of a packet's kind are in order
pub kind-orderly : (n : Numbers) (p : List ℕ) (k : Kind) → kind_of n p ≡ some k → T (orderly k.rows)
unfolding kind_of
kind-orderly n p k e = (first-all (has_kind p) k (KindRight n p) (kinds n) (kinds-right n p) e).0.0

-- ---- reading

-- past checks 1 to 4 it is the judging
pub read_by-is : (n : Numbers) (p : List ℕ) (k : Kind) → Headed p → kind_of n p ≡ some k → T (whole p)
    → read_by n p ≡ message_of p k.kind (slots_in n p k) (fault_of p (slots_in n p k) (fields_of p))
unfolding read_as
read_by-is n p k h e w = rw (read_by-past n p h, e, T_true (whole p) w)

-- a message's values are those judged
pub message_of-reads : (p : List ℕ) (kind : ℕ) (slots : List Slot) (o : Option ℕ) (k ssrc : ℕ) (ack : Bool) (values : List Held)
    → message_of p kind slots o ≡ reads k ssrc ack values → (o ≡ none) × (map (held_by p) (filled_in slots (fields_of p)) ≡ values)
unfolding message_of
message_of-reads p kind slots none k ssrc ack values e = (refl, cc)
message_of-reads p kind slots (some at) k ssrc ack values e = (cc, cc)

-- A packet past checks 1 to 4 reads to a message exactly if its fields are an arrangement that the table allows.
pub accepts_exactly : AcceptsExactly
unfolding kind_of slots_in slots_of message_of
accepts_exactly n p k values h e w =
    let fs = fields_of p in
    let grant = grants is_one k.rows values in
    let slots = slots_in n p k in
    let is = read_by-is n p k h e w in
    let same : KindRight n p k = (first-all (has_kind p) k (KindRight n p) (kinds n) (kinds-right n p) e).0 in (
      λ r.
          let judged = message_of-reads p k.kind slots (fault_of p slots fs) k.kind (ssrc_in p) (ack_asked p) values (sym is ∙ r) in
          let first = granted p n.resultid fs in
          let settles = same.1 first values (judged-allowed p k.rows first values judged) in
          judged-allowed p k.rows grant values (subst (λ (l : List Slot). Judged p l values) settles judged),
      λ a.
          let judged = subst (λ (l : List Slot). Judged p l values) (sym (same.1 grant values a)) (allowed-judged p k.rows grant values same.0 a) in
          is ∙ rw (judged.0, judged.1),
    )
