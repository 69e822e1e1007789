-- Laws of the reader that remembers its packet and its place, and the claims of specs/Claims.antt on it. Assumes nothing.
use mathlib.Core.Path.{◌≡◌, refl, sym, ap, ap₂, ◌∙◌}
use mathlib.Core.Logic.{◌↔◌, ⊎_elim}
use mathlib.Core.Bool.{Bool, true, false}
use mathlib.Core.List.{List, [], ◌∷◌}
use Prim.Native.Nat.{ℕ}
use native.Mathlib.Nat.{eq-or-lt_of_le}
use native.Mathlib.Omega.{arith}
use lib.ListN.{length}
use lib.Dec.{T, eqb}
use borrow.Author.Tests.{eq-eqb, ne_eqb}
use denote.Ref.{Bor}
use Rattle.std.specs.Prelude.{Option, Some, None, Result, Ok, Err}
use Rattle.octets.specs.Choice.{pick}
use Rattle.octets.proofs.Choice.{decide}
use Rattle.fields.specs.declared.field.Field.{Field}
use Rattle.field_reader.specs.declared.FieldReader.{FieldReader}
use Rattle.field_reader.specs.declared.Made.{Made}
use Rattle.sheet.specs.declared.Refusal.{Refusal}
use Rattle.sheet.specs.declared.Refusal.TheVariants.{Size, Header}
use Rattle.fields.specs.Header.{first_field, size_right, head_right, checked}
use Rattle.fields.specs.Walk.{Stepped, field, refused, field_right, field_at, next_at, fields_from, fields_of, stop_from, whole, step_of, step_said}
use Rattle.fields.specs.Apart.{step_apart}
use Rattle.fields.specs.Claims.{Headed}
use Rattle.field_reader.specs.Reader.{reader_at, refusal_in, start_of, step_by, moved_to, reader_after, field_in}
use Rattle.field_reader.specs.Promises.{reader_at≡}
use Rattle.field_reader.specs.Claims.{HandsOut, Stays, refused4, MadeExactly, NothingBeside, StepsAsTheWalk, SaidByAReader}
use Rattle.fields.proofs.Laws.Sized.{sized}
use Rattle.fields.proofs.Laws.Checks.{past_checks-headed, checked_ok, checked-number, checked-line}
use Rattle.fields.proofs.Laws.Walk.{next-after, next_word, right-next, fields_from-right, fields_from-wrong, stop_from-right, stop_from-wrong, walk_ind}
use Rattle.fields.proofs.Laws.Step.{Placed, step-misplaced, step_end, step-wrong, step_right}

-- ---- making one

-- nothing is refused
none_refused : (r : Result Unit Refusal) → refusal_in r ≡ None → Ok tt ≡ r
none_refused (Ok u) e = refl
none_refused (Err r) e = cc

-- this is refused
some_refused : (r : Result Unit Refusal) (e : Refusal) → refusal_in r ≡ Some e → Err e ≡ r
some_refused (Ok u) e q = cc
some_refused (Err r) e q = cc

module _ (packet : Bor (List ℕ)) (at : ℕ) (m : Made) (made : reader_at≡ packet at m) where
  -- no refusal: past both checks, where it starts, and what is said of the place
  pub made-none : m.refusal ≡ None → Headed packet.now
  made-none e = checked_ok packet.now (none_refused (checked packet.now) (rw made at e))

  pub start-none : m.refusal ≡ None → m.reader ≡ reader_at packet at
  unfolding start_of
  start-none e = rw (made, past_checks-headed (λ (number : ℕ). 0) packet.now at (made-none e))

  pub said-none : m.refusal ≡ None → step_by m.reader ≡ field_in packet.now at
  unfolding field_in
  said-none e =
      let p = packet.now in
      rw (start-none e, past_checks-headed (λ (number : ℕ). refused number 0) p (step_of p at) (made-none e))

  -- a refusal: where it starts, and what is said of the place
  pub made-some : (r : Refusal) → m.refusal ≡ Some r → Err r ≡ checked packet.now
  made-some r e = some_refused (checked packet.now) r (rw made at e)

  pub start-some : (r : Refusal) → m.refusal ≡ Some r → m.reader ≡ reader_at packet 0
  unfolding start_of
  start-some r e = rw (made, checked-number (λ (number : ℕ). 0) packet.now at r (made-some r e))

  pub said-some : (r : Refusal) → m.refusal ≡ Some r → step_said (Err r) ≡ field_in packet.now at
  unfolding field_in
  said-some r e =
      let p = packet.now in
      let told = made-some r e in
      rw (checked-line p r told, checked-number (λ (number : ℕ). refused number 0) p (step_of p at) r told)

-- ---- a step at a place that a walk from 12 comes to

-- 12 is one
placed_first : (p : List ℕ) → Headed p → Placed p first_field
placed_first p h = record { least = omega arith; word = refl; inside = (sized p h.0).least }

-- and so is the next, behind a right field
placed-next : (p : List ℕ) (at : ℕ) → Placed p at → T (field_right p at) → Placed p (next_at p at)
placed-next p at o t =
    record {
      least = omega (arith, o.least, next-after p at);
      word = next_word p at o.word;
      inside = right-next p at t;
    }

-- a right field is handed out
step_field : (p : List ℕ) (at : ℕ) → Placed p at → T (field_right p at) → step_of p at ≡ field (field_at p at)
unfolding field_at
step_field p at o t = step_right p at o.least o.word t (next_at p at) refl

-- the end, or 4
abbrev rest_of : List ℕ → ℕ → Result (Option Field) Refusal
rest_of p at = pick (eqb at (length p)) (Ok None) refused4

-- at any other place the end is told, or 4
step_rest : (p : List ℕ) (at : ℕ) → Placed p at → field_right p at ≡ false → step_said (rest_of p at) ≡ step_of p at
step_rest p at o w =
    ⊎_elim
    (λ e. rw (eq-eqb at (length p) e) (sym (step_end p at o.least o.word e)))
    (λ l. rw (ne_eqb at (length p) (omega arith)) (sym (step-wrong p at l w)))
    (eq-or-lt_of_le o.inside)

-- what is said there hands out no field
rest_stays : (b : Bool) (at : ℕ) → moved_to (step_said (pick b (Ok None) refused4)) at ≡ at
rest_stays true at = refl
rest_stays false at = refl

rest-none : (b : Bool) (f : Field) → step_said (pick b (Ok None) refused4) ≡ field f → ⊥
rest-none true f e = let z : ◌≡◌ {A = ℕ} 0 1 = cc in omega arith
rest-none false f e = let z : ◌≡◌ {A = ℕ} 0 1 = cc in omega arith

-- ---- stepping

module _ (packet : Bor (List ℕ)) where
  abbrev p : List ℕ
  p = packet.now

  abbrev on : ℕ → FieldReader
  on = reader_at packet

  -- a reader stays where no right field is, ..
  stays : (at : ℕ) → Placed p at → field_right p at ≡ false → Stays (on at) (rest_of p at)
  stays at o w =
      let e = step_rest p at o w in
      (ap on (sym (ap (λ (x : Stepped). moved_to x at) (sym e) ∙ rest_stays (eqb at (length p)) at)), e)

  -- .. and nowhere else
  stays-only : (at : ℕ) (said : Result (Option Field) Refusal) → Placed p at → Stays (on at) said → (field_right p at ≡ false) × (said ≡ rest_of p at)
  unfolding field_at
  stays-only at said o st =
      ⊎_elim
      (λ t. absurd (omega (arith, next-after p at, ap (λ (r : FieldReader). r.at) st.0 ∙ ap (λ (x : Stepped). moved_to x at) (step_field p at o t))))
      (λ w. (w, step_apart said (rest_of p at) (st.1 ∙ sym (step_rest p at o w))))
      (decide (field_right p at))

  -- a step over a right field
  over : (at : ℕ) → Placed p at → T (field_right p at) → reader_after (on at) ≡ on (next_at p at)
  unfolding field_at
  over at o t = ap (λ (x : Stepped). on (moved_to x at)) (step_field p at o t)

  -- from a place on the fields of the walk are handed out, up to where it stops
  hands : (at : ℕ) → Placed p at → HandsOut (on at) (fields_from p at) (on (stop_from p at)) × Stays (on (stop_from p at)) (rest_of p (stop_from p at))
  hands =
      walk_ind p (λ at. Placed p at → HandsOut (on at) (fields_from p at) (on (stop_from p at)) × Stays (on (stop_from p at)) (rest_of p (stop_from p at)))
      (λ at w o. rw (fields_from-wrong p at w, stop_from-wrong p at w) (refl, stays at o w))
      (λ at t r o.
      let rest = r (placed-next p at o t) in
      rw (fields_from-right p at t, stop_from-right p at t) ((record { reader = on (next_at p at); said = Ok (Some (field_at p at)) }, (sym (over at o t), sym (step_field p at o t)), refl, rest.0), rest.1))

  -- and nothing else
  hands-only : (fs : List Field) (s : FieldReader) (said : Result (Option Field) Refusal) (at : ℕ) → Placed p at → HandsOut (on at) fs s → Stays s said
      → (fs ≡ fields_from p at) × (s ≡ on (stop_from p at)) × (said ≡ rest_of p (stop_from p at))
  hands-only [] s said at o e st =
      let only = stays-only at said o (rw e at st) in
      let stop = stop_from-wrong p at only.0 in
      (sym (fields_from-wrong p at only.0), e ∙ ap on (sym stop), rw stop only.1)
  hands-only (f ∷ fs) s said at o x st =
      let met : field f ≡ step_of p at = sym (ap step_said x.2) ∙ x.1.1 in
      ⊎_elim
      (λ t.
      let first : f ≡ field_at p at = cc (met, step_field p at o t) in
      let rest = hands-only fs s said (next_at p at) (placed-next p at o t) (rw (x.1.0, over at o t) at x.3) st in
      rw (fields_from-right p at t, stop_from-right p at t) (ap₂ (λ (y : Field) (ys : List Field). y ∷ ys) first rest.0, rest.1, rest.2))
      (λ w. absurd (rest-none (eqb at (length p)) f (step_rest p at o w ∙ sym met)))
      (decide (field_right p at))

-- ---- the claims

abbrev refused_by : Bool → Bool → Option Refusal
refused_by size head = refusal_in (pick size (pick head (Ok tt) (Err Header)) (Err Size))

pub made_exactly : MadeExactly
unfolding checked
made_exactly packet at m e = rw e (by-each (size_right packet.now) (head_right packet.now))
  where
    by-each : (size head : Bool)
        → ((refused_by size head ≡ None) ↔ (T size × T head))
        × ((refused_by size head ≡ Some Size) ↔ (size ≡ false))
        × ((refused_by size head ≡ Some Header) ↔ (T size × (head ≡ false)))
    by-each true true = (((λ e. (tt, tt)), λ x. refl), ((λ e. cc), λ e. cc), ((λ e. cc), λ x. cc x.1))
    by-each true false = (((λ e. cc), λ x. absurd x.1), ((λ e. cc), λ e. cc), ((λ e. (tt, refl)), λ x. refl))
    by-each false head = (((λ e. cc), λ x. absurd x.0), ((λ e. refl), λ e. refl), ((λ e. cc), λ x. absurd x.0))

pub nothing_beside : NothingBeside
nothing_beside packet at m made h = at_octet_0 m.refusal refl
  where
    misplaced : step_of packet.now 0 ≡ refused 4 0
    misplaced = step-misplaced packet.now 0 (λ o. omega arith)

    at_octet_0 : (r : Option Refusal) → m.refusal ≡ r → Stays m.reader refused4
    at_octet_0 None e = absurd (h e)
    at_octet_0 (Some r) e =
        rw (start-some packet at m made r e) (ap (λ (x : Stepped). reader_at packet (moved_to x 0)) (sym misplaced), sym misplaced)

pub steps_as_the_walk : StepsAsTheWalk
unfolding start_of fields_of whole
steps_as_the_walk packet m fs s said h e =
    let o = placed_first packet.now h in
    let reader : m.reader ≡ reader_at packet first_field = rw (e, past_checks-headed (λ (number : ℕ). 0) packet.now first_field h) in (
      (λ x. hands-only packet fs s said first_field o (rw reader at x.0) x.1),
      λ x. rw (x.0, x.1, x.2, reader) (hands packet first_field o),
    )

pub said_by_a_reader : SaidByAReader
said_by_a_reader packet at m h r made handed said = (
  (λ e. step_apart r h.said (said ∙ sym (handed.1 ∙ said-none packet at m made e))),
  λ x e. step_apart r (Err x) (said ∙ sym (said-some packet at m made x e)),
)
