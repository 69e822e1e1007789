-- Laws of the User IDs of the seats: the name in a row, place by place, and the seat that is looked for.
-- Assumes nothing.
use mathlib.Core.Path.{◌≡◌, sym, ap, ◌∙◌, subst}
use mathlib.Core.Logic.{⊎_elim}
use mathlib.Core.Bool.{Bool, true, false, ◌&&◌, and-false}
use mathlib.Core.List.{List, [], ◌∷◌, ◌++◌}
use mathlib.Core.Option.{none, some}
use Prim.Native.Nat.{ℕ, suc, ◌≤◌, ◌<◌, min}
use native.Mathlib.Omega.{arith}
use lib.ListN.{length, get_or, take, drop, length-take, take-append-drop, get_or-eq_default}
use lib.Seq.{drop-cons, get_or-take, take_all}
use lib.Dec.{T, eqb, eqb→eq}
use borrow.Author.Tests.{eq-eqb, le-leb, lt-leb, eqb-true, not-false}
use Rattle.octets.specs.Choice.{same, every, front, first_place}
use Rattle.octets.specs.Buffer.{zeros_from}
use Rattle.octets.proofs.Choice.{T_true, T_false, false-T, T-and-left, T-and-right, le-or-lt, test-eq, same-eq, eq-same, every_front, length-front-le, front-stop, front-all, front-append, first-place-some}
use Rattle.octets.proofs.Places.{take-front, length-front-every}
use Rattle.octets.proofs.Buffer.{same-padded}
use Rattle.sheet.specs.Judge.{longest_name, user_id}
use Rattle.sheet.specs.Value.{row_of, name_of}
use Rattle.sheet.specs.Find.{seat_of_user, new_name}
use Rattle.sheet.specs.Inner.{nonzero, good_row}

-- ---- the name in a row, from a place on

-- it is no longer than the row
pub length-name_of-le : (row : List ℕ) → length (name_of row) ≤ length row
unfolding name_of
length-name_of-le row = length-front-le nonzero row

-- it is the row's front
pub take-name_of : (row : List ℕ) → take (length (name_of row)) row ≡ name_of row
unfolding name_of
take-name_of row = take-front nonzero row

-- where it ends the row ends, or a zero stands
name_of-stop : (row : List ℕ) → get_or row (length (name_of row)) 0 ≡ 0
unfolding name_of
name_of-stop row =
    ⊎_elim (λ h. get_or-eq_default row 0 h) (λ h. eqb-true _ _ (not-false _ (front-stop nonzero row h))) (le-or-lt (length row) (length (name_of row)))

-- a zero in a row, or its end, behind octets of which none is
name_of-front : (row name : List ℕ) → take (length name) row ≡ name → get_or row (length name) 0 ≡ 0 → T (every nonzero name) → name_of row ≡ name
unfolding name_of
name_of-front row name e z t =
    let n = length name in
    ⊎_elim
    (λ h. let whole : row ≡ name = sym (take_all n row h) ∙ e in rw whole (front-all nonzero name t))
    (λ h.
    let split : row ≡ name ++ (get_or row n 0 ∷ drop (suc n) row) = sym (take-append-drop n row) ∙ rw (e, drop-cons row n 0 h) in
    ap (front nonzero) split ∙ front-append nonzero name (drop (suc n) row) (get_or row n 0) t (rw (eq-eqb _ _ z)))
    (le-or-lt (length row) n)

-- A row's name is a given one exactly if the row begins with it and ends there, or has a zero there, and none is in it.
pub same-name_of : (row name : List ℕ)
    → same (name_of row) name ≡ (eqb (get_or row (length name) 0) 0 && (same (take (length name) row) name && eqb (length (name_of name)) (length name)))
unfolding name_of
same-name_of row name =
    let n = length name in
    let ends = eqb (get_or row n 0) 0 in
    let begins = same (take n row) name in
    let whole = eqb (length (name_of name)) n in
    test-eq (same (name_of row) name) (ends && (begins && whole))
    (λ t. subst (λ (l : List ℕ). T (eqb (get_or row (length l) 0) 0 && (same (take (length l) row) l && eqb (length (name_of l)) (length l))))
    (same-eq (name_of row) name t)
    (rw (eq-eqb _ _ (name_of-stop row), T_true (same (take (length (name_of row)) row) (name_of row)) (eq-same _ _ (take-name_of row)), length-front-every nonzero (name_of row))
    (every_front nonzero row)))
    (λ t.
    let rest = T-and-right ends (begins && whole) t in
    eq-same (name_of row) name
    (name_of-front row name
    (same-eq (take n row) name (T-and-left begins whole rest))
    (eqb→eq _ _ (T-and-left ends (begins && whole) t))
    (rw (length-front-every nonzero name) at (T-and-right begins whole rest))))

-- ---- the first n octets of two rows

-- rows that differ there are not the same
pub same-take-false : (n : ℕ) (a b : List ℕ) → same (take n a) (take n b) ≡ false → same a b ≡ false
same-take-false n a b e = T_false (same a b) (λ t. false-T _ e (eq-same (take n a) (take n b) (ap (take n) (same-eq a b t))))

-- ---- the first of so many seats that passes a test, where the seats before one fail

module _ {ℓ} {A : Type ℓ} (p : A → Bool) (xs : List A) (d : A) (seats i : ℕ)
    (before : (k : ℕ) → k < i → p (get_or xs k d) ≡ false) where
  -- the next one passes
  pub first-seat-some : i < min seats (length xs) → p (get_or xs i d) ≡ true → first_place p (take seats xs) ≡ some i
  first-seat-some h e =
      first-place-some p (take seats xs) d i
      (record {
        inside = rw length-take h;
        passes = rw (get_or-take seats xs i d (omega arith)) e;
        earlier = λ k l. rw (get_or-take seats xs k d (omega arith)) (before k l);
      })

-- ---- a name that is new

module _ (seats : ℕ) (users : List (List ℕ)) (name : List ℕ) where
  -- it cannot be a User ID
  pub new_name-bad : user_id name ≡ false → new_name seats users name ≡ false
  unfolding new_name
  new_name-bad e = rw e

  -- a seat has it
  pub new_name-taken : (s : ℕ) → seat_of_user seats users name ≡ some s → new_name seats users name ≡ false
  unfolding new_name
  new_name-taken s e = rw (e, and-false)

  -- it can be one, and no seat has it
  pub new_name-free : user_id name ≡ true → seat_of_user seats users name ≡ none → new_name seats users name ≡ true
  unfolding new_name
  new_name-free t e = rw (t, e)

-- ---- a row as it has to be

-- a row is its name at fixed width exactly if zeros stand behind the name
pub same-row_of : (row : List ℕ) → length row ≡ longest_name → same row (row_of (name_of row)) ≡ zeros_from row (length (name_of row))
unfolding row_of
same-row_of row l = rw (l, take-name_of row) at (same-padded row (length (name_of row)) (length-name_of-le row))

module _ (seats : ℕ) (users : List (List ℕ)) (s : ℕ) where
  abbrev row : List ℕ
  row = get_or users s []

  -- it is more than a name at fixed width
  pub good_row-stained : same row (row_of (name_of row)) ≡ false → good_row seats users s ≡ false
  unfolding good_row
  good_row-stained e = rw e

  -- no seat is there: nothing stands in it
  pub good_row-unused : same row (row_of (name_of row)) ≡ true → seats ≤ s → good_row seats users s ≡ eqb (length (name_of row)) 0
  unfolding good_row
  good_row-unused e h = rw (e, le-leb seats s h)

  -- a seat's name is new
  pub good_row-used : same row (row_of (name_of row)) ≡ true → s < seats → good_row seats users s ≡ new_name s users (name_of row)
  unfolding good_row
  good_row-used e h = rw (e, lt-leb seats s h)
