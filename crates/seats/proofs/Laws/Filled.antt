-- Laws on how many octets of a row are not zero: as many as its name has, exactly if zeros stand behind the name. Assumes nothing.
use mathlib.Core.Path.{◌≡◌, refl, sym, ap, ◌∙◌}
use mathlib.Core.Logic.{⊎_elim}
use mathlib.Core.Bool.{Bool, true, false, not, ◌&&◌}
use mathlib.Core.List.{List, [], ◌∷◌}
use Prim.Native.Nat.{ℕ, zero, suc, ◌+◌, ◌≤◌, ◌<◌, zero-le, suc-le-suc}
use native.Mathlib.Numerals.{add-one}
use native.Mathlib.Omega.{arith}
use mir.Val.{bool_byte}
use lib.ListN.{length, get_or, take, drop, length-append, get_or-eq_default}
use lib.Seq.{take-suc, length-take-le, get_or-take}
use lib.Dec.{T, leb, eqb, eqb→eq, eqb-suc-zero}
use Rattle.std.specs.List.{list_any}
use Rattle.octets.specs.Choice.{pick, same, every, keep}
use Rattle.octets.specs.Buffer.{zeros_from}
use Rattle.octets.proofs.Keep.{keep_append}
use Rattle.octets.proofs.Choice.{true-T, T_true, T_false, false-T, decide, T_and, T-and-left, T-and-right, le-or-lt, test-eq, pick-cases, same-eq, eq-same, every-weaker}
use Rattle.sheet.specs.Judge.{visible, longest_name, user_id}
use Rattle.sheet.specs.Value.{row_of, name_of}
use Rattle.sheet.specs.Find.{seat_of_user, new_name}
use Rattle.sheet.specs.Inner.{nonzero, good_row}
use Rattle.seats.specs.Inner.{filled}
use Rattle.seats.proofs.Laws.Words.{none-any}
use Rattle.sheet.proofs.Laws.Rows.{take-name_of, new_name-bad, same-row_of, good_row-stained, good_row-unused, good_row-used}
use Rattle.sheet.proofs.Laws.Laid.{not-zero}

-- ---- counting

-- one octet more
pub filled_more : (row : List ℕ) (i : ℕ) → i < length row → filled (take (i + 1) row) ≡ filled (take i row) + bool_byte (nonzero (get_or row i 0))
filled_more row i h =
    rw (add-one, take-suc row i 0, keep_append, length-append) (ap (λ (n : ℕ). filled (take i row) + n) (by-test (nonzero (get_or row i 0))))
  where
    by-test : (b : Bool) → length (pick b (get_or row i 0 ∷ []) []) ≡ bool_byte b
    by-test true = refl
    by-test false = refl

-- at most all
pub filled-le : (row : List ℕ) → filled row ≤ length row
filled-le [] = zero-le
filled-le (x ∷ xs) =
    let h = filled-le xs in
    pick-cases (λ l. length l ≤ suc (length xs)) (nonzero x) (x ∷ keep nonzero xs) (keep nonzero xs) (λ t. suc-le-suc h) (λ e. omega arith)

-- ---- the name in a row, and zeros behind it

-- a test for zero
abbrev is_zero : ℕ → Bool
is_zero x = eqb x 0

-- none: each octet is zero
filled_none : (row : List ℕ) → eqb (filled row) 0 ≡ every is_zero row
filled_none [] = refl
filled_none (x ∷ xs) = by-test (eqb x 0) (filled_none xs)
  where
    by-test : (b : Bool) → eqb (filled xs) 0 ≡ every is_zero xs → eqb (length (pick (not b) (x ∷ keep nonzero xs) (keep nonzero xs))) 0 ≡ (b && every is_zero xs)
    by-test true h = h
    by-test false h = eqb-suc-zero (filled xs)

-- zeros behind the name: as many as it has
filled-name : (row : List ℕ) → T (zeros_from row (length (name_of row))) → filled row ≡ length (name_of row)
unfolding name_of zeros_from
filled-name [] t = refl
filled-name (x ∷ xs) t = by-test (eqb x 0) (filled-name xs) t
  where
    by-test : (b : Bool) → (T (zeros_from xs (length (name_of xs))) → filled xs ≡ length (name_of xs))
        → T (every is_zero (drop (length (pick (not b) (x ∷ name_of xs) [])) (x ∷ xs)))
        → length (pick (not b) (x ∷ keep nonzero xs) (keep nonzero xs)) ≡ length (pick (not b) (x ∷ name_of xs) [])
    by-test true h t = eqb→eq (filled xs) 0 (rw (filled_none xs) (T-and-right (is_zero x) (every is_zero xs) t))
    by-test false h t = ap suc (h t)

-- no zero among the first so many: zeros behind the name
filled-zeros : (row : List ℕ) → T (every nonzero (take (filled row) row)) → T (zeros_from row (length (name_of row)))
unfolding name_of zeros_from
filled-zeros [] t = tt
filled-zeros (x ∷ xs) t = by-test (eqb x 0) (filled xs) refl refl (filled-zeros xs) t
  where
    by-test : (b : Bool) (n : ℕ) → eqb x 0 ≡ b → filled xs ≡ n
        → (T (every nonzero (take (filled xs) xs)) → T (zeros_from xs (length (name_of xs))))
        → T (every nonzero (take (length (pick (not b) (x ∷ keep nonzero xs) (keep nonzero xs))) (x ∷ xs)))
        → T (every is_zero (drop (length (pick (not b) (x ∷ name_of xs) [])) (x ∷ xs)))
    by-test true zero e q h t = T_and (is_zero x) (every is_zero xs) (true-T (is_zero x) e) (rw (← filled_none xs, q) tt)
    by-test true (suc n) e q h t = absurd (rw e at (T-and-left (nonzero x) (every nonzero (take n xs)) (rw q at t)))
    by-test false n e q h t = h (T-and-right (nonzero x) (every nonzero (take (filled xs) xs)) t)

-- ---- a row as it has to be, by how many they are

module _ (seats : ℕ) (users : List (List ℕ)) (s : ℕ) (l : length (get_or users s []) ≡ longest_name) where
  abbrev row : List ℕ
  row = get_or users s []

  -- there is such a row
  inside : s < length users
  inside =
      ⊎_elim (λ h. absurd (let e = ap length (get_or-eq_default users [] {n = s} h) in omega (arith, l))) (λ h. h) (le-or-lt (length users) s)

  -- the row is its name at fixed width
  abbrev clean : Bool
  clean = same row (row_of (name_of row))

  -- so they are its name's
  clean-filled : T clean → filled row ≡ length (name_of row)
  clean-filled t = filled-name row (rw (same-row_of row l) at t)

  -- it is, where no zero is among the first so many
  filled-clean : T (every nonzero (take (filled row) row)) → T clean
  filled-clean t = rw (same-row_of row l) (filled-zeros row t)

  -- no seat is there: there are none
  pub unused-filled : seats ≤ s → good_row seats users s ≡ eqb (filled row) 0
  unused-filled h =
      ⊎_elim
      (λ t. good_row-unused seats users s (T_true clean t) h ∙ rw (clean-filled t))
      (λ e. good_row-stained seats users s e ∙ sym (T_false (eqb (filled row) 0) (λ z. false-T clean e (filled-clean (rw (eqb→eq (filled row) 0 z) tt)))))
      (decide clean)

  -- a seat is there, and the first so many octets are no User ID
  pub used-bad : s < seats → user_id (take (filled row) row) ≡ false → good_row seats users s ≡ false
  used-bad h u =
      ⊎_elim
      (λ t. good_row-used seats users s (T_true clean t) h ∙ new_name-bad s users (name_of row) (rw (clean-filled t, take-name_of row) at u))
      (λ e. good_row-stained seats users s e)
      (decide clean)

  -- a seat is there, and they are one
  module _ (h : s < seats) (u : T (user_id (take (filled row) row))) where
    -- so the row is its name at fixed width
    used-clean : T clean
    unfolding user_id
    used-clean =
        let name = take (filled row) row in
        filled-clean
        (every-weaker visible nonzero not-zero name
        (T-and-right (leb (length name) longest_name) (every visible name) (T-and-right (leb 1 (length name)) _ u)))

    -- a good row has the same name exactly if it is the same
    same_name : (i : ℕ) → T (good_row seats users i) → same (name_of (get_or users i [])) (name_of row) ≡ same (get_or users i []) row
    unfolding good_row
    same_name i g =
        let other = get_or users i [] in
        let whole = same-eq other (row_of (name_of other)) (T-and-left (same other (row_of (name_of other))) _ g) in
        test-eq (same (name_of other) (name_of row)) (same other row)
        (λ t. eq-same other row (whole ∙ (ap row_of (same-eq (name_of other) (name_of row) t) ∙ sym (same-eq row (row_of (name_of row)) used-clean))))
        (λ t. eq-same (name_of other) (name_of row) (ap name_of (same-eq other row t)))

    -- behind good rows it is good exactly if none of them is the same
    pub used-new : ((i : ℕ) → i < s → T (good_row seats users i)) → (taken : Bool) → taken ≡ list_any (λ other. same other row) (take s users)
        → not taken ≡ good_row seats users s
    unfolding new_name seat_of_user
    used-new good taken e =
        let test : List ℕ → Bool = λ other. same (name_of other) (name_of row) in
        let named : user_id (name_of row) ≡ true = rw (clean-filled used-clean, take-name_of row) at (T_true (user_id (take (filled row) row)) u) in
        rw e
        (sym (none-any test (λ other. same other row) (take s users) []
        (λ i l.
        let k : i < s = omega (arith, length-take-le s users (omega (arith, inside))) in
        rw (get_or-take s users i [] k) (same_name i (good i k))))
        ∙ sym (good_row-used seats users s (T_true clean used-clean) h ∙ rw named))
