-- A good line can always be found, so that every good front of a sheet is the front of a whole one. Assumes nothing.
use mathlib.Core.Path.{◌≡◌, refl, sym, ap, ◌∙◌, subst}
use mathlib.Core.Logic.{◌⊎◌, inl, inr, ⊎_elim}
use mathlib.Core.Bool.{Bool, true, false, not, ◌&&◌, ◌||◌}
use mathlib.Core.List.{List, [], ◌∷◌, ◌++◌, append-nil, append_assoc}
use Prim.Native.Nat.{ℕ, zero, suc, ◌+◌, ◌-◌, ◌≤◌, ◌<◌, zero-le}
use native.Mathlib.Nat.{not-suc-le-zero}
use native.Mathlib.Omega.{arith}
use lib.ListN.{length, take, length-append, get_or-append, get_or-eq_default}
use lib.Seq.{length-take-le}
use lib.Dec.{T, leb, eqb, leb→le, le→leb, eqb→eq, eqb_refl}
use Rattle.octets.specs.Choice.{pick, same, some_of}
use Rattle.octets.proofs.Choice.{below, false-T, decide, le-or-lt, T_and, T-and-left, T-and-right, T-or-left, T-or-right, T-or-cases, pick-cases, same_refl, same-eq}
use Rattle.sheet.specs.Table.{table, seat_row, number_lines, seats_line, most_seats, row_at}
use Rattle.sheet.specs.Judge.{Entry, numbers_in, names_in, taken, good_number, visible, user_id, good_name, good, in_turn, whole, valid}
use Rattle.sheet.proofs.Laws.Rules.{row_at-seat}
use Rattle.sheet.proofs.Laws.Entries.{in_turn-at, in_turn-snoc, good-numbers, length-numbers_in, length-names_in, numbers_in-append, seats_in, Open, eq-whole}

-- ---- a list of n leaves one of n + 1 different things out

module _ {A : Type 0} (eq : A → A → Bool) (eq_refl : (x : A) → T (eq x x)) (eq-eq : (x y : A) → T (eq x y) → x ≡ y) where
  holds : List A → A → Bool
  holds xs x = some_of (λ (y : A). eq y x) xs

  without : A → List A → List A
  without x [] = []
  without x (y ∷ ys) = pick (eq y x) ys (y ∷ without x ys)

  length_without : (x : A) (xs : List A) → T (holds xs x) → length xs ≡ suc (length (without x xs))
  unfolding holds without
  length_without x [] t = absurd t
  length_without x (y ∷ ys) t =
      pick-cases (λ zs. suc (length ys) ≡ suc (length zs)) (eq y x) ys (y ∷ without x ys)
      (λ h. refl)
      (λ e. ⊎_elim (λ h. absurd (false-T (eq y x) e h)) (λ h. ap suc (length_without x ys h)) (T-or-cases (eq y x) (some_of (λ (z : A). eq z x) ys) t))

  holds-without : (x z : A) (xs : List A) → (x ≡ z → ⊥) → T (holds xs z) → T (holds (without x xs) z)
  unfolding holds without
  holds-without x z [] ne t = absurd t
  holds-without x z (y ∷ ys) ne t =
      ⊎_elim
      (λ h. pick-cases (λ zs. T (some_of (λ (w : A). eq w z) zs)) (eq y x) ys (y ∷ without x ys)
      (λ k. absurd (ne (sym (eq-eq y x k) ∙ eq-eq y z h)))
      (λ e. T-or-left (eq y z) (some_of (λ (w : A). eq w z) (without x ys)) h))
      (λ h. pick-cases (λ zs. T (some_of (λ (w : A). eq w z) zs)) (eq y x) ys (y ∷ without x ys)
      (λ k. h)
      (λ e. T-or-right (eq y z) (some_of (λ (w : A). eq w z) (without x ys)) (holds-without x z ys ne h)))
      (T-or-cases (eq y z) (some_of (λ (w : A). eq w z) ys) t)

  module _ (f : ℕ → A) (apart : (i j : ℕ) → f i ≡ f j → i ≡ j) where
    crowded : (n : ℕ) (xs : List A) → ((j : ℕ) → j < n → T (holds xs (f j))) → n ≤ length xs
    crowded zero xs h = zero-le
    crowded (suc n) xs h =
        let t : T (holds xs (f n)) = h n (omega arith) in
        let m : n ≤ length (without (f n) xs) =
        crowded n (without (f n) xs)
        (λ j l. holds-without (f n) (f j) xs (λ q. let i : n ≡ j = apart n j q in omega arith) (h j (omega arith))) in
        omega (arith, length_without (f n) xs t)

    all-or-free : (n : ℕ) (xs : List A)
        → ((j : ℕ) → j < n → T (holds xs (f j))) ⊎ ((j : ℕ) × (j < n) × (holds xs (f j) ≡ false))
    all-or-free zero xs = inl (λ j l. absurd (not-suc-le-zero l))
    all-or-free (suc n) xs =
        ⊎_elim
        (λ all. ⊎_elim
        (λ t. inl (λ j l. ⊎_elim (λ h. all j h) (λ h. subst (λ (i : ℕ). T (holds xs (f i))) (omega arith) t) (le-or-lt (suc j) n)))
        (λ e. inr (n, omega arith, e))
        (decide (holds xs (f n))))
        (λ w. inr (w.0, omega (arith, w.1), w.2))
        (all-or-free n xs)

    -- one of the first length xs + 1 things is not in the list
    free : (xs : List A) → (j : ℕ) × (j ≤ length xs) × (holds xs (f j) ≡ false)
    free xs =
        ⊎_elim
        (λ all. absurd (let h : suc (length xs) ≤ length xs = crowded (suc (length xs)) xs all in omega arith))
        (λ w. (w.0, omega (arith, w.1), w.2))
        (all-or-free (suc (length xs)) xs)

-- ---- a number that a line may have

-- the numbers on the lines of a family, from line k on
of_family : ℕ → ℕ → List ℕ → List ℕ
of_family family k [] = []
of_family family k (m ∷ ms) = pick (eqb (row_at k).family family) (m ∷ of_family family (suc k) ms) (of_family family (suc k) ms)

-- how many of the n lines from line k on are of the family
kin : ℕ → ℕ → ℕ → ℕ
kin family k zero = 0
kin family k (suc n) = pick (eqb (row_at k).family family) (suc (kin family (suc k) n)) (kin family (suc k) n)

taken-by : (b : Bool) (m n : ℕ) (ms : List ℕ) (t : Bool) → t ≡ some_of (λ (y : ℕ). eqb y n) ms
    → ((b && eqb m n) || t) ≡ some_of (λ (y : ℕ). eqb y n) (pick b (m ∷ ms) ms)
taken-by true m n ms t e = rw e
taken-by false m n ms t e = e

taken-family : (family n k : ℕ) (ms : List ℕ) → taken family n k ms ≡ some_of (λ (y : ℕ). eqb y n) (of_family family k ms)
unfolding taken of_family
taken-family family n k [] = refl
taken-family family n k (m ∷ ms) = taken-by (eqb (row_at k).family family) m n (of_family family (suc k) ms) (taken family n (suc k) ms) (taken-family family n (suc k) ms)

length-by : (b : Bool) (m : ℕ) (ms : List ℕ) (n : ℕ) → length ms ≡ n → length (pick b (m ∷ ms) ms) ≡ pick b (suc n) n
length-by true m ms n e = ap suc e
length-by false m ms n e = e

length-of_family : (family k : ℕ) (ms : List ℕ) → length (of_family family k ms) ≡ kin family k (length ms)
unfolding of_family kin
length-of_family family k [] = refl
length-of_family family k (m ∷ ms) =
    length-by (eqb (row_at k).family family) m (of_family family (suc k) ms) (kin family (suc k) (length ms)) (length-of_family family (suc k) ms)

kin-le : (family k n : ℕ) → kin family k n ≤ n
unfolding kin
kin-le family k zero = zero-le
kin-le family k (suc n) =
    let h : kin family (suc k) n ≤ n = kin-le family (suc k) n in
    pick-cases (λ m. m ≤ suc n) (eqb (row_at k).family family) (suc (kin family (suc k) n)) (kin family (suc k) n) (λ t. omega arith) (λ e. omega arith)

-- each line's bounds leave room for a number more than its family has on the lines before
roomy : ℕ → Bool
roomy k = leb ((row_at k).least + kin (row_at k).family 0 k) (row_at k).greatest

roomy-table : (k : ℕ) → k < number_lines → T (roomy k)
unfolding roomy row_at kin number_lines table seat_row
roomy-table k l = below 11 (λ (i : ℕ). roomy i) tt k l

-- so many lines no sheet has
abbrev pub many : ℕ
many = 64

roomy-seat : (k : ℕ) → number_lines ≤ k → k ≤ many → T (roomy k)
unfolding roomy seat_row
roomy-seat k l h =
    rw (row_at-seat k l) (le→leb (0 + kin 7 0 k) 4294967295 (let b : kin 7 0 k ≤ k = kin-le 7 0 k in omega arith))

roomy-at : (k : ℕ) → k ≤ many → T (roomy k)
roomy-at k h = ⊎_elim (λ l. roomy-seat k l h) (λ l. roomy-table k l) (le-or-lt number_lines k)

-- a good number for the next line
pub fresh-number : (ns : List ℕ) → length ns ≤ many → (n : ℕ) × T (good_number ns n)
unfolding good_number roomy holds
fresh-number ns h =
    let r = row_at (length ns) in
    let w = free {A = ℕ} eqb eqb_refl eqb→eq (λ (j : ℕ). r.least + j) (λ i j q. omega arith) (of_family r.family 0 ns) in
    let b : r.least + kin r.family 0 (length ns) ≤ r.greatest =
    leb→le (r.least + kin r.family 0 (length ns)) r.greatest (roomy-at (length ns) h) in
    let l : length (of_family r.family 0 ns) ≡ kin r.family 0 (length ns) = length-of_family r.family 0 ns in
    let f : taken r.family (r.least + w.0) 0 ns ≡ false = taken-family r.family (r.least + w.0) 0 ns ∙ w.2 in (
      r.least + w.0,
      T_and (leb r.least (r.least + w.0)) (leb (r.least + w.0) r.greatest && not (taken r.family (r.least + w.0) 0 ns))
          (le→leb r.least (r.least + w.0) (omega arith))
          (T_and (leb (r.least + w.0) r.greatest) (not (taken r.family (r.least + w.0) 0 ns))
          (le→leb (r.least + w.0) r.greatest (omega (arith, w.1)))
          (rw f tt)),
    )

-- ---- a name that a line may have

one_letter : (i j : ℕ) → ◌≡◌ {A = List ℕ} ((33 + i) ∷ []) ((33 + j) ∷ []) → i ≡ j
one_letter i j q = let h : 33 + i ≡ 33 + j = cc in omega arith

visible-letter : (j : ℕ) → j ≤ many → T (visible (33 + j))
visible-letter j h = T_and (leb 33 (33 + j)) (leb (33 + j) 126) (le→leb 33 (33 + j) (omega arith)) (le→leb (33 + j) 126 (omega arith))

letter-id : (j : ℕ) → j ≤ many → T (user_id ((33 + j) ∷ []))
unfolding user_id
letter-id j h = T_and (visible (33 + j)) true (visible-letter j h) tt

name-for : (b : Bool) (names : List (List ℕ)) → length names ≤ many
    → (name : List ℕ) × T (pick b (user_id name && not (some_of (λ (other : List ℕ). same other name) names)) (same name []))
unfolding holds
name-for true names h =
    let w = free {A = List ℕ} same same_refl same-eq (λ (j : ℕ). (33 + j) ∷ []) one_letter names in (
      (33 + w.0) ∷ [],
      T_and (user_id ((33 + w.0) ∷ [])) (not (some_of (λ (other : List ℕ). same other ((33 + w.0) ∷ [])) names))
          (letter-id w.0 (omega (arith, w.1)))
          (rw w.2 tt),
    )
name-for false names h = ([], tt)

-- a good name for the next line
pub fresh-name : (names : List (List ℕ)) → length names ≤ many → (name : List ℕ) × T (good_name names name)
unfolding good_name
fresh-name names h = name-for (row_at (length names)).named names h

-- ---- a front of a sheet goes on to a whole one

-- a good entry for the next line
pub fresh_entry : (b : List Entry) → length b ≤ many → (e : Entry) × T (good b e)
unfolding good
fresh_entry b h =
    let n = fresh-number (numbers_in b) (rw (length-numbers_in b) h) in
    let m = fresh-name (names_in b) (rw (length-names_in b) h) in (
      record { number = n.0; name = m.0 },
      T_and (good_number (numbers_in b) n.0) (good_name (names_in b) m.0) n.1 m.1,
    )

-- m lines more
extended : (m : ℕ) (b : List Entry) → T (in_turn good [] b) → length b + m ≤ many
    → (es : List Entry) × (length es ≡ m) × T (in_turn good [] (b ++ es))
extended zero b t h = ([], refl, rw (append-nil b) t)
extended (suc m) b t h =
    let w = fresh_entry b (omega arith) in
    let l : length (b ++ (w.0 ∷ [])) ≡ length b + 1 = length-append b (w.0 ∷ []) in
    let r = extended m (b ++ (w.0 ∷ [])) (in_turn-snoc good b w.0 t w.1) (omega arith) in
    (w.0 ∷ r.0, ap suc r.1, rw (append_assoc b (w.0 ∷ []) r.0) at r.2)

-- the bounds of a good number
pub number_bound : (ns : List ℕ) (n : ℕ) → T (good_number ns n) → n ≤ (row_at (length ns)).greatest
unfolding good_number
number_bound ns n t =
    let r = row_at (length ns) in
    leb→le n r.greatest
    (T-and-left (leb n r.greatest) (not (taken r.family n 0 ns))
    (T-and-right (leb r.least n) (leb n r.greatest && not (taken r.family n 0 ns)) t))

-- "seats (1 to 8)"
pub seats_bound : (ns : List ℕ) → T (in_turn good_number [] ns) → seats_in ns ≤ most_seats
unfolding row_at table seats_line number_lines most_seats
seats_bound ns t =
    ⊎_elim
    (λ h. omega (arith, get_or-eq_default ns 0 h))
    (λ h. rw (length-take-le seats_line ns (omega arith)) at (number_bound (take seats_line ns) (seats_in ns) (in_turn-at good_number ns seats_line 0 t h)))
    (le-or-lt (length ns) seats_line)

-- what follows the lines with a number alone leaves the line seats as it is
seats_in-kept : (xs ys : List Entry) → number_lines ≤ length xs → seats_in (numbers_in (xs ++ ys)) ≡ seats_in (numbers_in xs)
unfolding number_lines table seats_line
seats_in-kept xs ys h =
    rw (numbers_in-append xs ys)
    (get_or-append (numbers_in xs) (numbers_in ys) 0 seats_line (let l : length (numbers_in xs) ≡ length xs = length-numbers_in xs in omega arith))

-- with the seats that are missing
seated : (b : List Entry) → T (in_turn good [] b) → number_lines ≤ length b → length b ≤ number_lines + seats_in (numbers_in b)
    → (es : List Entry) × T (valid (b ++ es))
unfolding valid number_lines table most_seats
seated b t h o =
    let s : seats_in (numbers_in b) ≤ most_seats = seats_bound (numbers_in b) (good-numbers [] b t) in
    let x = extended (number_lines + seats_in (numbers_in b) - length b) b t (omega arith) in
    let k : seats_in (numbers_in (b ++ x.0)) ≡ seats_in (numbers_in b) = seats_in-kept b x.0 h in
    let l : length (numbers_in (b ++ x.0)) ≡ length b + length x.0 = length-numbers_in (b ++ x.0) ∙ length-append b x.0 in (
      x.0,
      T_and (in_turn good [] (b ++ x.0)) (whole (numbers_in (b ++ x.0))) x.2
          (eq-whole (numbers_in (b ++ x.0)) (omega (arith, x.1))),
    )

-- a good front that is not past the sheet's end goes on to a whole sheet
pub completed : (b : List Entry) → T (in_turn good [] b) → Open (numbers_in b) → (es : List Entry) × T (valid (b ++ es))
unfolding number_lines table most_seats
completed b t o =
    let o' : length b ≤ number_lines + seats_in (numbers_in b) = rw (length-numbers_in b) at o in
    ⊎_elim
    (λ h. seated b t h o')
    (λ h.
    let x = extended (number_lines - length b) b t (omega arith) in
    let l : length (b ++ x.0) ≡ length b + length x.0 = length-append b x.0 in
    let y = seated (b ++ x.0) x.2 (omega (arith, x.1)) (omega (arith, x.1)) in
    (x.0 ++ y.0, rw (append_assoc b x.0 y.0) at y.1))
    (le-or-lt number_lines (length b))
