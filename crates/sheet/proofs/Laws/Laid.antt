-- Laws on values: a sheet's entries laid out stand for the same entries again. Assumes nothing.
use mathlib.Core.Path.{◌≡◌, refl, sym, ap, ap₂, ◌∙◌}
use mathlib.Core.Bool.{not, ◌&&◌}
use mathlib.Core.List.{List, [], ◌∷◌, ◌++◌, map, append-nil}
use Prim.Native.Nat.{ℕ, zero, suc, ◌+◌, ◌-◌, ◌≤◌, ◌<◌}
use native.Mathlib.Omega.{arith}
use lib.ListN.{length, get_or, take, drop, replicate, take-append-drop, length-append, length-drop}
use lib.Seq.{take_all, take-nil, length-take-le}
use lib.Dec.{T, leb, eqb, leb→le}
use borrow.Author.Tests.{ne_eqb}
use Rattle.std.proofs.lemmas.List.{drop-map}
use Rattle.octets.specs.Choice.{same, every, front}
use Rattle.octets.specs.Buffer.{padded}
use Rattle.octets.proofs.Lists.{listed-take}
use Rattle.octets.proofs.Choice.{every-weaker, T_and, T-and-left, T-and-right, same_refl, same-eq, front-all, front-append}
use Rattle.octets.proofs.Buffer.{take-padded}
use Rattle.sheet.specs.declared.Sheet.{Sheet}
use Rattle.sheet.specs.Table.{table, seat_row, number_lines, seats_line, most_seats}
use Rattle.sheet.specs.Judge.{Entry, numbers_in, names_in, visible, longest_name, good, in_turn, whole, valid}
use Rattle.sheet.specs.Value.{sheet_by, sheet_from, sheet_of, row_of, users_of, numbers_of, name_of, alone, seat_entries, entries_of, same_rows, valid_with}
use Rattle.sheet.proofs.Laws.Rules.{row-unnamed, row_at-seat}
use Rattle.sheet.proofs.Laws.Entries.{good-shaped, in_turn-drop, length-numbers_in, seats_in, whole-eq}

-- ---- the lines with a number alone

-- the numbers of a sheet that is laid out
pub numbers_of-sheet_from : (ns : List ℕ) → number_lines ≤ length ns → numbers_of (sheet_from ns) ≡ take number_lines ns
unfolding numbers_of sheet_from sheet_by number_lines table
numbers_of-sheet_from ns h = listed-take 11 0 ns h

nameless : (b : List Entry) (e : Entry) → T (good b e) → length b < number_lines → alone e.number ≡ e
nameless b e g h =
    let s : T (same e.name []) = rw (row-unnamed (length b) h) at (good-shaped b e g) in
    let m : e.name ≡ [] = same-eq e.name [] s in
    λ i. record { number = e.number; name = sym m i }

-- the first lines are their numbers alone
pub alone-take : (m : ℕ) (b es : List Entry) → T (in_turn good b es) → length b + m ≤ number_lines → map alone (take m (numbers_in es)) ≡ take m es
unfolding in_turn
alone-take zero b es t h = refl
alone-take (suc m) b [] t h = refl
alone-take (suc m) b (e ∷ es) t h =
    let l : length (b ++ (e ∷ [])) ≡ length b + 1 = length-append b (e ∷ []) in
    ap₂ (λ (x : Entry) (xs : List Entry). x ∷ xs)
    (nameless b e (T-and-left (good b e) (in_turn good (b ++ (e ∷ [])) es) t) (omega arith))
    (alone-take m (b ++ (e ∷ [])) es (T-and-right (good b e) (in_turn good (b ++ (e ∷ [])) es) t) (omega arith))

-- ---- the seats' lines

-- a visible octet is not zero
pub not-zero : (c : ℕ) → T (visible c) → T (not (eqb c 0))
not-zero c t =
    let l : 33 ≤ c = leb→le 33 c (T-and-left (leb 33 c) (leb c 126) t) in
    rw (ne_eqb c 0 (λ q. omega arith)) tt

front-zeros : (name : List ℕ) (n : ℕ) → T (every (λ (c : ℕ). not (eqb c 0)) name)
    → front (λ (c : ℕ). not (eqb c 0)) (name ++ replicate n 0) ≡ name
front-zeros name zero t = rw (append-nil name) (front-all (λ (c : ℕ). not (eqb c 0)) name t)
front-zeros name (suc n) t = front-append (λ (c : ℕ). not (eqb c 0)) name (replicate n 0) 0 t refl

-- the User ID in a row is the one that was laid out there
pub name_of-row_of : (name : List ℕ) → T (every visible name) → name_of (row_of name) ≡ name
unfolding name_of row_of padded
name_of-row_of name t = front-zeros name (longest_name - length name) (every-weaker visible (λ (c : ℕ). not (eqb c 0)) not-zero name t)

-- a good name on a seat's line is visible
pub seat-name : (b : List Entry) (e : Entry) → T (good b e) → number_lines ≤ length b → T (every visible e.name)
unfolding seat_row
seat-name b e g h = rw (row_at-seat (length b) h) at (good-shaped b e g)

seat_entries-laid : (xs b : List Entry) (us : List (List ℕ)) → T (in_turn good b xs) → number_lines ≤ length b
    → seat_entries (numbers_in xs) (map row_of (names_in xs) ++ us) ≡ xs
unfolding in_turn seat_entries
seat_entries-laid [] b us t h = refl
seat_entries-laid (e ∷ es) b us t h =
    let l : length (b ++ (e ∷ [])) ≡ length b + 1 = length-append b (e ∷ []) in
    let n : name_of (row_of e.name) ≡ e.name = name_of-row_of e.name (seat-name b e (T-and-left (good b e) (in_turn good (b ++ (e ∷ [])) es) t) h) in
    ap₂ (λ (x : Entry) (xs : List Entry). x ∷ xs)
    (λ i. record { number = e.number; name = n i })
    (seat_entries-laid es (b ++ (e ∷ [])) us (T-and-right (good b e) (in_turn good (b ++ (e ∷ [])) es) t) (omega arith))

-- ---- the whole sheet

-- the entries of a valid sheet are good
pub valid-good : (es : List Entry) → T (valid es) → T (in_turn good [] es)
unfolding valid
valid-good es t = T-and-left (in_turn good [] es) (whole (numbers_in es)) t

-- and as many as its line seats says
pub valid-length : (es : List Entry) → T (valid es) → length (numbers_in es) ≡ number_lines + seats_in (numbers_in es)
unfolding valid
valid-length es t = whole-eq (numbers_in es) (T-and-right (in_turn good [] es) (whole (numbers_in es)) t)

laid-ssrcs : (es : List Entry) → T (valid es) → take (sheet_of es).seats (sheet_of es).ssrcs ≡ numbers_in (drop number_lines es)
unfolding sheet_of sheet_from sheet_by padded seats_line number_lines table
laid-ssrcs es t =
    let ns = numbers_in es in
    let l : seats_in ns ≡ length (drop number_lines ns) = let e = valid-length es t in omega (arith, length-drop number_lines ns) in
    ap (λ (n : ℕ). take n (padded most_seats 0 (drop number_lines ns))) l
    ∙ take-padded most_seats 0 (drop number_lines ns)
    ∙ drop-map (λ (e : Entry). e.number) number_lines es

laid-users : (es : List Entry)
    → users_of es ≡ map row_of (names_in (drop number_lines es)) ++ replicate (most_seats - length (map row_of (drop number_lines (names_in es)))) (row_of [])
unfolding users_of padded
laid-users es =
    ap (λ (names : List (List ℕ)). map row_of names ++ replicate (most_seats - length (map row_of (drop number_lines (names_in es)))) (row_of []))
    (drop-map (λ (e : Entry). e.name) number_lines es)

-- the numbers of the seats, as far as there are rows
pub numbers_in-seats : (xs : List ℕ) (us : List (List ℕ)) → numbers_in (seat_entries xs us) ≡ take (length us) xs
unfolding seat_entries
numbers_in-seats [] us = sym (take-nil (length us))
numbers_in-seats (x ∷ xs) [] = refl
numbers_in-seats (x ∷ xs) (u ∷ us) = ap (λ (l : List ℕ). x ∷ l) (numbers_in-seats xs us)

-- the User IDs of the seats, as far as there are rows
pub names_in-seats : (xs : List ℕ) (us : List (List ℕ)) → names_in (seat_entries xs us) ≡ map name_of (take (length xs) us)
unfolding seat_entries
names_in-seats [] us = refl
names_in-seats (x ∷ xs) [] = refl
names_in-seats (x ∷ xs) (u ∷ us) = ap (λ (l : List (List ℕ)). name_of u ∷ l) (names_in-seats xs us)

-- the numbers of the entries that a value stands for, where no row is missing
pub numbers_in-entries_of : (s : Sheet) (users : List (List ℕ)) → length (take s.seats s.ssrcs) ≤ length users
    → numbers_in (entries_of s users) ≡ numbers_of s ++ take s.seats s.ssrcs
unfolding entries_of numbers_of
numbers_in-entries_of s users h =
    let xs = take s.seats s.ssrcs in
    ap (λ (ns : List ℕ). numbers_of s ++ ns) (numbers_in-seats xs users ∙ take_all (length users) xs h)

-- the entries that a laid-out sheet stands for
pub entries_of-laid : (es : List Entry) → T (valid es) → entries_of (sheet_of es) (users_of es) ≡ es
unfolding entries_of sheet_of
entries_of-laid es t =
    let ns = numbers_in es in
    let g : T (in_turn good [] es) = valid-good es t in
    let h : number_lines ≤ length ns = let e = valid-length es t in omega arith in
    let h' : number_lines ≤ length es = rw (length-numbers_in es) at h in
    ap₂ (λ (xs ys : List Entry). xs ++ ys)
    (ap (λ (l : List ℕ). map alone l) (numbers_of-sheet_from ns h) ∙ alone-take number_lines [] es g (omega arith))
    (ap₂ seat_entries (laid-ssrcs es t) (laid-users es)
    ∙ seat_entries-laid (drop number_lines es) (take number_lines es) _ (in_turn-drop good number_lines es g) (rw (length-take-le number_lines es h') (omega arith)))
    ∙ take-append-drop number_lines es

-- ---- which values are a sheet's

-- rows are the same as themselves
pub same_rows-refl : (xs : List (List ℕ)) → T (same_rows xs xs)
unfolding same_rows
same_rows-refl [] = tt
same_rows-refl (x ∷ xs) = T_and (same x x) (same_rows xs xs) (same_refl x) (same_rows-refl xs)

-- the same rows are equal
pub same_rows-eq : (xs ys : List (List ℕ)) → T (same_rows xs ys) → xs ≡ ys
unfolding same_rows
same_rows-eq [] [] t = refl
same_rows-eq [] (y ∷ ys) t = absurd t
same_rows-eq (x ∷ xs) [] t = absurd t
same_rows-eq (x ∷ xs) (y ∷ ys) t =
    ap₂ (λ (z : List ℕ) (zs : List (List ℕ)). z ∷ zs) (same-eq x y (T-and-left (same x y) (same_rows xs ys) t)) (same_rows-eq xs ys (T-and-right (same x y) (same_rows xs ys) t))

-- what a sheet's entries are laid out to is valid
pub laid-valid : (es : List Entry) → T (valid es) → T (valid_with (sheet_of es) (users_of es))
unfolding valid_with
laid-valid es t =
    rw (entries_of-laid es t)
    (T_and (valid es) (same (sheet_of es).ssrcs (sheet_of es).ssrcs && same_rows (users_of es) (users_of es)) t
    (T_and (same (sheet_of es).ssrcs (sheet_of es).ssrcs) (same_rows (users_of es) (users_of es)) (same_refl (sheet_of es).ssrcs) (same_rows-refl (users_of es))))

-- a struct's numbers, laid out with its SSRCs behind them, are the struct
pub sheet_from-numbers : (s : Sheet) (ns : List ℕ) → s.ssrcs ≡ (sheet_from (numbers_of s ++ ns)).ssrcs → sheet_from (numbers_of s ++ ns) ≡ s
unfolding sheet_from sheet_by numbers_of
sheet_from-numbers s ns p = ap (sheet_by (λ (k : ℕ). get_or (numbers_of s ++ ns) k 0)) (sym p)

module _ (s : Sheet) (users : List (List ℕ)) (t : T (valid_with s users)) where
  -- the entries that a valid value stands for
  abbrev entries : List Entry
  entries = entries_of s users

  laid_same : T (same s.ssrcs (sheet_of entries).ssrcs && same_rows users (users_of entries))
  unfolding valid_with
  laid_same = T-and-right (valid entries) (same s.ssrcs (sheet_of entries).ssrcs && same_rows users (users_of entries)) t

  -- the entries are a sheet's
  pub valid-entries : T (valid (entries_of s users))
  unfolding valid_with
  valid-entries = T-and-left (valid entries) (same s.ssrcs (sheet_of entries).ssrcs && same_rows users (users_of entries)) t

  -- are laid out to it again
  pub sheet_of-entries : sheet_of (entries_of s users) ≡ s
  unfolding sheet_of entries_of numbers_of
  sheet_of-entries =
      sheet_from-numbers s (numbers_in (seat_entries (take s.seats s.ssrcs) users))
      (same-eq s.ssrcs (sheet_of entries).ssrcs (T-and-left (same s.ssrcs (sheet_of entries).ssrcs) (same_rows users (users_of entries)) laid_same))

  -- and the rows likewise
  pub users_of-entries : users_of (entries_of s users) ≡ users
  users_of-entries =
      sym (same_rows-eq users (users_of entries) (T-and-right (same s.ssrcs (sheet_of entries).ssrcs) (same_rows users (users_of entries)) laid_same))
