-- Laws on a value judged without its text: the struct line by line, and the User IDs row by row. Assumes nothing.
use mathlib.Core.Path.{◌≡◌, refl, sym, ap, ap₂, ◌∙◌, subst}
use mathlib.Core.Logic.{⊎_elim, ◌↔◌}
use mathlib.Core.Bool.{Bool, true, false, not, ◌&&◌}
use mathlib.Core.List.{List, [], ◌++◌, map}
use Prim.Native.Nat.{ℕ, ◌+◌, ◌-◌, ◌≤◌, ◌<◌}
use native.Mathlib.Omega.{arith}
use lib.ListN.{length, get_or, take, drop, length-append, length-take, length-drop, length-map, take-append-drop, get_or-append, get_or-map, get_or-eq_default}
use lib.Seq.{length-take-le, take-take, get_or-take, take-append-add, drop-append-add, get_or-append-add, ext_get_or}
use lib.Dec.{T, eqb, eqb→eq}
use borrow.Author.Tests.{eq-eqb, ne_eqb, eqb-false}
use Rattle.std.proofs.lemmas.List.{take-map, get_or_default}
use Rattle.octets.specs.Choice.{same, some_of}
use Rattle.octets.specs.Buffer.{zeros_from, padded}
use Rattle.octets.proofs.Choice.{T_true, true-T, T_false, false-T, decide, pick_true, pick-false, T_and, T-and-left, T-and-right, same-eq, eq-same, le-or-lt}
use Rattle.octets.proofs.Buffer.{padded-full, get_or-padded, length-padded, same-padded}
use Rattle.sheet.specs.declared.Sheet.{Sheet}
use Rattle.sheet.specs.Table.{table, row_at, number_lines, seats_line, most_seats}
use Rattle.sheet.specs.Judge.{Entry, numbers_in, names_in, taken, good_number, user_id, good_name, good, in_turn, whole, valid}
use Rattle.sheet.specs.Promises.{numbers_of≡, are_valid≡, valid≡}
use Rattle.sheet.specs.Value.{sheet_by, sheet_from, sheet_in, sheet_of, row_of, users_of, numbers_of, name_of, alone, seat_entries, entries_of, valid_with, valid_alone}
use Rattle.sheet.specs.Find.{new_name}
use Rattle.sheet.specs.Inner.{good_row}
use Rattle.sheet.proofs.Laws.Entries.{at-in_turn, eq-whole, length-numbers_in, in_turn-at, good-name}
use Rattle.sheet.proofs.Laws.Fresh.{seats_bound}
use Rattle.sheet.proofs.Laws.Rows.{take-name_of, good_row-unused, good_row-used}
use Rattle.sheet.proofs.Laws.Laid.{numbers_of-sheet_from, numbers_in-entries_of, names_in-seats, name_of-row_of, valid-good, valid-entries, users_of-entries, sheet_from-numbers, laid-valid}
use Rattle.sheet.proofs.Laws.Names.{no_name, seat-named, new_among}
use Rattle.sheet.proofs.Laws.Claims.{valid_alone_exactly}

-- ---- a struct's numbers, line by line

-- the numbers of so many lines, each good behind those before it, and zeros behind the lines
abbrev pub lines_good : List ℕ → ℕ → Bool
lines_good numbers lines = in_turn good_number [] (take lines numbers) && zeros_from numbers lines

-- a struct is judged so, where the seats are no more than eight
pub valid-lines : (s : Sheet) → length s.ssrcs ≡ most_seats → s.seats ≤ most_seats
    → valid_alone s ≡ lines_good (numbers_of s ++ s.ssrcs) (number_lines + s.seats)
unfolding valid_alone numbers_of sheet_from sheet_by number_lines seats_line table zeros_from
valid-lines s eight h =
    let xs = take s.seats s.ssrcs in
    let l : length xs ≡ s.seats = length-take-le s.seats s.ssrcs (omega arith) in
    let w : T (whole (numbers_of s ++ xs)) = eq-whole (numbers_of s ++ xs) (length-append (numbers_of s) xs ∙ ap (λ (n : ℕ). number_lines + n) l) in
    let z : same s.ssrcs (padded most_seats 0 xs) ≡ zeros_from s.ssrcs s.seats =
    ap (λ (n : ℕ). same s.ssrcs (padded n 0 xs)) (sym eight) ∙ same-padded s.ssrcs s.seats (omega arith) in
    rw (T_true (whole (numbers_of s ++ xs)) w, z, take-append-add (numbers_of s) s.ssrcs s.seats, drop-append-add (numbers_of s) s.ssrcs s.seats)

-- "seats (1 to 8)"
pub few_seats : (s : Sheet) → T (valid_alone s) → s.seats ≤ most_seats
unfolding valid_alone numbers_of seats_line number_lines table
few_seats s t =
    let ns = numbers_of s ++ take s.seats s.ssrcs in
    seats_bound ns (T-and-left (in_turn good_number [] ns) _ t)

-- ---- a struct by its numbers and the SSRCs behind them

-- it is the struct with those numbers
pub sheet_from-own : (s : Sheet) → length s.ssrcs ≡ most_seats → sheet_from (numbers_of s ++ s.ssrcs) ≡ s
unfolding sheet_from sheet_by numbers_of number_lines table
sheet_from-own s eight = sheet_from-numbers s s.ssrcs (sym (padded-full most_seats 0 s.ssrcs (omega arith)))

-- as many numbers are those of the struct with them
pub numbers-sheet_from : (ns : List ℕ) → length ns ≡ number_lines + most_seats → ns ≡ numbers_of (sheet_from ns) ++ (sheet_from ns).ssrcs
unfolding sheet_from sheet_by
numbers-sheet_from ns long =
    rw (numbers_of-sheet_from ns (omega arith), padded-full most_seats 0 (drop number_lines ns) (rw length-drop (omega arith)))
    (sym (take-append-drop number_lines ns))

module _ (s : Sheet) (ns : List ℕ) (e : ns ≡ numbers_of s ++ s.ssrcs) (long : length ns ≡ number_lines + most_seats) where
  -- the last of the numbers says how many seats there are
  seats-number : get_or ns seats_line 0 ≡ s.seats
  unfolding numbers_of seats_line number_lines table
  seats-number = rw e

  -- no more than eight, for a sheet's struct
  pub numbers-few : T (valid_alone s) → get_or ns seats_line 0 ≤ most_seats
  numbers-few t = rw seats-number (few_seats s t)

  -- then it is judged number by number
  pub numbers-judged : get_or ns seats_line 0 ≤ most_seats → valid_alone s ≡ lines_good ns (number_lines + get_or ns seats_line 0)
  numbers-judged h =
      rw (seats-number, e)
      (valid-lines s (unfold numbers_of number_lines table in omega (arith, long, ap length e)) (rw seats-number at h))

-- ---- numbers that are lent to a call

-- as many as a sheet has: the struct is the one with them
pub sheet_in-counted : (ns : List ℕ) → length ns ≡ 19 → sheet_in ns ≡ sheet_from ns
unfolding sheet_in number_lines table most_seats
sheet_in-counted ns long = ap sheet_from (pick_true (eqb (length ns) 19) ns [] (eq-eqb (length ns) 19 long))

-- any other count: it is the struct of zeros ..
pub sheet_in-other : (ns : List ℕ) → (length ns ≡ 19 → ⊥) → sheet_in ns ≡ sheet_from []
unfolding sheet_in number_lines table most_seats
sheet_in-other ns other = ap sheet_from (pick-false (eqb (length ns) 19) ns [] (ne_eqb (length ns) 19 other))

-- .. which is no sheet's: "limit (1 to 8)"
zeros-not-valid : valid_alone (sheet_from []) ≡ false
unfolding valid_alone sheet_from sheet_by numbers_of in_turn good_number taken row_at table
zeros-not-valid = refl

pub other-not-valid : (ns : List ℕ) → (length ns ≡ 19 → ⊥) → valid_alone (sheet_in ns) ≡ false
other-not-valid ns other = ap valid_alone (sheet_in-other ns other) ∙ zeros-not-valid

-- so that the numbers of a sheet are as many as it has
pub valid-counted : (ns : List ℕ) → T (valid_alone (sheet_in ns)) → length ns ≡ 19
valid-counted ns t =
    ⊎_elim
    (eqb→eq (length ns) 19)
    (λ e. absurd (false-T (valid_alone (sheet_in ns)) (other-not-valid ns (eqb-false (length ns) 19 e)) t))
    (decide (eqb (length ns) 19))

-- those of a struct stand for it ..
pub sheet_in-own : (s : Sheet) (ns : List ℕ) → length s.ssrcs ≡ most_seats → numbers_of≡ s ns → sheet_in ns ≡ s
unfolding numbers_of most_seats
sheet_in-own s ns eight e = sheet_in-counted ns (omega (arith, ap length e, eight)) ∙ ap sheet_from e ∙ sheet_from-own s eight

-- .. so that it is judged by them
pub judged-own : (s : Sheet) (ns : List ℕ) (r : Bool) → length s.ssrcs ≡ most_seats → numbers_of≡ s ns → are_valid≡ ns r → valid≡ s r
judged-own s ns r eight e j = j ∙ ap valid_alone (sheet_in-own s ns eight e)

-- ---- a row is good exactly if a name is laid out in it, none where no seat is, and the name is new

module _ (seats : ℕ) (users : List (List ℕ)) (i : ℕ) where
  abbrev row : List ℕ
  row = get_or users i []

  -- the name that is to stand there
  abbrev held : List ℕ
  held = name_of (get_or (take seats users) i [])

  -- the row's own, where a seat is
  held-seat : i < seats → held ≡ name_of row
  held-seat h = ap name_of (get_or-take seats users i [] h)

  -- none, where no seat is
  held_none : seats ≤ i → held ≡ []
  unfolding name_of
  held_none h = ap name_of (get_or-eq_default (take seats users) [] {n = i} (rw (length-take seats users) (omega arith)))

  -- a row that it is laid out to is good, if it is new where a seat is
  laid-good : row ≡ row_of held → (i < seats → T (new_name i users (name_of row))) → T (good_row seats users i)
  laid-good e new =
      true-T (good_row seats users i)
      (⊎_elim
      (λ h.
      let e' : row ≡ row_of [] = e ∙ ap row_of (held_none h) in
      let n : name_of row ≡ [] = ap name_of e' ∙ name_of-row_of [] tt in
      good_row-unused seats users i (fixed-width (e' ∙ ap row_of (sym n))) h ∙ rw n)
      (λ h. good_row-used seats users i (fixed-width (e ∙ ap row_of (held-seat h))) h ∙ T_true (new_name i users (name_of row)) (new h))
      (le-or-lt seats i))
    where
      fixed-width : row ≡ row_of (name_of row) → same row (row_of (name_of row)) ≡ true
      fixed-width q = T_true (same row (row_of (name_of row))) (eq-same row (row_of (name_of row)) q)

  module _ (t : T (good_row seats users i)) where
    -- a good row is its name at fixed width
    whole_row : same row (row_of (name_of row)) ≡ true
    unfolding good_row
    whole_row = T_true (same row (row_of (name_of row))) (T-and-left (same row (row_of (name_of row))) _ t)

    -- which is new, where a seat is
    good_new : i < seats → T (new_name i users (name_of row))
    good_new h = rw (good_row-used seats users i whole_row h) at t

    -- and none, where no seat is
    nothing-held : seats ≤ i → name_of row ≡ []
    nothing-held h =
        let z : length (name_of row) ≡ 0 = eqb→eq (length (name_of row)) 0 (rw (good_row-unused seats users i whole_row h) at t) in
        rw z at (sym (take-name_of row))

    -- so that the row is what is to be held, laid out
    good-laid : row ≡ row_of held
    good-laid =
        same-eq row (row_of (name_of row)) (true-T _ whole_row)
        ∙ ap row_of (⊎_elim (λ h. nothing-held h ∙ sym (held_none h)) (λ h. sym (held-seat h)) (le-or-lt seats i))

-- ---- the entries that a value stands for, one by one

-- a struct that is a sheet's, with eight rows beside it
module _ (s : Sheet) (users : List (List ℕ)) (eight : length s.ssrcs ≡ most_seats) (rows : length users ≡ most_seats) (t : T (valid_alone s)) where
  abbrev es : List Entry
  es = entries_of s users

  abbrev xs : List ℕ
  xs = take s.seats s.ssrcs

  abbrev on-seats : List (List ℕ)
  on-seats = take s.seats users

  abbrev blank : List (List ℕ)
  blank = names_in (map alone (numbers_of s))

  -- no more seats than SSRCs and rows
  few : s.seats ≤ most_seats
  few = few_seats s t

  length-xs : length xs ≡ s.seats
  length-xs = length-take-le s.seats s.ssrcs (omega (arith, few))

  -- the entries' numbers, names, and how many they are
  entries-numbers : numbers_in es ≡ numbers_of s ++ xs
  entries-numbers = numbers_in-entries_of s users (omega (arith, few, length-xs))

  entries-names : names_in es ≡ blank ++ map name_of on-seats
  unfolding entries_of numbers_of
  entries-names =
      ap (λ (names : List (List ℕ)). blank ++ names) (names_in-seats xs users ∙ ap (λ (n : ℕ). map name_of (take n users)) length-xs)

  length-entries : length es ≡ number_lines + s.seats
  unfolding numbers_of number_lines table
  length-entries =
      sym (length-numbers_in es) ∙ ap length entries-numbers ∙ length-append (numbers_of s) xs ∙ ap (λ (n : ℕ). number_lines + n) length-xs

  -- the number of entry k is judged as the struct's
  entry-judged : (k : ℕ) → good_number (numbers_in (take k es)) (get_or es k (alone 0)).number ≡ good_number (take k (numbers_of s ++ xs)) (get_or (numbers_of s ++ xs) k 0)
  entry-judged k =
      ap₂ good_number
      (sym (take-map (λ (e : Entry). e.number) k es) ∙ ap (take k) entries-numbers)
      (sym (get_or-map (λ (e : Entry). e.number) es k (alone 0)) ∙ ap (λ (ns : List ℕ). get_or ns k 0) entries-numbers)

  -- a line with a number alone has no name
  name-alone : (k : ℕ) → k < number_lines → (get_or es k (alone 0)).name ≡ []
  unfolding entries_of numbers_of number_lines table
  name-alone k h =
      ap (λ (e : Entry). e.name)
      (get_or-append (map alone (numbers_of s)) (seat_entries xs users) (alone 0) k h ∙ get_or-map alone (numbers_of s) k 0)

  -- the names before seat i, and its own
  names-before : (i : ℕ) → i ≤ s.seats → names_in (take (number_lines + i) es) ≡ blank ++ map name_of (take i users)
  unfolding numbers_of number_lines table
  names-before i h =
      sym (take-map (λ (e : Entry). e.name) (number_lines + i) es)
      ∙ ap (take (number_lines + i)) entries-names
      ∙ take-append-add blank (map name_of on-seats) i
      ∙ ap (λ (names : List (List ℕ)). blank ++ names) (take-map name_of i on-seats ∙ ap (map name_of) (take-take i s.seats users h))

  name-at : (i : ℕ) → i < s.seats → (get_or es (number_lines + i) (alone 0)).name ≡ name_of (get_or users i [])
  unfolding numbers_of number_lines table name_of
  name-at i h =
      sym (get_or-map (λ (e : Entry). e.name) es (number_lines + i) (alone 0))
      ∙ ap (λ (names : List (List ℕ)). get_or names (number_lines + i) []) entries-names
      ∙ get_or-append-add blank (map name_of on-seats) i []
      ∙ get_or-map name_of on-seats i []
      ∙ ap name_of (get_or-take s.seats users i [] h)

  -- a seat's name is judged as its row's
  seat-judged : (i : ℕ) → i < s.seats
      → good_name (names_in (take (number_lines + i) es)) (get_or es (number_lines + i) (alone 0)).name ≡ new_name i users (name_of (get_or users i []))
  seat-judged i h =
      let l : length (take (number_lines + i) es) ≡ number_lines + i = length-take-le (number_lines + i) es (rw length-entries (omega arith)) in
      let name = name_of (get_or users i []) in
      ap (good_name (names_in (take (number_lines + i) es))) (name-at i h)
      ∙ seat-named (take (number_lines + i) es) name (omega arith)
      ∙ ap (λ (names : List (List ℕ)). user_id name && not (some_of (λ (other : List ℕ). same other name) names)) (names-before i (omega arith))
      ∙ sym (new_among (numbers_of s) i users name)

  -- the rows that the entries are laid out to
  users-laid : users_of es ≡ padded most_seats (row_of []) (map row_of (map name_of on-seats))
  unfolding users_of numbers_of number_lines table
  users-laid = ap (λ (names : List (List ℕ)). padded most_seats (row_of []) (map row_of (drop number_lines names))) entries-names

  -- eight of them
  length-laid : length (users_of es) ≡ length users
  length-laid =
      let l : length on-seats ≡ s.seats = length-take-le s.seats users (omega (arith, few)) in
      ap length users-laid
      ∙ length-padded most_seats (row_of []) (map row_of (map name_of on-seats)) (omega (arith, few, length-map (map name_of on-seats) row_of, length-map on-seats name_of))
      ∙ sym rows

  -- one by one
  row_laid : (i : ℕ) → get_or (users_of es) i (row_of []) ≡ row_of (held s.seats users i)
  unfolding name_of
  row_laid i =
      ap (λ (us : List (List ℕ)). get_or us i (row_of [])) users-laid
      ∙ get_or-padded most_seats (row_of []) (map row_of (map name_of on-seats)) i
      ∙ get_or-map row_of (map name_of on-seats) i []
      ∙ ap row_of (get_or-map name_of on-seats i [])

  -- ---- a value is a sheet's exactly if its struct is and each row is good

  -- the value is a sheet's, so each row is good
  pub valid-rows : T (valid_with s users) → (i : ℕ) → i < most_seats → T (good_row s.seats users i)
  valid-rows v i h =
      let laid : get_or users i [] ≡ row_of (held s.seats users i) =
      get_or_default users i [] (row_of []) (omega arith)
      ∙ ap (λ (us : List (List ℕ)). get_or us i (row_of [])) (sym (users_of-entries s users v))
      ∙ row_laid i in
      laid-good s.seats users i laid
      (λ l.
      let k : number_lines + i < length es = rw length-entries (omega arith) in
      rw (seat-judged i l) at
      (good-name (take (number_lines + i) es) (get_or es (number_lines + i) (alone 0))
      (in_turn-at good es (number_lines + i) (alone 0) (valid-good es (valid-entries s users v)) k)))

  module _ (good-rows : (i : ℕ) → i < most_seats → T (good_row s.seats users i)) where
    -- each row is good, so each entry's name is
    good-names : (k : ℕ) → k < length es → T (good_name (names_in (take k es)) (get_or es k (alone 0)).name)
    good-names k h =
        let n : length es ≡ number_lines + s.seats = length-entries in
        ⊎_elim
        (λ (l : number_lines ≤ k).
        let i = k - number_lines in
        let m : i < s.seats = omega arith in
        let e : number_lines + i ≡ k = omega arith in
        subst (λ (j : ℕ). T (good_name (names_in (take j es)) (get_or es j (alone 0)).name)) e
        (rw (seat-judged i m) (good_new s.seats users i (good-rows i (omega (arith, few))) m)))
        (λ (l : k < number_lines).
        rw (name-alone k l)
        (true-T (good_name (names_in (take k es)) []) (no_name (take k es) (rw (length-take-le k es (omega arith)) l))))
        (le-or-lt number_lines k)

    -- and each entry, the numbers being the struct's
    good-entries : T (in_turn good [] es)
    unfolding good valid_alone
    good-entries =
        let g : T (in_turn good_number [] (numbers_of s ++ xs)) = T-and-left (in_turn good_number [] (numbers_of s ++ xs)) _ t in
        at-in_turn good (alone 0) [] es
        (λ k h.
        let l : k < length (numbers_of s ++ xs) = rw (← entries-numbers, length-numbers_in es) h in
        T_and (good_number (numbers_in (take k es)) (get_or es k (alone 0)).number) (good_name (names_in (take k es)) (get_or es k (alone 0)).name)
        (rw (entry-judged k) (in_turn-at good_number (numbers_of s ++ xs) k 0 g l))
        (good-names k h))

    -- and the value is a sheet's
    rows-valid : T (valid_with s users)
    unfolding valid_alone valid sheet_of
    rows-valid =
        let ns = numbers_of s ++ xs in
        let r : T (whole ns && same s.ssrcs (sheet_from ns).ssrcs) = T-and-right (in_turn good_number [] ns) _ t in
        let v : T (valid es) = T_and (in_turn good [] es) (whole (numbers_in es)) good-entries (rw entries-numbers (T-and-left (whole ns) _ r)) in
        let q : sheet_of es ≡ s = ap sheet_from entries-numbers ∙ sheet_from-numbers s xs (same-eq s.ssrcs (sheet_from ns).ssrcs (T-and-right (whole ns) _ r)) in
        let u : users_of es ≡ users =
        ext_get_or (row_of []) (users_of es) users length-laid
        (λ i h.
        let l : i < length users = rw length-laid at h in
        row_laid i
        ∙ sym (good-laid s.seats users i (good-rows i (omega arith)))
        ∙ get_or_default users i [] (row_of []) l) in
        subst (λ (x : Sheet). T (valid_with x users)) q (subst (λ (us : List (List ℕ)). T (valid_with (sheet_of es) us)) u (laid-valid es v))

  -- so that the one is judged by the other
  pub rows-judged : (r : Bool) → T r ↔ ((i : ℕ) → i < most_seats → T (good_row s.seats users i)) → r ≡ valid_with s users
  rows-judged true h = sym (T_true (valid_with s users) (rows-valid (h.0 tt)))
  rows-judged false h = sym (T_false (valid_with s users) (λ v. h.1 (valid-rows v)))

-- a struct that is no sheet's is none with any User IDs
pub not-alone : (s : Sheet) (users : List (List ℕ)) → valid_alone s ≡ false → valid_with s users ≡ false
not-alone s users e = T_false (valid_with s users) (λ v. false-T (valid_alone s) e ((valid_alone_exactly s).1 (users, v)))
