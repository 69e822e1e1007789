-- Laws of the seats of a valid sheet: no two have the same SSRC or User ID, so that the one found is the one that has it
-- (`ssrc-found`, `user-found`); and each User ID is one (`user-right`). Assumes nothing.
use mathlib.Core.Path.{◌≡◌, refl, sym, ap, ◌∙◌}
use mathlib.Core.Logic.{◌↔◌}
use mathlib.Core.Bool.{Bool, not, ◌&&◌}
use mathlib.Core.List.{List, [], ◌++◌, map}
use mathlib.Core.Option.{Option, none, some}
use Prim.Native.Nat.{ℕ, ◌+◌, ◌≤◌, ◌<◌}
use native.Mathlib.Nat.{zero-add}
use native.Mathlib.Omega.{arith}
use lib.ListN.{length, get_or, take, drop, length-append, length-drop, length-map}
use lib.Seq.{length-take-le, get_or-take, get_or-append-add}
use lib.Dec.{T, T_not, leb, eqb, eqb→eq}
use borrow.Author.Tests.{eq-eqb, lt-leb}
use Rattle.octets.specs.Choice.{same, first_place}
use Rattle.octets.proofs.Choice.{true-T, T_true, T_false, false-T, T-and-left, T-and-right, same-eq, eq-same, none-first-place, some-first-place}
use Rattle.octets.proofs.Buffer.{length-padded}
use Rattle.sheet.specs.declared.Sheet.{Sheet}
use Rattle.sheet.specs.Table.{number_lines, table, row_at, most_seats}
use Rattle.sheet.specs.Judge.{Entry, numbers_in, names_in, taken, good_number, user_id, in_turn}
use Rattle.sheet.specs.Value.{sheet_by, sheet_from, sheet_of, row_of, users_of, numbers_of, name_of, entries_of, valid_with, valid_alone}
use Rattle.sheet.specs.Find.{seat_of_ssrc, seat_of_user, is_none, new_name, user_of, HasSsrc, HasUser}
use Rattle.sheet.specs.Inner.{good_row}
use Rattle.sheet.proofs.Laws.Entries.{in_turn-at, length-numbers_in, length-names_in, good-numbers}
use Rattle.sheet.proofs.Laws.Bounds.{taken_at_lem}
use Rattle.sheet.proofs.Laws.Rules.{row_at-seat}
use Rattle.sheet.proofs.Laws.Fresh.{seats_bound}
use Rattle.sheet.proofs.Laws.Rows.{first-seat-some}
use Rattle.sheet.proofs.Laws.Laid.{valid-good, valid-length, valid-entries, sheet_of-entries, users_of-entries}
use Rattle.sheet.proofs.Laws.Claims.{valid_alone_exactly}
use Rattle.sheet.proofs.Laws.Values.{few_seats, valid-rows}

-- ---- a search

-- it finds the one place that has what is looked for
abbrev pub Finds : Option ℕ → (ℕ → Type 0) → Type 0
Finds o Has = (r : ℕ) → (o ≡ some r) ↔ Has r

-- it finds none where no place has it
pub finds-none : {Has : ℕ → Type 0} (o : Option ℕ) → Finds o Has → ((r : ℕ) → Has r → ⊥) → o ≡ none
finds-none none f h = refl
finds-none (some r) f h = absurd (h r ((f r).0 refl))

-- a test for that
pub is-none : (o : Option ℕ) → T (is_none o) → o ≡ none
is-none none t = refl
is-none (some r) t = absurd t

-- the first of n of which the test holds is the one of which it does, if it does of no two
module _ {A : Type 0} (p : A → Bool) (Q : A → Type 0) (right : (x : A) → T (p x) ↔ Q x) (xs : List A) (d : A) (n : ℕ)
    (inside : n ≤ length xs) (once : (i j : ℕ) → i < j → j < n → Q (get_or xs i d) → Q (get_or xs j d) → ⊥) where
  first_found : Finds (first_place p (take n xs)) (λ (r : ℕ). (r < n) × Q (get_or xs r d))
  first_found r = (
    (λ e.
        let f = some-first-place p (take n xs) d r e in
        let h : r < n = omega (arith, f.inside, length-take-le n xs inside) in
        (h, (right (get_or xs r d)).0 (true-T _ (rw (get_or-take n xs r d h) at f.passes)))),
    λ w.
        first-seat-some p xs d n r
        (λ k l. T_false (p (get_or xs k d)) (λ t. once k r l w.0 ((right (get_or xs k d)).0 t) w.1))
        (omega (arith, w.0))
        (T_true (p (get_or xs r d)) ((right (get_or xs r d)).1 w.1)),
  )

-- ---- numbers of one family

-- a good number on a seat's line is none of those on the seats' lines before
seat_new : (ns : List ℕ) (n i : ℕ) → T (good_number ns n) → number_lines ≤ i → i < length ns → get_or ns i 0 ≡ n → ⊥
unfolding good_number
seat_new ns n i g h l e =
    let r = row_at (length ns) in
    let free = not (taken r.family n 0 ns) in
    T_not (taken r.family n 0 ns) (T-and-right (leb n r.greatest) free (T-and-right (leb r.least n) (leb n r.greatest && free) g))
    (taken_at_lem r.family n 0 ns i l (rw (zero-add, row_at-seat i h, row_at-seat (length ns) (omega arith))) e)

-- ---- eight SSRCs and eight rows

module _ (s : Sheet) (users : List (List ℕ)) (v : T (valid_with s users)) where
  -- the entries that the value stands for
  abbrev es : List Entry
  es = entries_of s users

  -- the struct is a sheet's
  pub valid-alone : T (valid_alone s)
  valid-alone = (valid_alone_exactly s).1 (users, v)

  -- no more lines than eight seats have
  few-lines : length es ≤ number_lines + most_seats
  few-lines =
      let w = valid-entries s users v in
      omega (arith, length-numbers_in es, valid-length es w, seats_bound (numbers_in es) (good-numbers [] es (valid-good es w)))

  -- so eight SSRCs
  eight-ssrcs : length s.ssrcs ≡ most_seats
  unfolding sheet_of sheet_from sheet_by
  eight-ssrcs =
      let ns = drop number_lines (numbers_in es) in
      ap (λ (x : Sheet). length x.ssrcs) (sym (sheet_of-entries s users v))
      ∙ length-padded most_seats 0 ns (omega (arith, few-lines, length-drop number_lines (numbers_in es), length-numbers_in es))

  -- and eight rows
  eight-rows : length users ≡ most_seats
  unfolding users_of
  eight-rows =
      let names = drop number_lines (names_in es) in
      ap length (sym (users_of-entries s users v))
      ∙ length-padded most_seats (row_of []) (map row_of names)
      (omega (arith, few-lines, length-map names row_of, length-drop number_lines (names_in es), length-names_in es))

  -- no more seats than those
  few : s.seats ≤ most_seats
  few = few_seats s valid-alone

  -- ---- no two are the same

  -- two seats' SSRCs
  ssrcs-apart : (i j : ℕ) → i < j → j < s.seats → get_or s.ssrcs i 0 ≡ get_or s.ssrcs j 0 → ⊥
  unfolding valid_alone numbers_of number_lines table
  ssrcs-apart i j h l e =
      let xs = take s.seats s.ssrcs in
      let ns = numbers_of s ++ xs in
      let k = number_lines + j in
      let long : length ns ≡ number_lines + s.seats =
      omega (arith, length-append (numbers_of s) xs, length-take-le s.seats s.ssrcs (omega (arith, few, eight-ssrcs))) in
      let at : (r : ℕ) → r < s.seats → get_or ns (number_lines + r) 0 ≡ get_or s.ssrcs r 0 =
      λ r m. get_or-append-add (numbers_of s) xs r 0 ∙ get_or-take s.seats s.ssrcs r 0 m in
      seat_new (take k ns) (get_or ns k 0) (number_lines + i)
      (in_turn-at good_number ns k 0 (T-and-left (in_turn good_number [] ns) _ valid-alone) (omega arith))
      (omega arith)
      (omega (arith, length-take-le k ns (omega arith)))
      (get_or-take k ns (number_lines + i) 0 (omega arith) ∙ at i (omega arith) ∙ e ∙ sym (at j l))

  -- a seat's User ID is new behind those before it
  user-new : (r : ℕ) → r < s.seats → T (new_name r users (user_of users r))
  unfolding good_row
  user-new r h =
      let row = get_or users r [] in
      rw (lt-leb s.seats r h) at
      (T-and-right (same row (row_of (name_of row))) _ (valid-rows s users eight-ssrcs eight-rows valid-alone v r (omega (arith, few))))

  -- it is a User ID
  pub user-right : (r : ℕ) → r < s.seats → T (user_id (user_of users r))
  unfolding new_name
  user-right r h = T-and-left (user_id (user_of users r)) _ (user-new r h)

  -- two seats' User IDs
  users-apart : (i j : ℕ) → i < j → j < s.seats → user_of users i ≡ user_of users j → ⊥
  unfolding new_name seat_of_user
  users-apart i j h l e =
      let name = user_of users j in
      let test : List ℕ → Bool = λ row. same (name_of row) name in
      let before = take j users in
      let unlike = none-first-place test before [] (is-none (seat_of_user j users name) (T-and-right (user_id name) _ (user-new j l))) in
      false-T (test (get_or before i [])) (unlike i (omega (arith, length-take-le j users (omega (arith, few, eight-rows)))))
      (rw (get_or-take j users i [] h) (eq-same (user_of users i) name e))

  -- ---- whose it is

  -- the seat found by an SSRC is the one that has it
  pub ssrc-found : (ssrc : ℕ) → Finds (seat_of_ssrc s.seats s.ssrcs ssrc) (HasSsrc s ssrc)
  unfolding seat_of_ssrc
  ssrc-found ssrc =
      first_found (λ (x : ℕ). eqb x ssrc) (λ (x : ℕ). x ≡ ssrc) (λ x. (λ t. eqb→eq x ssrc t, λ e. true-T (eqb x ssrc) (eq-eqb x ssrc e)))
      s.ssrcs 0 s.seats (omega (arith, few, eight-ssrcs))
      (λ i j h l p q. ssrcs-apart i j h l (p ∙ sym q))

  -- and so the one found by a User ID
  pub user-found : (name : List ℕ) → Finds (seat_of_user s.seats users name) (HasUser s users name)
  unfolding seat_of_user
  user-found name =
      first_found (λ (row : List ℕ). same (name_of row) name) (λ (row : List ℕ). name_of row ≡ name)
      (λ row. (λ t. same-eq (name_of row) name t, λ e. eq-same (name_of row) name e))
      users [] s.seats (omega (arith, few, eight-rows))
      (λ i j h l p q. users-apart i j h l (p ∙ sym q))
