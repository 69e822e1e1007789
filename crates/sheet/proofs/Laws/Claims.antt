-- The claim of specs/Claims.antt, by its laws. Assumes nothing.
use mathlib.Core.Path.{◌≡◌, refl, sym, ap, ◌∙◌, subst}
use mathlib.Core.Bool.{◌&&◌}
use mathlib.Core.List.{List, [], ◌∷◌, ◌++◌}
use Prim.Native.Nat.{ℕ, ◌+◌, ◌≤◌, min}
use native.Mathlib.Omega.{arith}
use lib.ListN.{length, take, length-append, length-take}
use lib.Dec.{T}
use Rattle.octets.specs.Choice.{same}
use Rattle.octets.proofs.Choice.{T_and, T-and-left, T-and-right, same-eq, eq-same}
use Rattle.sheet.specs.declared.Sheet.{Sheet}
use Rattle.sheet.specs.Table.{number_lines, seats_line, most_seats, table}
use Rattle.sheet.specs.Judge.{Entry, numbers_in, names_in, good_number, good_name, good, in_turn, whole, valid}
use Rattle.sheet.specs.Value.{sheet_from, sheet_of, users_of, numbers_of, seat_entries, entries_of, valid_with, valid_alone}
use Rattle.sheet.specs.Claims.{ValidAloneExactly}
use Rattle.sheet.proofs.Laws.Entries.{numbers_in-append, length-names_in, seats_in, whole-eq, good-numbers}
use Rattle.sheet.proofs.Laws.Fresh.{fresh-name, seats_bound, many}
use Rattle.sheet.proofs.Laws.Laid.{numbers_in-entries_of, valid-good, numbers_in-seats, sheet_from-numbers, valid-length, laid-valid, valid-entries, sheet_of-entries}

-- good numbers with User IDs that go with them
named-entries : (ns : List ℕ) (b : List Entry) → T (in_turn good_number (numbers_in b) ns) → length b + length ns ≤ many
    → (es : List Entry) × (numbers_in es ≡ ns) × T (in_turn good b es)
unfolding in_turn good
named-entries [] b t h = ([], refl, tt)
named-entries (n ∷ ns) b t h =
    let m = fresh-name (names_in b) (rw (length-names_in b) (omega arith)) in
    let e : Entry = record { number = n; name = m.0 } in
    let l : length (b ++ (e ∷ [])) ≡ length b + 1 = length-append b (e ∷ []) in
    let g : T (good_number (numbers_in b) n) = T-and-left (good_number (numbers_in b) n) (in_turn good_number (numbers_in b ++ (n ∷ [])) ns) t in
    let r = named-entries ns (b ++ (e ∷ [])) (rw (numbers_in-append b (e ∷ [])) (T-and-right (good_number (numbers_in b) n) (in_turn good_number (numbers_in b ++ (n ∷ [])) ns) t)) (omega arith) in (
      e ∷ r.0,
      ap (λ (x : List ℕ). n ∷ x) r.1,
      T_and (good_number (numbers_in b) n && good_name (names_in b) m.0) (in_turn good (b ++ (e ∷ [])) r.0) (T_and (good_number (numbers_in b) n) (good_name (names_in b) m.0) g m.1) r.2,
    )

-- the numbers that a struct alone says
abbrev numbers : Sheet → List ℕ
numbers s = numbers_of s ++ take s.seats s.ssrcs

module _ (s : Sheet) (t : T (valid_alone s)) where
  alone-good : T (in_turn good_number [] (numbers s))
  unfolding valid_alone
  alone-good = T-and-left (in_turn good_number [] (numbers s)) (whole (numbers s) && same s.ssrcs (sheet_from (numbers s)).ssrcs) t

  alone_rest : T (whole (numbers s) && same s.ssrcs (sheet_from (numbers s)).ssrcs)
  unfolding valid_alone
  alone_rest = T-and-right (in_turn good_number [] (numbers s)) (whole (numbers s) && same s.ssrcs (sheet_from (numbers s)).ssrcs) t

  some-users : (users : List (List ℕ)) × T (valid_with s users)
  unfolding valid sheet_of number_lines table most_seats
  some-users =
      let w : T (whole (numbers s)) = T-and-left (whole (numbers s)) (same s.ssrcs (sheet_from (numbers s)).ssrcs) alone_rest in
      let p : s.ssrcs ≡ (sheet_from (numbers s)).ssrcs =
      same-eq s.ssrcs (sheet_from (numbers s)).ssrcs (T-and-right (whole (numbers s)) (same s.ssrcs (sheet_from (numbers s)).ssrcs) alone_rest) in
      let b : seats_in (numbers s) ≤ most_seats = seats_bound (numbers s) alone-good in
      let l : length (numbers s) ≡ number_lines + seats_in (numbers s) = whole-eq (numbers s) w in
      let n = named-entries (numbers s) [] alone-good (omega arith) in
      let v : T (valid n.0) = T_and (in_turn good [] n.0) (whole (numbers_in n.0)) n.2 (rw n.1 w) in
      let q : sheet_of n.0 ≡ s = ap sheet_from n.1 ∙ sheet_from-numbers s (take s.seats s.ssrcs) p in
      (users_of n.0, subst (λ (x : Sheet). T (valid_with x (users_of n.0))) q (laid-valid n.0 v))

module _ (s : Sheet) (users : List (List ℕ)) (t : T (valid_with s users)) where
  -- no row is missing, so the numbers are those that the struct says
  numbers-entries : numbers_in (entries_of s users) ≡ numbers s
  unfolding entries_of numbers_of number_lines table seats_line
  numbers-entries =
      let xs = take s.seats s.ssrcs in
      let n : length (numbers_in (seat_entries xs users)) ≡ min (length users) (length xs) = ap length (numbers_in-seats xs users) ∙ length-take (length users) xs in
      let l : length (numbers_in (entries_of s users)) ≡ number_lines + seats_in (numbers_in (entries_of s users)) = valid-length (entries_of s users) (valid-entries s users t) in
      let m : length xs ≡ min s.seats (length s.ssrcs) = length-take s.seats s.ssrcs in
      let h : length xs ≤ length users = omega arith in
      numbers_in-entries_of s users h

  alone-valid : T (valid_alone s)
  unfolding valid_alone valid sheet_of
  alone-valid =
      let es = entries_of s users in
      let v : T (valid es) = valid-entries s users t in
      let g : T (in_turn good_number [] (numbers s)) = rw numbers-entries at (good-numbers [] es (valid-good es v)) in
      let w : T (whole (numbers s)) = rw numbers-entries at (T-and-right (in_turn good [] es) (whole (numbers_in es)) v) in
      let p : s.ssrcs ≡ (sheet_from (numbers s)).ssrcs = ap (λ (x : Sheet). x.ssrcs) (sym (sheet_of-entries s users t) ∙ ap sheet_from numbers-entries) in
      T_and (in_turn good_number [] (numbers s)) (whole (numbers s) && same s.ssrcs (sheet_from (numbers s)).ssrcs) g
      (T_and (whole (numbers s)) (same s.ssrcs (sheet_from (numbers s)).ssrcs) w (eq-same s.ssrcs (sheet_from (numbers s)).ssrcs p))

-- which structs some User IDs go with
pub valid_alone_exactly : ValidAloneExactly
valid_alone_exactly s = (λ t. some-users s t, λ w. alone-valid s w.0 w.1)
