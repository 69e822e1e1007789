-- Laws on a name judged: it is new among the rows of User IDs exactly if it is new among the names on the lines. Assumes nothing.
use mathlib.Core.Path.{◌≡◌, refl}
use mathlib.Core.Bool.{Bool, true, false, not, ◌&&◌, ◌||◌}
use mathlib.Core.Option
use mathlib.Core.Option.{Option, none, some}
use mathlib.Core.List.{List, [], ◌∷◌, ◌++◌, map}
use Prim.Native.Nat.{ℕ, suc, ◌≤◌, ◌<◌}
use lib.ListN.{length, take}
use Rattle.octets.specs.Choice.{pick, same, some_of, first_place}
use Rattle.octets.proofs.Choice.{some-of-append, some-of-map}
use Rattle.sheet.specs.Table.{seat_row, number_lines}
use Rattle.sheet.specs.Judge.{Entry, names_in, user_id, good_name}
use Rattle.sheet.specs.Value.{name_of, alone}
use Rattle.sheet.specs.Find.{seat_of_user, is_none, new_name}
use Rattle.sheet.proofs.Laws.Rules.{row_at-seat, row-unnamed}
use Rattle.sheet.proofs.Laws.Entries.{length-names_in}

-- ---- a name on its line

-- no name is good on a line with a number alone
pub no_name : (b : List Entry) → length b < number_lines → good_name (names_in b) [] ≡ true
unfolding good_name
no_name b h =
    rw (length-names_in b, row-unnamed (length b) h)

-- on a seat's line a User ID is that none of the lines before has
pub seat-named : (b : List Entry) (name : List ℕ) → number_lines ≤ length b
    → good_name (names_in b) name ≡ (user_id name && not (some_of (λ (other : List ℕ). same other name) (names_in b)))
unfolding good_name seat_row
seat-named b name h = rw (length-names_in b, row_at-seat (length b) h)

-- ---- a name among the rows

-- there is no place exactly if none passes
is_none-first : {A : Type 0} (p : A → Bool) (xs : List A) → is_none (first_place p xs) ≡ not (some_of p xs)
is_none-first p [] = refl
is_none-first p (x ∷ xs) = by-test (p x) (first_place p xs) (some_of p xs) (is_none-first p xs)
  where
    by-test : (b : Bool) (o : Option ℕ) (t : Bool) → is_none o ≡ not t → is_none (pick b (some 0) (Option.map suc o)) ≡ not (b || t)
    by-test true o t e = refl
    by-test false none t e = e
    by-test false (some n) t e = e

-- a line with a number alone has no name
some-of-alone : (ns : List ℕ) (c : ℕ) (cs : List ℕ) → some_of (λ (other : List ℕ). same other (c ∷ cs)) (names_in (map alone ns)) ≡ false
some-of-alone [] c cs = refl
some-of-alone (n ∷ ns) c cs = some-of-alone ns c cs

-- the lines with a number alone before them have no name
pub new_among : (ns : List ℕ) (i : ℕ) (users : List (List ℕ)) (name : List ℕ)
    → new_name i users name ≡ (user_id name && not (some_of (λ (other : List ℕ). same other name) (names_in (map alone ns) ++ map name_of (take i users))))
unfolding new_name seat_of_user user_id
new_among ns i users [] = refl
new_among ns i users (c ∷ cs) =
    let q : List ℕ → Bool = λ other. same other (c ∷ cs) in
    rw (some-of-append q (names_in (map alone ns)) (map name_of (take i users)), some-of-alone ns c cs, some-of-map q name_of (take i users), is_none-first (λ (row : List ℕ). same (name_of row) (c ∷ cs)) (take i users))
