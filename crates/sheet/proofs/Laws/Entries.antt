-- Laws on which entries may stand in a sheet. Assumes nothing.
use mathlib.Core.Path.{◌≡◌, sym, subst}
use mathlib.Core.Logic.{◌⊎◌, inl, inr, ⊎_elim}
use mathlib.Core.Bool.{Bool, true, false, ◌&&◌, and_assoc}
use mathlib.Core.List.{List, [], ◌∷◌, ◌++◌, map, append-nil, append_assoc, map-append}
use Prim.Native.Nat.{ℕ, suc, ◌+◌, ◌≤◌, ◌<◌, zero, suc-le-suc}
use native.Mathlib.Nat.{zero-lt-suc}
use native.Mathlib.Omega.{arith}
use lib.ListN.{length, get_or, take, drop, take-append-drop, length-append, length-map, get_or-append, get_or-eq_default}
use lib.Seq.{drop-cons}
use lib.Dec.{T, leb, leb→le, eqb→eq}
use borrow.Author.Tests.{eqb-false, eq-eqb, ne_eqb}
use Rattle.octets.specs.Choice.{pick, same, every}
use Rattle.octets.proofs.Choice.{true-T, T_and, T-and-left, T-and-right, le-or-lt}
use Rattle.sheet.specs.Table.{Row, table, number_lines, seats_line, row_at}
use Rattle.sheet.specs.Judge.{Entry, numbers_in, names_in, good_number, visible, longest_name, user_id, good_name, good, in_turn, whole}

-- ---- in_turn: each good behind those before it

module _ {A : Type 0} (p : List A → A → Bool) where
  -- of two lists, the second behind the first
  pub in_turn-append : (b xs ys : List A) → in_turn p b (xs ++ ys) ≡ (in_turn p b xs && in_turn p (b ++ xs) ys)
  unfolding in_turn
  in_turn-append b [] ys = rw (append-nil b)
  in_turn-append b (x ∷ xs) ys =
      rw (in_turn-append (b ++ (x ∷ [])) xs ys, append_assoc b (x ∷ []) xs)
      (sym (and_assoc (p b x) (in_turn p (b ++ (x ∷ [])) xs) (in_turn p (b ++ (x ∷ xs)) ys)))

  -- one more, good behind the others
  pub in_turn-snoc : (b : List A) (x : A) → T (in_turn p [] b) → T (p b x) → T (in_turn p [] (b ++ (x ∷ [])))
  unfolding in_turn
  in_turn-snoc b x t g = rw (in_turn-append [] b (x ∷ [])) (T_and (in_turn p [] b) (p b x && true) t (T_and (p b x) true g tt))

  -- those behind the first k
  pub in_turn-drop : (k : ℕ) (xs : List A) → T (in_turn p [] xs) → T (in_turn p (take k xs) (drop k xs))
  in_turn-drop k xs t =
      T-and-right (in_turn p [] (take k xs)) (in_turn p (take k xs) (drop k xs))
      (rw (in_turn-append [] (take k xs) (drop k xs)) at (subst (λ (ys : List A). T (in_turn p [] ys)) (sym (take-append-drop k xs)) t))

  -- each is good behind those before it
  pub in_turn-at : (xs : List A) (k : ℕ) (d : A) → T (in_turn p [] xs) → k < length xs → T (p (take k xs) (get_or xs k d))
  unfolding in_turn
  in_turn-at xs k d t h =
      let g : T (in_turn p (take k xs) (get_or xs k d ∷ drop (suc k) xs)) = rw (drop-cons xs k d h) at (in_turn-drop k xs t) in
      T-and-left (p (take k xs) (get_or xs k d)) (in_turn p (take k xs ++ (get_or xs k d ∷ [])) (drop (suc k) xs)) g

-- each good behind those before it, so all in turn
pub at-in_turn : {A : Type 0} (p : List A → A → Bool) (d : A) (b xs : List A) → ((k : ℕ) → k < length xs → T (p (b ++ take k xs) (get_or xs k d)))
    → T (in_turn p b xs)
unfolding in_turn
at-in_turn p d b [] h = tt
at-in_turn p d b (x ∷ xs) h =
    T_and (p b x) (in_turn p (b ++ (x ∷ [])) xs) (rw (append-nil b) at (h zero (zero-lt-suc (length xs))))
    (at-in_turn p d (b ++ (x ∷ [])) xs (λ k l. rw (append_assoc b (x ∷ []) (take k xs)) (h (suc k) (suc-le-suc l))))

-- what is good by one test is good by another, that looks at a part of each
pub in_turn-map : {A B : Type 0} (p : List A → A → Bool) (q : List B → B → Bool) (f : A → B)
    → ((b : List A) (x : A) → T (p b x) → T (q (map f b) (f x)))
    → (b xs : List A) → T (in_turn p b xs) → T (in_turn q (map f b) (map f xs))
unfolding in_turn
in_turn-map p q f h b [] t = tt
in_turn-map p q f h b (x ∷ xs) t =
    T_and (q (map f b) (f x)) (in_turn q (map f b ++ (f x ∷ [])) (map f xs)) (h b x (T-and-left (p b x) (in_turn p (b ++ (x ∷ [])) xs) t))
    (rw (map-append f b (x ∷ [])) at (in_turn-map p q f h (b ++ (x ∷ [])) xs (T-and-right (p b x) (in_turn p (b ++ (x ∷ [])) xs) t)))

-- ---- whole: as many seats as the line seats says

-- an entry has one number
pub length-numbers_in : (es : List Entry) → length (numbers_in es) ≡ length es
length-numbers_in es = length-map es (λ (e : Entry). e.number)

-- the numbers of two lists
pub numbers_in-append : (xs ys : List Entry) → numbers_in (xs ++ ys) ≡ numbers_in xs ++ numbers_in ys
numbers_in-append xs ys = map-append (λ (e : Entry). e.number) xs ys

-- the number on the line seats, as far as the numbers go
abbrev pub seats_in : List ℕ → ℕ
seats_in ns = get_or ns seats_line 0

-- not past the sheet's end
abbrev pub Open : List ℕ → Type 0
Open ns = length ns ≤ number_lines + seats_in ns

-- a whole sheet has the lines that it says
pub whole-eq : (ns : List ℕ) → T (whole ns) → length ns ≡ number_lines + seats_in ns
unfolding whole
whole-eq ns t = eqb→eq (length ns) (number_lines + seats_in ns) t

-- a sheet with the lines that it says is whole
pub eq-whole : (ns : List ℕ) → length ns ≡ number_lines + seats_in ns → T (whole ns)
unfolding whole
eq-whole ns e = true-T (whole ns) (eq-eqb (length ns) (number_lines + seats_in ns) e)

-- one that is not whole has not
pub not-whole : (ns : List ℕ) → whole ns ≡ false → length ns ≡ number_lines + seats_in ns → ⊥
unfolding whole
not-whole ns e = eqb-false (length ns) (number_lines + seats_in ns) e

-- a line more on an open sheet leaves the line seats as it was, or is that line
seats_in-append : (ns ms : List ℕ) → (seats_in (ns ++ ms) ≡ seats_in ns) ⊎ ((length ns ≤ seats_line) × (seats_in ns ≡ 0))
seats_in-append ns ms =
    ⊎_elim (λ h. inr (h, get_or-eq_default ns 0 h)) (λ h. inl (get_or-append ns ms 0 seats_line h)) (le-or-lt (length ns) seats_line)

-- an open sheet that is not whole is open with a line more
pub open_more : (ns : List ℕ) (n : ℕ) → Open ns → whole ns ≡ false → Open (ns ++ (n ∷ []))
open_more ns n o e =
    let l : length (ns ++ (n ∷ [])) ≡ length ns + 1 = length-append ns (n ∷ []) in
    let ne : length ns ≡ number_lines + seats_in ns → ⊥ = not-whole ns e in
    ⊎_elim (λ s. omega (arith, s)) (λ s. omega (arith, s.0, s.1)) (seats_in-append ns (n ∷ []))

-- what goes on behind a front of a whole sheet: the front is not whole
pub whole-front : (ns : List ℕ) (m : ℕ) (ms : List ℕ) → T (whole (ns ++ (m ∷ ms))) → whole ns ≡ false
unfolding whole number_lines seats_line table
whole-front ns m ms t =
    let w : length (ns ++ (m ∷ ms)) ≡ number_lines + seats_in (ns ++ (m ∷ ms)) = whole-eq (ns ++ (m ∷ ms)) t in
    let l : length (ns ++ (m ∷ ms)) ≡ length ns + suc (length ms) = length-append ns (m ∷ ms) in
    ne_eqb (length ns) (number_lines + seats_in ns)
    (λ q. ⊎_elim (λ s. omega (arith, s)) (λ s. omega (arith, s.0, s.1)) (seats_in-append ns (m ∷ ms)))

-- ---- good: the number's part and the name's

-- its number is good
pub good-number : (b : List Entry) (e : Entry) → T (good b e) → T (good_number (numbers_in b) e.number)
unfolding good
good-number b e t = T-and-left (good_number (numbers_in b) e.number) (good_name (names_in b) e.name) t

-- its name is good
pub good-name : (b : List Entry) (e : Entry) → T (good b e) → T (good_name (names_in b) e.name)
unfolding good
good-name b e t = T-and-right (good_number (numbers_in b) e.number) (good_name (names_in b) e.name) t

-- a User ID fits its row
pub user_id-short : (name : List ℕ) → T (user_id name) → length name ≤ longest_name
unfolding user_id
user_id-short name t =
    leb→le (length name) longest_name
    (T-and-left (leb (length name) longest_name) (every visible name) (T-and-right (leb 1 (length name)) (leb (length name) longest_name && every visible name) t))

-- a name that a line of the row can show: visible octets on a seat's line, else nothing
abbrev pub shaped : Row → List ℕ → Bool
shaped r name = pick r.named (every visible name) (same name [])

shape_of : (b : Bool) (name : List ℕ) (q : Bool) → T (pick b (user_id name && q) (same name [])) → T (pick b (every visible name) (same name []))
unfolding user_id
shape_of true name q t = search (T-and-left, T-and-right)
shape_of false name q t = t

-- an entry has one name
pub length-names_in : (es : List Entry) → length (names_in es) ≡ length es
length-names_in es = length-map es (λ (e : Entry). e.name)

-- a good name can stand on its line
pub good-shaped : (b : List Entry) (e : Entry) → T (good b e) → T (shaped (row_at (length b)) e.name)
unfolding good_name
good-shaped b e t =
    let g : T (good_name (names_in b) e.name) = good-name b e t in
    shape_of (row_at (length b)).named e.name _ (rw (length-names_in b) at g)

-- good entries have good numbers
pub good-numbers : (b es : List Entry) → T (in_turn good b es) → T (in_turn good_number (numbers_in b) (numbers_in es))
good-numbers b es t = in_turn-map good good_number (λ (e : Entry). e.number) good-number b es t
