-- Laws on the reader's one pass: what its arrays hold after some good lines, and what one line more does. Assumes nothing.
use mathlib.Core.Path.{fun_ext, ◌≡◌, refl, sym, ap, ap₂, ◌∙◌, subst}
use mathlib.Core.Logic.{⊎_elim}
use mathlib.Core.Bool.{Bool, true, false, not, ◌&&◌}
use mathlib.Core.List.{List, [], ◌∷◌, ◌++◌, map, map-append}
use Prim.Native.Nat.{ℕ, zero, suc, ◌+◌, ◌-◌, ◌≤◌, ◌<◌, zero-le}
use native.Mathlib.Nat.{le_refl, add-zero}
use native.Mathlib.Omega.{arith}
use lib.ListN.{length, get_or, set, take, drop, replicate, take-append-drop, length-append, length-map, length-drop, get_or-replicate, length-replicate, drop_of_length-le}
use lib.Seq.{drop-append-le, drop-drop, get_or-append-add, length-take-le}
use lib.Dec.{T, leb}
use borrow.Author.Tests.{le-leb, lt-leb}
use Rattle.std.specs.Prelude.{Ok, Err, is_ok}
use Rattle.octets.specs.Choice.{pick, same, begins, some_of}
use Rattle.octets.specs.Buffer.{padded, over, put_at}
use Rattle.std.proofs.lemmas.List.{drop-map, drop-replicate}
use Rattle.octets.proofs.Choice.{T_true, T_false, le-or-lt, T-and-left, T-and-right}
use Rattle.octets.proofs.Buffer.{over-put_at, take-padded, set-padded, get_or-padded, padded-full, padded-nil}
use Rattle.sheet.specs.declared.Refusal.{Refusal}
use Rattle.sheet.specs.Table.{table, number_lines, seats_line, most_seats, row_at}
use Rattle.sheet.specs.Judge.{Entry, numbers_in, names_in, good_number, longest_name, user_id, good_name, good, in_turn, whole}
use Rattle.sheet.specs.Value.{sheet_by, sheet_from, sheet_of, row_of, users_of, name_of, alone}
use Rattle.sheet.specs.Find.{seat_of_user, is_none, new_name}
use Rattle.sheet.proofs.Laws.Rules.{row-unnamed}
use Rattle.sheet.proofs.Laws.Entries.{user_id-short, good-numbers, whole-eq, eq-whole, open_more, in_turn-drop, in_turn-snoc, length-numbers_in, length-names_in, numbers_in-append, seats_in, Open}
use Rattle.sheet.proofs.Laws.Fresh.{seats_bound}
use Rattle.sheet.proofs.Laws.Names.{no_name, seat-named, new_among}
use Rattle.sheet.proofs.Laws.Laid.{alone-take, name_of-row_of, seat-name}
use Rattle.sheet_line.specs.Line.{line_of, entry_in}
use Rattle.sheet_text.specs.declared.Reading.{Reading}
use Rattle.sheet_text.specs.Text.{text_from, text_of}
use Rattle.sheet_text.specs.Reading.{Outcome, reads, refused, good_line, behind, read_by, outcome, reading_of, users_from, read_of, users_in, users_over}
use Rattle.sheet_text.specs.Inner.{good_at, JudgedIs}
use Rattle.sheet_line.specs.declared.Line.{Line}
use Rattle.sheet_text.proofs.Laws.Lines.{length-text_of-snoc}
use Rattle.sheet_text.proofs.Laws.Readings.{entry_at, good_line-good, read_by-whole, read_by-bad, read_by-good, length-behind}

-- ---- a name is new among the rows exactly if it is new among the names

-- the rows of seats hold their names
name_of-rows : (xs b : List Entry) → T (in_turn good b xs) → number_lines ≤ length b → map name_of (map row_of (names_in xs)) ≡ names_in xs
unfolding in_turn
name_of-rows [] b t h = refl
name_of-rows (e ∷ es) b t h =
    let l : length (b ++ (e ∷ [])) ≡ length b + 1 = length-append b (e ∷ []) in
    ap₂ (λ (x : List ℕ) (xs : List (List ℕ)). x ∷ xs)
    (name_of-row_of e.name (seat-name b e (T-and-left (good b e) (in_turn good (b ++ (e ∷ [])) es) t) h))
    (name_of-rows es (b ++ (e ∷ [])) (T-and-right (good b e) (in_turn good (b ++ (e ∷ [])) es) t) (omega arith))

-- how many rows are laid out
length-rows : (b : List Entry) → length (map row_of (drop number_lines (names_in b))) ≡ length b - number_lines
length-rows b =
    length-map (drop number_lines (names_in b)) row_of
    ∙ length-drop number_lines (names_in b)
    ∙ ap (λ (n : ℕ). n - number_lines) (length-names_in b)

module _ (b : List Entry) (t : T (in_turn good [] b)) (h : number_lines ≤ length b) where
  rows-laid : take (length b - number_lines) (users_of b) ≡ map row_of (names_in (drop number_lines b))
  unfolding users_of
  rows-laid =
      let rows = map row_of (drop number_lines (names_in b)) in
      ap (λ (n : ℕ). take n (padded most_seats (row_of []) rows)) (sym (length-rows b))
      ∙ take-padded most_seats (row_of []) rows
      ∙ ap (λ (names : List (List ℕ)). map row_of names) (drop-map (λ (e : Entry). e.name) number_lines b)

  names-split : names_in b ≡ names_in (map alone (take number_lines (numbers_in b))) ++ names_in (drop number_lines b)
  names-split =
      ap names_in (sym (take-append-drop number_lines b))
      ∙ map-append (λ (e : Entry). e.name) (take number_lines b) (drop number_lines b)
      ∙ ap (λ (es : List Entry). names_in es ++ names_in (drop number_lines b)) (sym (alone-take number_lines [] b t (omega arith)))

  new-name : (name : List ℕ) → new_name (length b - number_lines) (users_of b) name ≡ (user_id name && not (some_of (λ (other : List ℕ). same other name) (names_in b)))
  new-name name =
      let alones = names_in (map alone (take number_lines (numbers_in b))) in
      new_among (take number_lines (numbers_in b)) (length b - number_lines) (users_of b) name
      ∙ ap (λ (names : List (List ℕ)). user_id name && not (some_of (λ (other : List ℕ). same other name) names))
      (ap (λ (rows : List (List ℕ)). alones ++ map name_of rows) rows-laid
      ∙ ap (λ (names : List (List ℕ)). alones ++ names) (name_of-rows (drop number_lines b) (take number_lines b) (in_turn-drop good number_lines b t) (rw (length-take-le number_lines b h) (le_refl number_lines)))
      ∙ sym names-split)

-- ---- a line judged against the arrays is judged against the entries

-- a line with a number alone shows no name
name-none : (b : List Entry) (s : List ℕ) → length b < number_lines → (entry_at b s).name ≡ []
unfolding entry_in
name-none b s h = rw (row-unnamed (length b) h)

name-judged : (b : List Entry) (s : List ℕ) → T (in_turn good [] b)
    → pick (leb number_lines (length b)) (new_name (length b - number_lines) (users_of b) (entry_at b s).name) true ≡ good_name (names_in b) (entry_at b s).name
name-judged b s t =
    ⊎_elim
    (λ h. rw (le-leb number_lines (length b) h) (new-name b t h (entry_at b s).name ∙ sym (seat-named b (entry_at b s).name h)))
    (λ h. rw (lt-leb number_lines (length b) h) (sym (ap (good_name (names_in b)) (name-none b s h) ∙ no_name b h)))
    (le-or-lt number_lines (length b))

-- the lines of the longest sheet
abbrev pub room : ℕ
room = number_lines + most_seats

-- a line judged against the arrays is judged against the entries
pub line_judged : (t : List ℕ) (at : ℕ) (b : List Entry) → T (in_turn good [] b)
    → good_at t at (length b) (padded room 0 (numbers_in b)) (users_of b) ≡ good_line b (drop at t)
unfolding good_at good_line good
line_judged t at b g =
    let e = entry_at b (drop at t) in
    let n : take (length b) (padded room 0 (numbers_in b)) ≡ numbers_in b =
    ap (λ (k : ℕ). take k (padded room 0 (numbers_in b))) (sym (length-numbers_in b)) ∙ take-padded room 0 (numbers_in b) in
    ap (λ (x : Bool). begins (line_of (row_at (length b)) e) (drop at t) && x)
    (ap₂ (λ (x y : Bool). x && y) (ap (λ (ns : List ℕ). good_number ns e.number) n) (name-judged b (drop at t) g))

-- ---- what the pass holds

-- how many lines there are, as far as these numbers say
abbrev pub lines_in : List ℕ → ℕ
lines_in ns = number_lines + seats_in ns

-- after the lines of some entries: their numbers and User IDs laid out, the place behind them, and the same outcome as from the
-- start
pub record Scanned (t numbers : List ℕ) (users : List (List ℕ)) (at k : ℕ) : Type 0 where
  pub before : List Entry
  pub fuel : ℕ
  pub count : length before ≡ k
  pub goods : T (in_turn good [] before)
  pub numbers_are : numbers ≡ padded room 0 (numbers_in before)
  pub users_are : users ≡ users_of before
  pub fits : k ≤ lines_in numbers
  pub place : at ≡ length (text_of before)
  pub enough : length (drop at t) ≤ fuel
  pub same_outcome : read_by fuel before (drop at t) ≡ outcome t

-- before the first line
pub scanned-none : (t : List ℕ) → Scanned t (replicate room 0) (users_of []) 0 0
unfolding in_turn padded number_lines table seats_line text_of text_from outcome
scanned-none t =
    record {
      before = [];
      fuel = length t;
      count = refl;
      goods = tt;
      numbers_are = sym (padded-nil room 0);
      users_are = refl;
      fits = zero-le;
      place = refl;
      enough = le_refl (length t);
      same_outcome = refl;
    }

module _ {t numbers : List ℕ} {users : List (List ℕ)} {at k : ℕ} (i : Scanned t numbers users at k) where
  abbrev es : List Entry
  es = i.before

  scanned-judged : good_at t at k numbers users ≡ good_line es (drop at t)
  scanned-judged =
      ap (λ (ns : List ℕ). good_at t at k ns users) i.numbers_are
      ∙ ap (λ (us : List (List ℕ)). good_at t at k (padded room 0 (numbers_in es)) us) i.users_are
      ∙ ap (λ (n : ℕ). good_at t at n (padded room 0 (numbers_in es)) (users_of es)) (sym i.count)
      ∙ line_judged t at es i.goods

  -- the numbers laid out say what the entries' do
  scanned-lines : lines_in numbers ≡ lines_in (numbers_in es)
  scanned-lines = ap lines_in i.numbers_are ∙ ap (λ (n : ℕ). number_lines + n) (get_or-padded room 0 (numbers_in es) seats_line)

  -- a sheet has no more lines than the arrays have room for
  pub scanned-room : lines_in numbers ≤ room
  unfolding number_lines table most_seats
  scanned-room = let b : seats_in (numbers_in es) ≤ most_seats = seats_bound (numbers_in es) (good-numbers [] es i.goods) in omega (arith, scanned-lines)

  open-line : k < lines_in numbers → whole (numbers_in es) ≡ false
  open-line h =
      T_false (whole (numbers_in es))
      (λ w. let e = whole-eq (numbers_in es) w in let l = length-numbers_in es in omega (arith, scanned-lines, i.count))

  -- a bad line is the one that is named
  pub scanned-bad : k < lines_in numbers → good_at t at k numbers users ≡ false → outcome t ≡ refused (k + 1)
  scanned-bad h g =
      sym i.same_outcome
      ∙ read_by-bad i.fuel es (drop at t) (open-line h) (sym scanned-judged ∙ g)
      ∙ ap (λ (n : ℕ). refused (n + 1)) i.count

  -- behind the last line the sheet is read
  pub scanned-all : lines_in numbers ≤ k → outcome t ≡ reads es
  scanned-all h =
      sym i.same_outcome
      ∙ read_by-whole i.fuel es (drop at t)
      (T_true (whole (numbers_in es))
      (eq-whole (numbers_in es) (let l = length-numbers_in es in omega (arith, i.fits, scanned-lines, i.count))))

-- ---- one good line more

-- what an array of User IDs holds with one line more
users_kept : (b : List Entry) (e : Entry) → length b < number_lines → users_of (b ++ (e ∷ [])) ≡ users_of b
unfolding users_of
users_kept b e h =
    let l : length (names_in (b ++ (e ∷ []))) ≡ length b + 1 = length-names_in (b ++ (e ∷ [])) ∙ length-append b (e ∷ []) in
    ap (λ (names : List (List ℕ)). padded most_seats (row_of []) (map row_of names))
    (drop_of_length-le (names_in (b ++ (e ∷ []))) {i = number_lines} (omega arith)
    ∙ sym (drop_of_length-le (names_in b) {i = number_lines} (let m = length-names_in b in omega arith)))

-- a name put into a row of zeros
pub over_zeros : (name : List ℕ) → over name (row_of []) ≡ row_of name
unfolding over row_of padded
over_zeros name = ap (λ (xs : List ℕ). name ++ xs) (drop-replicate (length name) 60 0)

-- the row behind those that are laid out is a row of zeros
next_row : (b : List Entry) → length b - number_lines < most_seats → get_or (users_of b) (length b - number_lines) [] ≡ row_of []
unfolding users_of padded
next_row b m =
    let rows = map row_of (drop number_lines (names_in b)) in
    let l : length rows ≡ length b - number_lines = length-rows b in
    ap (λ (j : ℕ). get_or (rows ++ replicate (most_seats - length rows) (row_of [])) j []) (sym l ∙ sym (add-zero (length rows)))
    ∙ get_or-append-add rows (replicate (most_seats - length rows) (row_of [])) 0 []
    ∙ get_or-replicate (most_seats - length rows) 0 (row_of []) [] (omega arith)

users_more : (b : List Entry) (e : Entry) → number_lines ≤ length b → length b - number_lines < most_seats
    → users_of (b ++ (e ∷ [])) ≡ set (users_of b) (length b - number_lines) (over e.name (get_or (users_of b) (length b - number_lines) []))
unfolding users_of
users_more b e h m =
    let rows = map row_of (drop number_lines (names_in b)) in
    let l : length rows ≡ length b - number_lines = length-rows b in
    let n : map row_of (drop number_lines (names_in (b ++ (e ∷ [])))) ≡ rows ++ (row_of e.name ∷ []) =
    ap (λ (names : List (List ℕ)). map row_of (drop number_lines names)) (map-append (λ (x : Entry). x.name) b (e ∷ []))
    ∙ ap (λ (names : List (List ℕ)). map row_of names) (drop-append-le number_lines (names_in b) (e.name ∷ []) (rw (length-names_in b) h))
    ∙ map-append row_of (drop number_lines (names_in b)) (e.name ∷ []) in
    ap (padded most_seats (row_of [])) n
    ∙ sym (set-padded most_seats (row_of []) rows (row_of e.name) (omega arith))
    ∙ ap (λ (j : ℕ). set (padded most_seats (row_of []) rows) j (row_of e.name)) l
    ∙ ap (λ (row : List ℕ). set (padded most_seats (row_of []) rows) (length b - number_lines) row) (sym (over_zeros e.name) ∙ ap (λ (row : List ℕ). over e.name row) (sym (next_row b m)))

module _ {t numbers : List ℕ} {users : List (List ℕ)} {at k : ℕ} (i : Scanned t numbers users at k) (h : k < lines_in numbers) where
  -- the entry in the line
  abbrev pub next : Entry
  next = entry_in (row_at k) (drop at t)

  abbrev more : List Entry
  more = i.before ++ (next ∷ [])

  next-is : entry_at i.before (drop at t) ≡ next
  next-is = ap (λ (n : ℕ). entry_in (row_at n) (drop at t)) i.count

  length-numbers : length (numbers_in i.before) ≡ k
  length-numbers = length-numbers_in i.before ∙ i.count

  next-numbers : numbers_in more ≡ numbers_in i.before ++ (next.number ∷ [])
  next-numbers = numbers_in-append i.before (next ∷ [])

  -- its number is laid out behind the others
  pub numbers-next : set numbers k next.number ≡ padded room 0 (numbers_in more)
  numbers-next =
      ap (λ (ns : List ℕ). set ns k next.number) i.numbers_are
      ∙ ap (λ (n : ℕ). set (padded room 0 (numbers_in i.before)) n next.number) (sym length-numbers)
      ∙ set-padded room 0 (numbers_in i.before) next.number (let r = scanned-room i in let l = length-numbers in omega arith)
      ∙ ap (padded room 0) (sym next-numbers)

  -- a line with a number alone leaves the User IDs
  pub users-same : k < number_lines → users ≡ users_of more
  users-same l = i.users_are ∙ sym (users_kept i.before next (rw i.count l))

  -- a seat's puts its own
  pub users-next : number_lines ≤ k → set users (k - number_lines) (over next.name (get_or users (k - number_lines) [])) ≡ users_of more
  unfolding number_lines table most_seats
  users-next l =
      let r = scanned-room i in
      let m = users_more i.before next (rw i.count l) (let c = i.count in omega arith) in
      ap (λ (us : List (List ℕ)). set us (k - number_lines) (over next.name (get_or us (k - number_lines) []))) i.users_are
      ∙ ap (λ (n : ℕ). set (users_of i.before) (n - number_lines) (over next.name (get_or (users_of i.before) (n - number_lines) []))) (sym i.count)
      ∙ sym m

  fits_next : k + 1 ≤ lines_in (set numbers k next.number)
  fits_next =
      let n : lines_in (set numbers k next.number) ≡ lines_in (numbers_in more) =
      ap lines_in numbers-next ∙ ap (λ (n : ℕ). number_lines + n) (get_or-padded room 0 (numbers_in more) seats_line) in
      let l : length (numbers_in more) ≡ k + 1 = length-numbers_in more ∙ length-append i.before (next ∷ []) ∙ ap (λ (m : ℕ). m + 1) i.count in
      let o : Open (numbers_in i.before) = let c = length-numbers in omega (arith, i.fits, scanned-lines i) in
      let q : Open (numbers_in more) = subst (λ (ns : List ℕ). Open ns) (sym next-numbers) (open_more (numbers_in i.before) next.number o (open-line i h)) in
      omega arith

  place-next : at + length (line_of (row_at k) next) ≡ length (text_of more)
  place-next =
      ap₂ (λ (m n : ℕ). m + length (line_of (row_at n) next)) i.place (sym i.count) ∙ sym (length-text_of-snoc i.before next)

  module _ (g : T (good_at t at k numbers users)) where
    good-next : T (good_line i.before (drop at t))
    good-next = rw (scanned-judged i) at g

    behind-next : behind i.before (drop at t) ≡ drop (at + length (line_of (row_at k) next)) t
    unfolding behind
    behind-next =
        ap (λ (n : ℕ). drop (length (line_of (row_at n) (entry_in (row_at n) (drop at t)))) (drop at t)) i.count
        ∙ drop-drop (length (line_of (row_at k) next)) at t

    -- the bound is not met before the text's end
    reading-next : (f : ℕ) → length (drop at t) ≤ f → read_by f i.before (drop at t) ≡ outcome t
        → (f' : ℕ) × (length (drop (at + length (line_of (row_at k) next)) t) ≤ f') × (read_by f' more (drop (at + length (line_of (row_at k) next)) t) ≡ outcome t)
    reading-next zero n o = let l = length-behind i.before (drop at t) good-next in absurd (omega arith)
    reading-next (suc f) n o =
        let l = length-behind i.before (drop at t) good-next in (
          f,
          rw behind-next at (let m : length (behind i.before (drop at t)) ≤ f = omega arith in m),
          ap₂ (λ (e : Entry) (u : List ℕ). read_by f (i.before ++ (e ∷ [])) u) (sym next-is) (sym behind-next)
              ∙ sym (read_by-good f i.before (drop at t) (open-line i h) (T_true (good_line i.before (drop at t)) good-next))
              ∙ o,
        )

    -- what the pass holds behind it
    pub scanned-more : (users' : List (List ℕ)) (at' : ℕ) → users' ≡ users_of more
        → at' ≡ at + length (line_of (row_at k) next) → Scanned t (set numbers k next.number) users' at' (k + 1)
    scanned-more users' at' u a =
        let r = reading-next i.fuel i.enough i.same_outcome in
        let c : length more ≡ k + 1 = length-append i.before (next ∷ []) ∙ ap (λ (m : ℕ). m + 1) i.count in
        record {
          before = more;
          fuel = r.0;
          count = c;
          goods = in_turn-snoc good i.before next i.goods (subst (λ (e : Entry). T (good i.before e)) next-is (good_line-good i.before (drop at t) good-next));
          numbers_are = numbers-next;
          users_are = u;
          fits = fits_next;
          place = a ∙ place-next;
          enough = rw a r.1;
          same_outcome = rw a r.2;
        }

-- ---- one turn of the pass

module _ {t numbers : List ℕ} {users : List (List ℕ)} {at k : ℕ} (i : Scanned t numbers users at k) (h : k < lines_in numbers)
    (line : Line) (j : JudgedIs t at k numbers users (Ok line)) where
  -- a name fits its row
  name-short : number_lines ≤ k → length (entry_in (row_at k) (drop at t)).name ≤ longest_name
  unfolding good_at new_name
  name-short l =
      let x = entry_in (row_at k) (drop at t) in
      let seat = is_none (seat_of_user (k - number_lines) users x.name) in
      let g : T (pick (leb number_lines k) (user_id x.name && seat) true) =
      T-and-right (good_number (take k numbers) x.number) _ (T-and-right (begins (line_of (row_at k) x) (drop at t)) _ j.0) in
      user_id-short x.name (T-and-left (user_id x.name) seat (rw (le-leb number_lines k l) at g))

  row-long : number_lines ≤ k → length (get_or users (k - number_lines) []) ≡ longest_name
  unfolding number_lines table most_seats row_of padded
  row-long l =
      let r = scanned-room i in
      ap₂ (λ (us : List (List ℕ)) (m : ℕ). length (get_or us (m - number_lines) [])) i.users_are (sym i.count)
      ∙ ap length (next_row i.before (let c = i.count in omega arith))

  -- so that it is put whole
  name-fits : number_lines ≤ k → length (take (line.end - line.name) (drop line.name t)) ≤ length (get_or users (k - number_lines) [])
  unfolding number_lines table
  name-fits l = let m : length (take (line.end - line.name) (drop line.name t)) ≡ length (entry_in (row_at k) (drop at t)).name = ap length j.3.octets in omega (arith, name-short l, row-long l)

  -- what the pass holds behind it
  turned : (users' : List (List ℕ)) → users' ≡ users_of (i.before ++ (entry_in (row_at k) (drop at t) ∷ []))
      → Scanned t (set numbers k line.number) users' (line.end + 1) (k + 1)
  turned users' u =
      subst (λ (x : ℕ). Scanned t (set numbers k x) users' (line.end + 1) (k + 1)) (sym j.1) (scanned-more i h j.0 users' (line.end + 1) u j.4)

  -- behind a line with a number alone
  pub scanned-alone : k < number_lines → Scanned t (set numbers k line.number) users (line.end + 1) (k + 1)
  scanned-alone l = turned users (users-same i h l)

  -- behind that of a seat
  pub scanned-seat : (s : ℕ) → k ≡ number_lines + s
      → Scanned t (set numbers k line.number) (set users s (put_at (get_or users s []) 0 (take (line.end - line.name) (drop line.name t)))) (line.end + 1) (k + 1)
  scanned-seat s e =
      let name = take (line.end - line.name) (drop line.name t) in
      let row = get_or users (k - number_lines) [] in
      let seat : number_lines ≤ k = omega arith in
      let m : k - number_lines ≡ s = omega arith in
      rw m at
      (turned (set users (k - number_lines) (put_at row 0 name))
      (ap (λ (x : List ℕ). set users (k - number_lines) x) (sym (over-put_at name row (name-fits seat)))
      ∙ ap (λ (x : List ℕ). set users (k - number_lines) (over x row)) j.3.octets
      ∙ users-next i h seat))

-- ---- what the pass gives

drop-numbers : (ns : List ℕ) → number_lines ≤ length ns → drop number_lines (padded room 0 ns) ≡ padded most_seats 0 (drop number_lines ns)
unfolding padded
drop-numbers ns h =
    let l : room - length ns ≡ most_seats - length (drop number_lines ns) = let d = length-drop number_lines ns in omega arith in
    drop-append-le number_lines ns (replicate (room - length ns) 0) h ∙ ap (λ (n : ℕ). drop number_lines ns ++ replicate n 0) l

-- zeros behind the numbers leave the sheet as it is
sheet_from-padded : (ns : List ℕ) → number_lines ≤ length ns → sheet_from (padded room 0 ns) ≡ sheet_from ns
unfolding sheet_from padded
sheet_from-padded ns h =
    let l : length (ns ++ replicate (room - length ns) 0) ≡ length ns + (room - length ns) = simp (length-append, length-replicate) in
    let d : length (drop number_lines (padded room 0 ns)) ≡ length (padded room 0 ns) - number_lines = length-drop number_lines (padded room 0 ns) in
    ap₂ sheet_by (fun_ext (get_or-padded room 0 ns)) (padded-full most_seats 0 (drop number_lines (padded room 0 ns)) (omega arith) ∙ drop-numbers ns h)

module _ {t numbers : List ℕ} {users : List (List ℕ)} {at k : ℕ} (i : Scanned t numbers users at k) where
  -- at a bad line the reading is that refusal
  pub scanned-refused : k < lines_in numbers → (r : Refusal) → JudgedIs t at k numbers users (Err r) → Err r ≡ read_of t
  unfolding read_of reading_of
  scanned-refused h r j = rw (scanned-bad i h j.0, j.1)

  -- behind the last line the reading is the numbers laid out
  pub scanned-reading : lines_in numbers ≤ k → Ok (record { sheet = sheet_from numbers; used = at }) ≡ read_of t
  unfolding read_of reading_of sheet_of
  scanned-reading h =
      let ns = numbers_in i.before in
      let l : sheet_from numbers ≡ sheet_from ns = ap sheet_from i.numbers_are ∙ sheet_from-padded ns (let m = length-numbers_in i.before in omega (arith, scanned-lines i, i.count)) in
      (λ j. Ok (record { sheet = l j; used = i.place j })) ∙ sym (ap reading_of (scanned-all i h))

  -- and the User IDs are those that were put
  pub scanned-users : lines_in numbers ≤ k → users ≡ users_in t
  unfolding users_in users_from
  scanned-users h = i.users_are ∙ sym (ap users_from (scanned-all i h))

-- the User IDs of a sheet that reads stand where others were
pub users-read : (t : List ℕ) (users : List (List ℕ)) (x : Reading) → Ok x ≡ read_of t → users_over t users ≡ users_in t
unfolding users_over
users-read t users x e = rw (← e)

-- beside a refusal the others do
pub users-refused : (t : List ℕ) (users : List (List ℕ)) (r : Refusal) → Err r ≡ read_of t → users_over t users ≡ users
unfolding users_over
users-refused t users r e = rw (← e)

-- so rows of zeros hold the User IDs of any text that was read over them
pub users-over-none : (t : List ℕ) → users_over t (users_of []) ≡ users_in t
unfolding users_over read_of users_in reading_of users_from
users-over-none t = by-outcome (outcome t)
  where
    by-outcome : (o : Outcome) → pick (is_ok (reading_of o)) (users_from o) (users_of []) ≡ users_from o
    by-outcome (reads _) = refl
    by-outcome (refused _) = refl

-- eight rows of zeros
pub no_users : replicate 8 (replicate 60 0) ≡ users_of []
unfolding users_of padded number_lines table most_seats row_of
no_users = refl
