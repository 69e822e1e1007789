-- How much of a text decides: each good line has at most the octets that the table allows for it, so that a front with room for
-- all the lines that may follow reads as the whole text does. Assumes nothing.
use mathlib.Core.Path.{◌≡◌, sym, ap, ◌∙◌, subst}
use mathlib.Core.Logic.{⊎_elim}
use mathlib.Core.Bool.{Bool, true, false, ◌&&◌}
use mathlib.Core.List.{List, [], ◌∷◌, ◌++◌, append_assoc}
use Prim.Native.Nat.{ℕ, zero, suc, ◌+◌, ◌-◌, ◌≤◌, ◌<◌, zero-le}
use native.Mathlib.Nat.{le_refl, zero-add}
use native.Mathlib.Omega.{arith}
use lib.ListN.{length, take, drop, replicate, take-append-drop, length-append}
use lib.Seq.{take-append-add}
use lib.Dec.{T}
use Rattle.octets.specs.Choice.{pick, same}
use Rattle.octets.specs.Text.{decimal}
use Rattle.octets.proofs.Choice.{T_true, T_false, false-T, decide, T-and-left}
use Rattle.octets.proofs.Text.{length-decimal-mono}
use Rattle.sheet.specs.Table.{table, number_lines, most_seats, row_at}
use Rattle.sheet.specs.Judge.{Entry, numbers_in, longest_name, user_id, good_name, good, in_turn, whole}
use Rattle.sheet.proofs.Laws.Entries.{in_turn-snoc, length-numbers_in, length-names_in, numbers_in-append, Open, open_more, not-whole, good-number, good-name, user_id-short, good-numbers}
use Rattle.sheet.proofs.Laws.Fresh.{number_bound, seats_bound}
use Rattle.sheet_line.specs.Line.{lf, comma, tail_of, line_of}
use Rattle.sheet_text.specs.Text.{widest, longest}
use Rattle.sheet_text.specs.Reading.{Outcome, good_line, behind, read_by, outcome, reading_of, users_from, read_of, users_in}
use Rattle.sheet_text.specs.Claims.{LongestDecides}
use Rattle.sheet_line.proofs.Laws.LineAt.{line_pos}
use Rattle.sheet_text.proofs.Laws.Readings.{entry_at, good_line-good, good_line-split, good_line-line, read_by-whole, read_by-bad, read_by-good, length-behind, length-snoc, read-line}

-- ---- the room for the lines that may follow

-- what follows a number, with a good name, has at most the octets that it has with the longest
tail-by : (b : Bool) (name : List ℕ) (q : Bool) → T (pick b (user_id name && q) (same name []))
    → length (pick b (comma ∷ name ++ (lf ∷ [])) (lf ∷ [])) ≤ length (pick b (comma ∷ replicate longest_name 0x21 ++ (lf ∷ [])) (lf ∷ []))
tail-by true name q t =
    let l : length name ≤ longest_name = user_id-short name (T-and-left (user_id name) q t) in
    simp length-append (omega arith)
tail-by false name q t = le_refl _

-- a good entry's line has at most the octets that the table allows for it
line-widest : (b : List Entry) (e : Entry) → T (good b e) → length (line_of (row_at (length b)) e) ≤ widest (row_at (length b))
unfolding line_of widest tail_of good_name
line-widest b e g =
    let r = row_at (length b) in
    let d : length (decimal e.number) ≤ length (decimal r.greatest) =
    length-decimal-mono e.number r.greatest (rw (length-numbers_in b) at (number_bound (numbers_in b) e.number (good-number b e g))) in
    let n : length (tail_of r e.name) ≤ length (tail_of r (replicate longest_name 0x21)) =
    tail-by r.named e.name _ (rw (length-names_in b) at (good-name b e g)) in
    simp length-append (omega arith)

-- the most octets of j lines from line k on
room : ℕ → ℕ → ℕ
room k zero = 0
room k (suc j) = widest (row_at k) + room (suc k) j

-- those of the longest sheet
room-longest : room 0 (number_lines + most_seats) ≡ longest
unfolding room longest table row_at number_lines most_seats
room-longest = omega arith

-- as many lines as a sheet can have are a whole one
most-whole : (b : List Entry) → T (in_turn good [] b) → Open (numbers_in b) → length b ≡ number_lines + most_seats → whole (numbers_in b) ≡ false → ⊥
most-whole b t o l w =
    not-whole (numbers_in b) w (omega (arith, seats_bound (numbers_in b) (good-numbers [] b t), length-numbers_in b))

-- ---- reading with as many lines allowed for as there are octets

-- Two readings behind the same entries agree if they do so at a good line, and the one has a good line only where the other has: at
-- the end of a sheet and at a bad line they do.
readings_agree : (f g : ℕ) (b : List Entry) (s u : List ℕ) → (T (good_line b s) → T (good_line b u))
    → (whole (numbers_in b) ≡ false → T (good_line b u) → read_by f b s ≡ read_by g b u) → read_by f b s ≡ read_by g b u
readings_agree f g b s u k h =
    ⊎_elim
    (λ w. let e = T_true (whole (numbers_in b)) w in read_by-whole f b s e ∙ sym (read_by-whole g b u e))
    (λ w. ⊎_elim
    (λ t. h w t)
    (λ e. read_by-bad f b s w (T_false (good_line b s) (λ t. false-T (good_line b u) e (k t))) ∙ sym (read_by-bad g b u w e))
    (decide (good_line b u)))
    (decide (whole (numbers_in b)))

-- so many lines are enough
read_by-enough : (f g : ℕ) (b : List Entry) (s : List ℕ) → length s ≤ f → length s ≤ g → read_by f b s ≡ read_by g b s
read_by-enough zero g b s h l = readings_agree zero g b s s (λ t. t) (λ w t. absurd (omega (arith, length-behind b s t)))
read_by-enough (suc f) zero b s h l = readings_agree (suc f) zero b s s (λ t. t) (λ w t. absurd (omega (arith, length-behind b s t)))
read_by-enough (suc f) (suc g) b s h l =
    readings_agree (suc f) (suc g) b s s (λ t. t)
    (λ w t.
    let e : good_line b s ≡ true = T_true (good_line b s) t in
    let c : length (behind b s) < length s = length-behind b s t in
    read_by-good f b s w e
    ∙ read_by-enough f g (b ++ (entry_at b s ∷ [])) (behind b s) (omega arith) (omega arith)
    ∙ sym (read_by-good g b s w e))

-- the reading that allows for so many
abbrev reading : List Entry → List ℕ → Outcome
reading b s = read_by (length s) b s

-- a good entry's line takes it on
reading_line : (b : List Entry) (e : Entry) (v : List ℕ) → T (good b e) → whole (numbers_in b) ≡ false
    → reading b (line_of (row_at (length b)) e ++ v) ≡ reading (b ++ (e ∷ [])) v
reading_line b e v t w =
    let line = line_of (row_at (length b)) e in
    let f : ℕ = length line - 1 + length v in
    let l : length (line ++ v) ≡ suc f = omega (arith, length-append line v, line_pos (row_at (length b)) e) in
    ap (λ (n : ℕ). read_by n b (line ++ v)) l ∙ read-line f b e v t w ∙ read_by-enough f (length v) (b ++ (e ∷ [])) v (omega arith) (le_refl _)

-- ---- a front with room for the lines that may follow

-- a line that is good in a front is good in the whole
good-whole : (b : List Entry) (s : List ℕ) (m : ℕ) → T (good_line b (take m s)) → T (good_line b s)
good-whole b s m g =
    let e = entry_at b (take m s) in
    let line = line_of (row_at (length b)) e in
    let u = behind b (take m s) in
    let p : line ++ (u ++ drop m s) ≡ s =
    sym (append_assoc line u (drop m s)) ∙ ap (λ (x : List ℕ). x ++ drop m s) (sym (good_line-split b (take m s) g)) ∙ take-append-drop m s in
    rw p at (good_line-line b e (u ++ drop m s) (good_line-good b (take m s) g))

-- behind b, a front with room for the j lines that may follow reads as the whole does
abbrev Decided : ℕ → List Entry → Type 0
Decided j b = (s : List ℕ) (m : ℕ) → room (length b) j ≤ m → reading b (take m s) ≡ reading b s

-- so it does at a good entry's line, if it does behind it
decided-line : (j : ℕ) (b : List Entry) (e : Entry) → T (good b e) → whole (numbers_in b) ≡ false → Decided j (b ++ (e ∷ []))
    → (v : List ℕ) (m : ℕ) → room (length b) (suc j) ≤ m
    → reading b (take m (line_of (row_at (length b)) e ++ v)) ≡ reading b (line_of (row_at (length b)) e ++ v)
unfolding room
decided-line j b e t w d v m r =
    let line = line_of (row_at (length b)) e in
    let k : ℕ = m - length line in
    let c : length line ≤ widest (row_at (length b)) = line-widest b e t in
    let i : m ≡ length line + k = omega arith in
    let q : take m (line ++ v) ≡ line ++ take k v = ap (λ (n : ℕ). take n (line ++ v)) i ∙ take-append-add line v k in
    ap (reading b) q ∙ reading_line b e (take k v) t w ∙ d v k (rw (length-snoc b e) (omega arith)) ∙ sym (reading_line b e v t w)

-- so it does behind good entries
decided : (j : ℕ) (b : List Entry) → T (in_turn good [] b) → Open (numbers_in b) → length b + j ≡ number_lines + most_seats → Decided j b
decided zero b t o c s m r =
    readings_agree (length (take m s)) (length s) b (take m s) s (good-whole b s m) (λ w x. absurd (most-whole b t o (omega arith) w))
decided (suc j) b t o c s m r =
    readings_agree (length (take m s)) (length s) b (take m s) s (good-whole b s m)
    (λ w x.
    let e = entry_at b s in
    let g : T (good b e) = good_line-good b s x in
    let d : Decided j (b ++ (e ∷ [])) =
    decided j (b ++ (e ∷ [])) (in_turn-snoc good b e t g)
    (subst Open (sym (numbers_in-append b (e ∷ []))) (open_more (numbers_in b) e.number o w))
    (rw (length-snoc b e) (omega arith)) in
    subst (λ (y : List ℕ). reading b (take m y) ≡ reading b y) (sym (good_line-split b s x)) (decided-line j b e g w d (behind b s) m r))

-- ---- as many octets as the longest sheet has decide

-- a front of so many reads as the whole does
outcome-take : (t : List ℕ) (n : ℕ) → longest ≤ n → outcome (take n t) ≡ outcome t
unfolding outcome in_turn
outcome-take t n h = decided (number_lines + most_seats) [] tt zero-le (zero-add (number_lines + most_seats)) t n (rw room-longest h)

-- so the value and the User IDs are the same
pub longest_decides : LongestDecides
unfolding read_of users_in
longest_decides t n h = (ap reading_of (outcome-take t n h), ap users_from (outcome-take t n h))
