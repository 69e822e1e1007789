-- Laws of the input piece by piece: two pieces one after the other print what both together do. Assumes nothing.
use mathlib.Core.Path.{◌≡◌, refl, sym, ap, ap₂, ◌∙◌}
use mathlib.Core.Logic.{◌⊎◌, ⊎_elim}
use Prim.Native.Nat.{ℕ, ◌+◌, ◌≤◌, ◌<◌}
use native.Mathlib.Omega.{arith}
use native.Mathlib.Bridge.{le_by_compare, IsLe}
use mathlib.Core.List.{List, [], ◌∷◌, ◌++◌, map, flatten, append_assoc, append-nil}
use lib.ListN.{length, drop, length-append}
use lib.Seq.{take_all, take-append-le, drop-append-le}
use lib.Dec.{ltb, ltb→lt}
use borrow.Author.Tests.{lt-ltb, le-ltb}
use Rattle.std.specs.Prelude.{Result, Ok, Err}
use Rattle.octets.specs.Text.{decimal, decimal_by}
use Rattle.octets.proofs.Choice.{le-or-lt, pick-cases}
use Rattle.sheet.specs.declared.Refusal.{Refusal}
use Rattle.sheet.specs.Refusal.{refusal_line}
use Rattle.sheet.specs.Value.{sheet_of}
use Rattle.sheet.specs.Table.{table, seat_row, most_seats}
use Rattle.sheet_line.specs.Line.{tail_of}
use Rattle.sheet_text.specs.Text.{widest, longest, text_of}
use Rattle.sheet_text.specs.declared.Reading.{Reading}
use Rattle.sheet_text.specs.Reading as sheet-reading
use Rattle.sheet_text.proofs.Laws.Readings.{outcome-reads}
use Rattle.sheet_text.proofs.Laws.Decides.{longest_decides}
use Rattle.kinds.specs.declared.Numbers.{Numbers}
use Rattle.kinds.specs.Kind.{numbers_of}
use Rattle.hex_line.specs.Line.{most_digits}
use Rattle.shown.specs.Line.{sheet_line}
use Rattle.lines.specs.Lines.{lines_of}
use Rattle.lines.specs.Pieces.{most_held, kept_of, ended_from, left_from, lines_text}
use Rattle.lines.proofs.Laws.Kept.{kept-short, lines-append, kept_append, lines-whole}
use Rattle.lines.proofs.Laws.Held.{held_back}
use Rattle.look.specs.declared.Look.{Look}
use Rattle.look.specs.Look.{look_by, look_of}
use Rattle.look.specs.Claims.{HeldDecides}
use Rattle.look.specs.Steps.{State, in_sheet, in_lines, refused_sheet, Went, fed, decided_by, decided, step_of, last_text, end_of, state_of, look_as}
use Rattle.look.proofs.Laws.Line.{line_of-read}

-- two pieces
pub fed-append : (n : Numbers) (line s t : List ℕ)
    → ((fed n line (s ++ t)).text ≡ (fed n line s).text ++ (fed n (kept_of (left_from line s)) t).text)
    × ((fed n line (s ++ t)).to ≡ (fed n (kept_of (left_from line s)) t).to)
unfolding fed
fed-append n line s t = (lines-append n line s t, ap (in_lines n) (kept_append line s t))

-- ---- the sheet

-- no sheet is longer than what is held
pub held_decides : HeldDecides
unfolding longest widest table seat_row most_seats tail_of decimal decimal_by IsLe
held_decides = le_by_compare longest 1024 tt

-- as much as is held decides the sheet, whatever is behind it
read_more : (t rest : List ℕ) → most_held ≤ length t → sheet-reading.read_of (t ++ rest) ≡ sheet-reading.read_of t
read_more t rest h =
    sym (longest_decides (t ++ rest) most_held held_decides).0
    ∙ ap sheet-reading.read_of (take-append-le most_held t rest h)
    ∙ (longest_decides t most_held held_decides).0

-- as much as is held decides the sheet, and so does all there is
pub read_held : (t rest : List ℕ) → (length t ≡ most_held) ⊎ (rest ≡ []) → sheet-reading.read_of (t ++ rest) ≡ sheet-reading.read_of t
read_held t rest h =
    ⊎_elim
    (λ e. read_more t rest (omega arith))
    (λ e. ap sheet-reading.read_of (ap (λ (x : List ℕ). t ++ x) e ∙ append-nil t))
    h

module _ (t : List ℕ) (r : Reading) where
  -- the text of the entries that were read is the front of it
  outcome-within : (o : sheet-reading.Outcome) → sheet-reading.outcome t ≡ o → sheet-reading.reading_of o ≡ Ok r → r.used ≤ length t
  unfolding sheet-reading.reading_of
  outcome-within (sheet-reading.reads es) p e =
      let u = (outcome-reads t es p).1 in
      let is : r ≡ record { sheet = sheet_of es; used = length (text_of es) } = cc in
      rw is (omega (arith, ap length u.1, length-append (text_of es) u.0))
  outcome-within (sheet-reading.refused k) p e = cc

  -- a sheet's text lies within
  pub used-within : sheet-reading.read_of t ≡ Ok r → r.used ≤ length t
  unfolding sheet-reading.read_of
  used-within e = outcome-within (sheet-reading.outcome t) refl e

-- ---- states that the value holds

-- no more is held than the value holds, of a sheet less than decides it, and of a line what is kept
unfoldable pub Kept : State → Type 0
Kept (in_sheet t) = length t < most_held
Kept (in_lines n line) = length line ≤ most_digits + 1
Kept refused_sheet = Unit {0}

-- it comes back
pub kept_back : (st : State) → Kept st → state_of (look_as st) ≡ st
unfolding Kept state_of look_as
kept_back (in_sheet t) k = ap in_sheet (held_back t (omega arith))
kept_back (in_lines n line) k = ap (in_lines n) (held_back line (omega arith))
kept_back refused_sheet k = refl

-- a piece's lines lead to one
fed-kept : (n : Numbers) (line piece : List ℕ) → Kept (fed n line piece).to
unfolding Kept fed
fed-kept n line piece = (kept-short (left_from line piece)).1

-- a sheet that is decided does
decided_by-kept : (t : List ℕ) (r : Result Reading Refusal) → Kept (decided_by t r).to
unfolding decided_by Kept
decided_by-kept t (Ok r) = fed-kept (numbers_of r.sheet) [] (drop r.used t)
decided_by-kept t (Err refusal) = tt

pub decided-kept : (t : List ℕ) → Kept (decided t).to
unfolding decided
decided-kept t = decided_by-kept t (sheet-reading.read_of t)

-- and so does any step
step_kept : (st : State) (piece : List ℕ) → Kept st → Kept (step_of st piece).to
unfolding step_of Kept
step_kept (in_sheet t) piece k =
    pick-cases (λ (w : Went). Kept w.to) (ltb (length t + length piece) most_held)
    (record { to = in_sheet (t ++ piece); text = [] })
    (decided (t ++ piece))
    (λ b. rw length-append (ltb→lt (length t + length piece) most_held b))
    (λ e. decided-kept (t ++ piece))
step_kept (in_lines n line) piece k = fed-kept n line piece
step_kept refused_sheet piece k = tt

-- ---- two steps are one

-- an empty piece prints nothing and leaves the state as it is
step-none : (st : State) → Kept st → ((step_of st []).text ≡ []) × ((step_of st []).to ≡ st)
unfolding step_of Kept fed lines_text ended_from left_from flatten kept_of
step-none (in_sheet t) k =
    rw (lt-ltb (length t + 0) most_held (omega arith)) (refl, ap in_sheet (append-nil t))
step-none (in_lines n line) k = (refl, ap (in_lines n) (take_all (most_digits + 1) line k))
step-none refused_sheet k = (refl, refl)

-- what a step after it makes of a text and a state
abbrev Then : Went → List ℕ → Went → Type 0
Then w piece both = (both.text ≡ w.text ++ (step_of w.to piece).text) × (both.to ≡ (step_of w.to piece).to)

-- a sheet that is not decided yet
sheet-open : (u s : List ℕ) → length u + length s < most_held → step_of (in_sheet u) s ≡ record { to = in_sheet (u ++ s); text = [] }
unfolding step_of
sheet-open u s h = rw (lt-ltb (length u + length s) most_held h)

-- one that is
sheet-decided : (u s : List ℕ) → most_held ≤ length u + length s → step_of (in_sheet u) s ≡ decided (u ++ s)
unfolding step_of
sheet-decided u s h = rw (le-ltb (length u + length s) most_held h)

-- what is held and what is not yet are one text
sheet-further : (u s t : List ℕ) → step_of (in_sheet u) (s ++ t) ≡ step_of (in_sheet (u ++ s)) t
unfolding step_of
sheet-further u s t =
    let n : length u + length (s ++ t) ≡ length (u ++ s) + length t = omega (arith, length-append s t, length-append u s) in
    rw (n, append_assoc u s t)

-- a sheet that is decided stays so
decided_by-append : (t piece : List ℕ) (r : Result Reading Refusal) → sheet-reading.read_of t ≡ r → Then (decided_by t r) piece (decided_by (t ++ piece) r)
unfolding decided_by step_of fed
decided_by-append t piece (Ok r) e =
    rw (drop-append-le r.used t piece (used-within t r e)) (fed-append (numbers_of r.sheet) [] (drop r.used t) piece)
decided_by-append t piece (Err refusal) e = (sym (append-nil (sheet_line (refusal_line refusal))), refl)

decided-append : (t piece : List ℕ) → most_held ≤ length t → Then (decided t) piece (decided (t ++ piece))
unfolding decided
decided-append t piece h = rw (read_more t piece h) (decided_by-append t piece (sheet-reading.read_of t) refl)

-- two pieces, the first behind the front of a sheet
sheet-append : (u s t : List ℕ) → Then (step_of (in_sheet u) s) t (step_of (in_sheet u) (s ++ t))
sheet-append u s t =
    ⊎_elim
    (λ h.
    let l : most_held ≤ length (u ++ s) = omega (arith, length-append u s) in
    let m : most_held ≤ length (u ++ s) + length t = omega arith in
    rw (sheet-further u s t, sheet-decided (u ++ s) t m, sheet-decided u s h) (decided-append (u ++ s) t l))
    (λ h. rw (sheet-further u s t, sheet-open u s h) (refl, refl))
    (le-or-lt most_held (length u + length s))

-- two pieces in any state
step-append : (st : State) (s t : List ℕ) → Then (step_of st s) t (step_of st (s ++ t))
unfolding step_of fed
step-append (in_sheet u) s t = sheet-append u s t
step-append (in_lines n line) s t = fed-append n line s t
step-append refused_sheet s t = (refl, refl)

-- what is printed from a value kept on: a piece after another, and then the end
unfoldable pub printed_from : Look → List (List ℕ) → List ℕ
printed_from look [] = end_of (state_of look)
printed_from look (piece ∷ pieces) =
    let w = step_of (state_of look) piece in w.text ++ printed_from (look_as w.to) pieces

-- any pieces are one
printed_step : (pieces : List (List ℕ)) (st : State) → Kept st
    → printed_from (look_as st) pieces ≡ (step_of st (flatten pieces)).text ++ end_of (step_of st (flatten pieces)).to
unfolding printed_from flatten
printed_step [] st k = rw (kept_back st k, (step-none st k).0, (step-none st k).1)
printed_step (p ∷ ps) st k =
    let w = step_of st p in
    let v = step_of w.to (flatten ps) in
    let both = step-append st p (flatten ps) in
    rw (kept_back st k)
    (ap (λ (x : List ℕ). w.text ++ x) (printed_step ps w.to (step_kept st p k))
    ∙ sym (append_assoc w.text v.text (end_of v.to))
    ∙ sym (ap₂ (λ (x : List ℕ) (y : State). x ++ end_of y) both.0 both.1))

-- ---- all of it at once

-- a sheet that is decided and the last line are what is said of the whole
decided_by-whole : (t : List ℕ) (r : Result Reading Refusal) → sheet-reading.read_of t ≡ r
    → (decided_by t r).text ++ last_text (decided_by t r).to ≡ look_by t r
unfolding decided_by look_by fed last_text
decided_by-whole t (Ok r) e =
    let u = drop r.used t in
    lines-whole (numbers_of r.sheet) u
    ∙ ap (λ (f : List ℕ → List ℕ). flatten (map f (lines_of u))) (λ i line. sym (line_of-read t r e line) i)
decided_by-whole t (Err refusal) e = append-nil (sheet_line (refusal_line refusal))

decided-whole : (t : List ℕ) → (decided t).text ++ last_text (decided t).to ≡ look_of t
unfolding decided look_of
decided-whole t = decided_by-whole t (sheet-reading.read_of t) refl

-- what is decided is not decided anew at the end
decided_by-end : (t : List ℕ) (r : Result Reading Refusal) → end_of (decided_by t r).to ≡ last_text (decided_by t r).to
unfolding decided_by fed end_of last_text
decided_by-end t (Ok r) = refl
decided_by-end t (Err refusal) = refl

decided-end : (t : List ℕ) → end_of (decided t).to ≡ last_text (decided t).to
unfolding decided
decided-end t = decided_by-end t (sheet-reading.read_of t)

-- the whole in one piece
one_piece : (t : List ℕ) → (step_of (in_sheet []) t).text ++ end_of (step_of (in_sheet []) t).to ≡ look_of t
unfolding end_of
one_piece t =
    ⊎_elim
    (λ h. rw (sheet-decided [] t (omega arith)) (ap (λ (x : List ℕ). (decided t).text ++ x) (decided-end t) ∙ decided-whole t))
    (λ h. rw (sheet-open [] t (omega arith)) (decided-whole t))
    (le-or-lt most_held (length t))

-- any pieces from the start on print what is said of all of them
pub pieces_whole : (pieces : List (List ℕ)) → printed_from (look_as (in_sheet [])) pieces ≡ look_of (flatten pieces)
unfolding Kept
pieces_whole pieces = printed_step pieces (in_sheet []) (omega arith) ∙ one_piece (flatten pieces)
