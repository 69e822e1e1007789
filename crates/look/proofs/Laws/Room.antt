-- Laws of the room that a step and the end take: a refusal's line and the lines behind a sheet fit into what is asked for. Assumes nothing.
use mathlib.Core.Path.{◌≡◌, refl, ap, ◌∙◌}
use mathlib.Core.Logic.{⊎_elim}
use Prim.Native.Nat.{ℕ, ◌+◌, ◌*◌, ◌≤◌, ◌<◌}
use native.Mathlib.Nat.{zero-add}
use native.Mathlib.Omega.{arith}
use mathlib.Core.Bool.{true, false}
use mathlib.Core.List.{List, [], ◌++◌}
use lib.ListN.{length, drop, length-append, length-drop}
use lib.Dec.{leb}
use borrow.Author.Tests.{le-leb, lt-leb}
use Rattle.std.specs.Prelude.{Result, Ok, Err}
use Rattle.octets.proofs.Choice.{le-or-lt}
use Rattle.octets.proofs.Buffer.{over-put_at, put_both}
use Rattle.octets.proofs.Text.{length-decimal}
use Rattle.sheet.specs.declared.Refusal.{Refusal}
use Rattle.sheet.specs.declared.Refusal.TheVariants.{NoRoom}
use Rattle.sheet.specs.Refusal.{refusal_line}
use Rattle.sheet_text.specs.declared.Reading.{Reading}
use Rattle.sheet_text.specs.Reading.{read_of}
use Rattle.sheet_text.proofs.Laws.Readings.{read_at}
use Rattle.kinds.specs.declared.Numbers.{Numbers}
use Rattle.kinds.specs.Kind.{numbers_of}
use Rattle.shown.specs.Line.{sheet_line}
use Rattle.shown.specs.Promises.{Put}
use Rattle.shown.proofs.Laws.Fits.{length-sheet_line}
use Rattle.lines.specs.Pieces.{most_held, left_from, lines_text}
use Rattle.lines.proofs.Laws.Kept.{kept-short}
use Rattle.lines.proofs.Laws.Fits.{lines_fit, last_fits}
use Rattle.look.specs.declared.Look.{Look}
use Rattle.look.specs.declared.Stepped.{Stepped}
use Rattle.look.specs.Steps.{State, in_sheet, in_lines, refused_sheet, state_of, fed, decided_by, decided, step_of, room_asked, has_room, stepped_of, after_step, last_text, end_of}
use Rattle.look.specs.Promises.{step≡, end≡}
use Rattle.look.specs.Inner.{WentTo, last_room}
use Rattle.look.proofs.Laws.Pieces.{kept_back, decided-kept}
use Rattle.look.proofs.Laws.Steps.{step_held, step_decides}

-- ---- a refusal's line

-- it is no longer than the line that it names, and some
pub sheet_line-length : (n : ℕ) → length (sheet_line n) ≤ n + 8
sheet_line-length n = omega (arith, length-sheet_line n, length-decimal n)

-- ---- what a piece prints, and the room that is asked for what is left behind it

-- lines
pub fed-room : (n : Numbers) (line s : List ℕ) → length (fed n line s).text + last_room (fed n line s).to ≤ 10 * (length line + length s + 1)
unfolding fed lines_text
fed-room n line s = omega (arith, lines_fit n line s, kept-short (left_from line s))

-- a sheet that is decided
decided_by-room : (t : List ℕ) (r : Result Reading Refusal) (m : ℕ) → read_of t ≡ r → length t ≤ m → most_held ≤ m
    → length (decided_by t r).text + last_room (decided_by t r).to ≤ 10 * (m + 1)
unfolding decided_by
decided_by-room t (Ok r) m e h l = omega (arith, fed-room (numbers_of r.sheet) [] (drop r.used t), length-drop r.used t)
decided_by-room t (Err refusal) m e h l = omega (arith, sheet_line-length (refusal_line refusal), read_at t refusal e)

pub decided-room : (t : List ℕ) (m : ℕ) → length t ≤ m → most_held ≤ m → length (decided t).text + last_room (decided t).to ≤ 10 * (m + 1)
unfolding decided
decided-room t m h l = decided_by-room t (read_of t) m refl h l

-- a piece of the sheet
pub sheet-fits : (t piece : List ℕ) → length t ≤ most_held → length (step_of (in_sheet t) piece).text ≤ room_asked (length piece)
sheet-fits t piece h =
    ⊎_elim
    (λ (l : most_held ≤ length t + length piece).
    rw (step_decides t piece l) (omega (arith, decided-room (t ++ piece) (length piece + most_held) (rw length-append (omega arith)) (omega arith))))
    (λ (l : length t + length piece < most_held). rw (step_held t piece l) (omega arith))
    (le-or-lt most_held (length t + length piece))

-- a piece behind it
pub lines-step-fits : (n : Numbers) (line piece : List ℕ) → length line ≤ most_held → length (step_of (in_lines n line) piece).text ≤ room_asked (length piece)
unfolding step_of
lines-step-fits n line piece h = omega (arith, fed-room n line piece)

-- ---- a step

module _ (look : Look) (piece out : List ℕ) where
  -- without room nothing is taken
  pub step-none : leb (room_asked (length piece)) (length out) ≡ false → step≡ look piece out (Err NoRoom) out
  unfolding stepped_of after_step has_room
  step-none e = (rw e, rw e)

  -- with room the text is put into the front
  pub step-done : leb (room_asked (length piece)) (length out) ≡ true → (r : Stepped) (now : List ℕ)
      → WentTo (step_of (state_of look) piece) out 0 r now → length (step_of (state_of look) piece).text ≤ length out → step≡ look piece out (Ok r) now
  unfolding stepped_of after_step has_room
  step-done e r now w fits =
      (ap Ok w.done ∙ rw (e, zero-add), rw (e, over-put_at (step_of (state_of look) piece).text out fits) w.put)

-- ---- the end

-- the last line takes no more than the room that is asked for it
pub last-fits : (s : State) → length (last_text s) ≤ last_room s
unfolding last_text
last-fits (in_sheet t) = omega arith
last-fits (in_lines n line) = last_fits n line
last-fits refused_sheet = omega arith

module _ (look : Look) (out : List ℕ) where
  -- without room nothing is printed
  pub end_none : length out < room_asked 0 → end≡ look out (Err NoRoom) out
  end_none h = let e = lt-leb (room_asked 0) (length out) h in (rw e, rw e)

  -- with room the text is put into the front
  pub end-done : room_asked 0 ≤ length out → (end : ℕ) (now : List ℕ) → Put (end_of (state_of look)) out 0 end now → length (end_of (state_of look)) ≤ length out
      → end≡ look out (Ok end) now
  end-done h end now put fits =
      let e = le-leb (room_asked 0) (length out) h in
      (rw (e, put.1, zero-add), rw (e, over-put_at (end_of (state_of look)) out fits) put.0)

-- a sheet that is decided only now
module _ (t : List ℕ) (h : length t ≤ most_held) (out : List ℕ) (room : room_asked 0 ≤ length out) (r : Stepped) (mid : List ℕ)
    (w : WentTo (decided t) out 0 r mid) where
  -- what is kept is what was decided
  kept-is : state_of r.look ≡ (decided t).to
  kept-is = ap (λ (x : Stepped). state_of x.look) w.done ∙ kept_back (decided t).to (decided-kept t)

  -- there is room for the last line
  pub decided-leaves : r.written + last_room (state_of r.look) ≤ length out
  decided-leaves = rw (kept-is, w.done) (omega (arith, decided-room t most_held h (omega arith)))

  -- it is printed behind the others
  pub decided-end : (past : ℕ) (now : List ℕ) → Put (last_text (state_of r.look)) mid r.written past now
      → Put (end_of (in_sheet t)) out 0 past now × (length (end_of (in_sheet t)) ≤ length out)
  unfolding end_of
  decided-end past now put =
      let last = last_text (decided t).to in
      let written : r.written ≡ 0 + length (decided t).text = ap (λ (x : Stepped). x.written) w.done in
      let fits : r.written + length last ≤ length out = rw (← kept-is) (omega (arith, last-fits (state_of r.look), decided-leaves)) in
      let both = put_both out 0 (decided t).text last mid r.written now past w.put written (rw kept-is at put.0) (rw kept-is at put.1) fits in
      (both, rw length-append (omega arith))
