-- Laws of the steps: the sheet that is decided, and what a piece prints. Assumes nothing.
use mathlib.Core.Path.{◌≡◌, refl, sym, ap, ◌∙◌}
use mathlib.Core.Logic.{◌⊎◌}
use mathlib.Core.Bool.{false}
use Prim.Native.Nat.{ℕ, ◌+◌, ◌*◌, ◌≤◌, ◌<◌}
use native.Mathlib.Omega.{arith}
use mathlib.Core.List.{List, [], ◌++◌}
use lib.ListN.{length, take, drop, take-append-drop}
use lib.Seq.{drop-append-le, drop-append-add}
use borrow.Author.Tests.{lt-ltb, le-ltb}
use Rattle.std.specs.Prelude.{Ok, Err}
use Rattle.octets.specs.Buffer.{put_at}
use Rattle.octets.proofs.Buffer.{put_both}
use Rattle.sheet.specs.declared.Refusal.{Refusal}
use Rattle.sheet.specs.Refusal.{refusal_line}
use Rattle.sheet_text.specs.declared.Reading.{Reading}
use Rattle.sheet_text.specs.Reading.{read_of}
use Rattle.kinds.specs.Kind.{numbers_of}
use Rattle.kinds.specs.declared.Numbers.{Numbers}
use Rattle.shown.specs.Line.{sheet_line}
use Rattle.lines.specs.declared.held.Held.{Held}
use Rattle.lines.specs.Pieces.{held_in, held_of, kept_of, most_held, left_from, lines_text}
use Rattle.lines.proofs.Laws.Kept.{kept-short}
use Rattle.lines.proofs.Laws.Fits.{lines_fit}
use Rattle.lines.proofs.Laws.Held.{kept_held}
use Rattle.look.specs.declared.Look.{Look}
use Rattle.look.specs.declared.Look.TheVariants.{Sheet, Lines, Refused}
use Rattle.look.specs.declared.Stepped.{Stepped}
use Rattle.look.specs.Steps.{in_sheet, refused_sheet, is_refused, state_of, fed, decided_by, decided, step_of, last_text}
use Rattle.look.specs.Inner.{WentTo}
use Rattle.look.proofs.Laws.Pieces.{read_held, used-within, fed-append}

-- ---- what is kept

-- but for lines there is no last line
pub last-none : (look : Look) → ((n : Numbers) (held : Held) → look ≡ Lines n held → ⊥) → last_text (state_of look) ≡ []
unfolding last_text state_of
last-none (Sheet held) f = refl
last-none (Lines n held) f = absurd (f n held refl)
last-none Refused f = refl

-- of the states only one is that of a refused sheet
pub not_refused : (look : Look) → (look ≡ Refused → ⊥) → is_refused (state_of look) ≡ false
unfolding is_refused state_of
not_refused (Sheet held) f = refl
not_refused (Lines n held) f = refl
not_refused Refused f = absurd (f refl)

-- ---- the sheet is decided

module _ (t rest : List ℕ) (h : (length t ≡ most_held) ⊎ (rest ≡ [])) where
  -- a refused sheet
  pub decided-refused : (refusal : Refusal) → read_of t ≡ Err refusal
      → decided (t ++ rest) ≡ record { to = refused_sheet; text = sheet_line (refusal_line refusal) }
  unfolding decided decided_by
  decided-refused refusal e = rw (read_held t rest h, e)

  -- a sheet that is read, and lines behind it
  pub decided-read : (r : Reading) → read_of t ≡ Ok r → decided (t ++ rest) ≡ fed (numbers_of r.sheet) [] (drop r.used t ++ rest)
  unfolding decided decided_by
  decided-read r e = rw (read_held t rest h, e, drop-append-le r.used t rest (used-within t r e))

-- ---- two pieces one after the other

-- the text is that of the lines
fed-text : (n : Numbers) (line s : List ℕ) → (fed n line s).text ≡ lines_text n line s
unfolding fed lines_text
fed-text n line s = refl

module _ (n : Numbers) (line s rest out : List ℕ) (at : ℕ) (room : at + 10 * (length line + length s + length rest) ≤ length out)
    (next : ℕ) (i : next ≡ at + length (lines_text n line s)) (h : Held) (e : h ≡ held_of (kept_of (left_from line s))) where
  -- what is held is what is kept of the first
  kept-is : held_in h ≡ kept_of (left_from line s)
  kept-is = ap held_in e ∙ kept_held (left_from line s)

  -- there is room for the second
  pub second_fits : next + 10 * (length (held_in h) + length rest) ≤ length out
  second_fits = rw kept-is (omega (arith, lines_fit n line s, kept-short (left_from line s)))

  -- both print what they do as one
  pub went-both : (mid : List ℕ) (r : Stepped) (now : List ℕ) → mid ≡ put_at out at (lines_text n line s)
      → WentTo (fed n (held_in h) rest) mid next r now → WentTo (fed n line (s ++ rest)) out at r now
  went-both mid r now m w =
      let k = kept_of (left_from line s) in
      let v : WentTo (fed n k rest) mid next r now = rw kept-is at w in
      let both = fed-append n line s rest in
      let fits : next + length (fed n k rest).text ≤ length out =
      rw fed-text (omega (arith, lines_fit n k rest, rw kept-is at second_fits)) in
      let text : (fed n line (s ++ rest)).text ≡ lines_text n line s ++ (fed n k rest).text = both.0 ∙ rw (fed-text n line s) in
      let put = put_both out at (lines_text n line s) (fed n k rest).text mid next now (next + length (fed n k rest).text) m i v.put refl fits in
      record { done = v.done ∙ rw (text, both.1, put.1); put = rw text put.0 }

-- ---- a piece of the sheet

-- a piece that leaves room is held behind the others
pub step_held : (t piece : List ℕ) → length t + length piece < most_held → step_of (in_sheet t) piece ≡ record { to = in_sheet (t ++ piece); text = [] }
unfolding step_of
step_held t piece h = rw (lt-ltb (length t + length piece) most_held h)

-- one that fills it up decides the sheet
pub step_decides : (t piece : List ℕ) → most_held ≤ length t + length piece → step_of (in_sheet t) piece ≡ decided (t ++ piece)
unfolding step_of
step_decides t piece h = rw (le-ltb (length t + length piece) most_held h)

-- what is held then and the rest of the piece are all that came
pub full_rest : (t piece : List ℕ) (room : ℕ) → length t + room ≡ most_held → take most_held (t ++ piece) ++ drop room piece ≡ t ++ piece
full_rest t piece room e =
    let d : drop most_held (t ++ piece) ≡ drop room piece = ap (λ (k : ℕ). drop k (t ++ piece)) (sym e) ∙ drop-append-add t piece room in
    ap (take most_held (t ++ piece) ++◌) (sym d) ∙ take-append-drop most_held (t ++ piece)
