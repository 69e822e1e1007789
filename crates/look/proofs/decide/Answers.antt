-- `look::decide` meets its contract: the sheet read from the text that is held is that of all that came, and what stands behind it in that text
-- and the rest of the piece are two pieces. Assumes nothing.
use mathlib.Core.Path.{◌≡◌, sym, ap, ◌∙◌}
use mathlib.Core.List.{[]}
use Prim.Native.Nat.{ℕ, ◌+◌, ◌-◌, ◌*◌, ◌≤◌}
use native.Mathlib.Omega.{arith}
use lib.ListN.{length, drop, length-drop}
use Rattle.std.specs.Prelude.{Ok, Err}
use Rattle.octets.proofs.Buffer.{length-put_at}
use Rattle.sheet.specs.Refusal.{refusal_line}
use Rattle.sheet_text.specs.Reading.{read_of}
use Rattle.sheet_text.proofs.Laws.Readings.{read_at}
use Rattle.kinds.specs.Kind.{numbers_of}
use Rattle.shown.specs.Line.{sheet_line}
use Rattle.shown.specs.Promises.{Put}
use Rattle.shown.proofs.Laws.Fits.{fitting-whole}
use Rattle.lines.specs.Pieces.{held_of, kept_of, left_from, lines_text}
use Rattle.lines.proofs.Laws.Held.{held_none}
use Rattle.lines.proofs.Laws.Pieces.{behind_all, lines-put}
use Rattle.look.specs.declared.Look.TheVariants.{Refused}
use Rattle.look.specs.Steps.{look_as}
use Rattle.look.proofs.Laws.Pieces.{used-within}
use Rattle.look.proofs.Laws.Steps.{decided-refused, decided-read, second_fits, went-both}
use Rattle.look.proofs.Laws.Room.{sheet_line-length}
use Rattle.look.proofs.decide.Goals as goal
use Rattle.look.proofs.decide.Goals.{After-put_lines-kept, In-Ok}

-- the sheet that is read
read : (c : In-Ok) → read_of c.args.text.now ≡ Ok c.in-Ok.read
read c = sym c.read.ensures ∙ c.in-Ok.is

pub slice_bounds-put_lines-count : goal.slice_bounds-put_lines-count
slice_bounds-put_lines-count c = used-within c.args.text.now c.in-Ok.read (read (goal.at.slice_bounds-put_lines-count c).In-Ok)

pub slice_bounds-put_lines-start : goal.slice_bounds-put_lines-start
slice_bounds-put_lines-start c = used-within c.args.text.now c.in-Ok.read (read (goal.at.slice_bounds-put_lines-start c).In-Ok)

-- the lines behind the sheet are printed, and the last of them is held
module _ (c : After-put_lines-kept) where
  enough : 0 + 10 * (0 + length (drop c.in-Ok.read.used c.args.text.now) + length c.args.rest.now) ≤ length c.args.out.now
  enough = omega (arith, length-drop c.in-Ok.read.used c.args.text.now, c.requires.0, c.requires.2)

  lines : let s = drop c.in-Ok.read.used c.args.text.now in
      Put (lines_text (numbers_of c.in-Ok.read.sheet) [] s) c.args.out.now 0 c.put_lines-kept.result.end c.put_lines-kept.new.out
      × (c.put_lines-kept.result.held ≡ held_of (kept_of (left_from [] s)))
  lines =
      let s = drop c.in-Ok.read.used c.args.text.now in
      let put = rw (c.numbers_of-numbers.ensures, behind_all c.args.text.now c.in-Ok.read.used) at c.put_lines-kept.ensures in
      let empty = held_none c.none.result c.none.ensures in
      rw empty at
      (lines-put (numbers_of c.in-Ok.read.sheet) c.none.result s c.args.out.now 0 (rw empty (omega (arith, enough)))
      c.put_lines-kept.result c.put_lines-kept.new.out put)

pub in_lines-requires : goal.in_lines-requires
in_lines-requires c =
    let kept = (goal.at.in_lines-requires c).After-put_lines-kept in
    let a = c.args in
    let s = drop c.in-Ok.read.used a.text.now in
    let put = lines kept in
    let l : length c.put_lines-kept.new.out ≡ length a.out.now = ap length put.0.0 ∙ length-put_at _ _ _ in
    rw l
    (second_fits (numbers_of c.in-Ok.read.sheet) [] s a.rest.now a.out.now 0 (enough kept) c.put_lines-kept.result.end put.0.1 c.put_lines-kept.result.held put.1)

pub returns-in-Ok : goal.returns-in-Ok
returns-in-Ok c =
    let at-end = goal.at.returns-in-Ok c in
    let kept = at-end.After-put_lines-kept in
    let a = c.args in
    let r = c.in-Ok.read in
    let put = lines kept in
    rw (decided-read a.text.now a.rest.now c.requires.1 r (read at-end.In-Ok))
    (went-both (numbers_of r.sheet) [] (drop r.used a.text.now) a.rest.now a.out.now 0 (enough kept)
    c.put_lines-kept.result.end put.0.1 c.put_lines-kept.result.held put.1
    c.put_lines-kept.new.out c.in_lines.result c.in_lines.new.out
    put.0.0 (rw c.numbers_of-numbers.ensures at c.in_lines.ensures))

pub returns-in-Err : goal.returns-in-Err
unfolding look_as
returns-in-Err c =
    let a = c.args in
    let refusal = c.in-Err.refusal in
    let e : read_of a.text.now ≡ Err refusal = sym c.read.ensures ∙ c.in-Err.is in
    let line = sheet_line (refusal_line refusal) in
    let fits : length line ≤ length a.out.now - 0 =
    omega (arith, sheet_line-length (refusal_line refusal), read_at a.text.now refusal e, c.requires.0, c.requires.2) in
    let put = rw (c.line.ensures, fitting-whole (length line) (length a.out.now) 0 line fits) at c.put_sheet.ensures in
    rw (decided-refused a.text.now a.rest.now c.requires.1 refusal e) (record { done = ap (λ (end : ℕ). record { look = Refused; written = end }) put.1; put = put.0 })
