-- `lines::put_lines` meets its contract: the first line is what is held and the piece up to its LF, and the others lie behind that;
-- where there is no LF, the line goes on. Assumes nothing.
use mathlib.Core.Path.{◌≡◌, sym, ap, ◌∙◌}
use Prim.Native.Nat.{◌+◌, ◌-◌, ◌*◌, ◌≤◌}
use borrow.Author.Rules.{rules}
use borrow.Author.Tests.{leb-true, leb-false}
use native.Mathlib.Omega.{arith}
use mathlib.Core.List.{◌++◌}
use lib.ListN.{length, take}
use Rattle.octets.proofs.Buffer.{put_at-nil, length-put_at}
use Rattle.shown.specs.Line.{line_by}
use Rattle.shown.specs.Promises.{Put}
use Rattle.lines.specs.Pieces.{held_in, kept_of, lines_room}
use Rattle.lines.proofs.Laws.Held.{held-most, held_none, kept_put}
use Rattle.lines.proofs.Laws.Pieces.{First, found, not_found, behind_all, lines_none, left-all, left_behind, first-room, first_fits, first-put, lines-puts, without-room}
use Rattle.lines.proofs.put_lines.Goals as goal
use Rattle.lines.proofs.put_lines.Goals.{After-put-end, Else-not-has_room, In-Some}

pub overflow_add-as_slice : goal.overflow_add-as_slice
overflow_add-as_slice c = rw c.as_slice.ensures (omega (arith, held-most c.args.held (search rules)))

pub returns-then-not-has_room : goal.returns-then-not-has_room
returns-then-not-has_room c =
    let a = c.args in
    without-room a.numbers a.held a.piece.now a.out.now a.at
    (leb-false (lines_room (held_in a.held) a.piece.now) (length a.out.now - a.at)
    (sym (rw c.as_slice.ensures at c.has_room.ensures) ∙ c.if-not-has_room.true))

-- there is the room that is asked for
fits : (c : Else-not-has_room) → lines_room (held_in c.args.held) c.args.piece.now ≤ length c.args.out.now - c.args.at
fits c =
    let a = c.args in
    leb-true (lines_room (held_in a.held) a.piece.now) (length a.out.now - a.at)
    (sym (rw c.as_slice.ensures at c.has_room.ensures) ∙ c.if-not-has_room.false)

pub returns-in_default : goal.returns-in_default
unfolding kept_of
returns-in_default c =
    let a = c.args in
    let one = not_found a.piece.now (rw c.in_default.is at c.memchr.ensures) in
    lines-puts a.numbers a.held a.piece.now a.out.now a.at (fits (goal.at.returns-in_default c).Else-not-has_room) _ _ (
      rw (lines_none (held_in a.held) a.piece.now one a.numbers) (sym (put_at-nil _ _), omega arith),
      rw (left-all (held_in a.held) a.piece.now one) c.with.ensures,
    )

-- where the first LF stands
first : (c : In-Some) → First c.args.piece.now c.in-Some.lf
first c = found c.args.piece.now c.in-Some.lf (rw c.in-Some.is at c.memchr.ensures)

-- the first line is printed
printed : (c : After-put-end)
    → let a = c.args in
    First a.piece.now c.in-Some.lf
    → a.at + 10 * (length (held_in a.held) + length a.piece.now) ≤ length a.out.now
    → Put (line_by a.numbers (held_in a.held ++ take c.in-Some.lf a.piece.now)) a.out.now a.at c.put-end.result c.put-end.new.out
unfolding kept_of
printed c f asked =
    let a = c.args in
    let room = first-room a.numbers (held_in a.held) a.piece.now c.in-Some.lf f a.out.now a.at asked in
    kept_put a.numbers c.with-first.result _ a.out.now a.at c.put-end.result c.put-end.new.out c.with-first.ensures room (rw c.as_slice-2.ensures at c.put-end.ensures)

pub put_ended-ended-requires : goal.put_ended-ended-requires
put_ended-ended-requires c =
    let at-end = goal.at.put_ended-ended-requires c in
    let a = c.args in
    let f = first at-end.In-Some in
    let asked : a.at + 10 * (length (held_in a.held) + length a.piece.now) ≤ length a.out.now = omega (arith, fits at-end.Else-not-has_room) in
    let put = printed at-end.After-put-end f asked in
    let l : length c.put-end.new.out ≡ length a.out.now = ap length put.0 ∙ length-put_at _ _ _ in
    rw (behind_all a.piece.now (c.in-Some.lf + 1), l)
    (omega (arith, put.1, first_fits a.numbers (held_in a.held) a.piece.now c.in-Some.lf f a.out.now a.at asked))

pub returns : goal.returns
unfolding kept_of
returns c =
    let at-end = goal.at.returns c in
    let a = c.args in
    let xs = held_in a.held in
    let piece = a.piece.now in
    let f = first at-end.In-Some in
    let asked : a.at + 10 * (length xs + length piece) ≤ length a.out.now = omega (arith, fits at-end.Else-not-has_room) in
    let others = rw (behind_all piece (c.in-Some.lf + 1)) at c.put_ended-ended.ensures in
    let texts =
    first-put a.numbers xs piece c.in-Some.lf f a.out.now a.at asked c.put-end.new.out c.put-end.result c.put_ended-ended.new.out c.put_ended-ended.result.end
    (printed at-end.After-put-end f asked) others.0 in
    lines-puts a.numbers a.held piece a.out.now a.at (fits at-end.Else-not-has_room) _ _ (
      texts,
      rw (left_behind xs piece c.in-Some.lf f, ← others.1) (c.with-2.ensures ∙ rw (held_none c.none.result c.none.ensures)),
    )
