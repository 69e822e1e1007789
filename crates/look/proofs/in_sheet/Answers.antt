-- `look::in_sheet` meets its contract: a piece that leaves room is held, and one that fills it up decides the sheet, its rest behind what is
-- held. Assumes nothing.
use mathlib.Core.Path.{◌≡◌, sym, ap, ◌∙◌}
use mathlib.Core.Logic.{inl}
use mathlib.Core.List.{◌++◌}
use Prim.Native.Nat.{◌+◌, ◌-◌, ◌≤◌}
use borrow.Author.Rules.{rules}
use native.Mathlib.Omega.{arith}
use lib.ListN.{length, take, length-append, length-drop}
use lib.Seq.{length-take-le, take_all}
use Rattle.octets.proofs.Buffer.{put_at-nil}
use Rattle.lines.specs.Pieces.{held_in}
use Rattle.lines.proofs.Laws.Held.{held_back, held-most}
use Rattle.lines.proofs.Laws.Pieces.{behind_all}
use Rattle.look.specs.Steps.{look_as}
use Rattle.look.proofs.Laws.Steps.{step_held, step_decides, full_rest}
use Rattle.look.proofs.in_sheet.Goals as goal
use Rattle.look.proofs.in_sheet.Goals.{Start, Else-piece-room}

-- no more is held than decides a sheet
within : (c : Start) → length (held_in c.args.held) ≤ 1024
within c = held-most c.args.held (search rules)

pub overflow_sub-room : goal.overflow_sub-room
overflow_sub-room c = rw c.as_slice.ensures (within (goal.at.overflow_sub-room c).Start)

pub returns-then-piece-room : goal.returns-then-piece-room
unfolding look_as
returns-then-piece-room c =
    let a = c.args in
    let t = held_in a.held in
    let less = rw c.as_slice.ensures at c.if-piece-room.true in
    let all : take 1024 (t ++ a.piece.now) ≡ t ++ a.piece.now = take_all 1024 (t ++ a.piece.now) (rw length-append (omega arith)) in
    rw (step_held t a.piece.now (omega arith))
    (record { done = rw (c.with-more.ensures, all); put = sym (put_at-nil _ _) })

-- what is held then is full
full : (c : Else-piece-room)
    → length (held_in c.args.held) ≤ 1024
    → let text = take 1024 (held_in c.args.held ++ c.args.piece.now) in
    (held_in c.with-more.result ≡ text) × (length text ≡ 1024)
full c h =
    let all = held_in c.args.held ++ c.args.piece.now in
    let more = rw c.as_slice.ensures at c.if-piece-room.false in
    let l : length (take 1024 all) ≡ 1024 = length-take-le 1024 all (rw length-append (omega arith)) in
    (ap held_in c.with-more.ensures ∙ held_back (take 1024 all) (omega arith), l)

pub decide-requires : goal.decide-requires
decide-requires c =
    let at-end = goal.at.decide-requires c in
    let piece = c.args.piece.now in
    let room = 1024 - length c.as_slice.result.now in
    let f = full at-end.Else-piece-room (within at-end.Start) in
    let l : length c.as_slice-2.result.now ≡ 1024 = ap length (c.as_slice-2.ensures ∙ f.0) ∙ f.1 in
    (omega arith, inl l, rw (behind_all piece room, length-drop) (omega arith))

pub returns : goal.returns
returns c =
    let at-end = goal.at.returns c in
    let h = within at-end.Start in
    let t = held_in c.args.held in
    let piece = c.args.piece.now in
    let room = 1024 - length t in
    let more = rw c.as_slice.ensures at c.if-piece-room.false in
    rw (step_decides t piece (omega arith), ← full_rest t piece room (omega arith))
    (rw (c.as_slice-2.ensures, (full at-end.Else-piece-room h).0, c.as_slice.ensures, behind_all piece room) at c.decide.ensures)
