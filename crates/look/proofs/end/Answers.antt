-- `look::end` meets its contract: a sheet that was not decided is now, and then the last line is printed. Assumes nothing.
use mathlib.Core.Path.{◌≡◌, refl, sym, ap, ◌∙◌}
use mathlib.Core.Logic.{inr}
use mathlib.Core.List.{append-nil}
use Prim.Native.Nat.{◌≤◌}
use borrow.Author.Rules.{rules}
use native.Mathlib.Omega.{arith}
use lib.ListN.{length}
use Rattle.octets.proofs.Buffer.{length-put_at, put_at-nil}
use Rattle.shown.specs.Line.{line_room}
use Rattle.shown.specs.Promises.{Put}
use Rattle.shown.proofs.Laws.Fits.{fitting-whole}
use Rattle.lines.specs.Pieces.{held_in, last_line}
use Rattle.lines.proofs.Laws.Held.{held-most}
use Rattle.lines.proofs.Laws.Fits.{last_fits}
use Rattle.look.specs.Steps.{state_of, last_text, decided, end_of}
use Rattle.look.specs.Inner.{WentTo}
use Rattle.look.proofs.Laws.Room.{end_none, end-done, decided-leaves, decided-end}
use Rattle.look.proofs.end.Goals as goal
use Rattle.look.proofs.end.Goals.{After-decide-went, In-Sheet}

pub returns-then-out-lt-ROOM : goal.returns-then-out-lt-ROOM
returns-then-out-lt-ROOM c = end_none c.args.look c.args.out.now c.if-out-lt-ROOM.true

-- no more is held than decides a sheet
within : (c : In-Sheet) → length (held_in c.in-Sheet.held) ≤ 1024
within c = held-most c.in-Sheet.held (search rules)

pub decide-went-requires : goal.decide-went-requires
decide-went-requires c = (rw c.as_slice.ensures (within (goal.at.decide-went-requires c).In-Sheet), inr refl, omega arith)

-- the sheet is decided
went : (c : After-decide-went) → WentTo (decided (held_in c.in-Sheet.held)) c.args.out.now 0 c.decide-went.result c.decide-went.new.out
went c = rw (append-nil, c.as_slice.ensures) at c.decide-went.ensures

pub put_end-requires : goal.put_end-requires
put_end-requires c =
    let at-end = goal.at.put_end-requires c in
    let w = went at-end.After-decide-went in
    let l : length c.decide-went.new.out ≡ length c.args.out.now = ap length w.put ∙ length-put_at _ _ _ in
    rw l (decided-leaves (held_in c.in-Sheet.held) (within at-end.In-Sheet) c.args.out.now (omega arith) _ _ w)

pub returns-in-Sheet : goal.returns-in-Sheet
unfolding state_of
returns-in-Sheet c =
    let at-end = goal.at.returns-in-Sheet c in
    let a = c.args in
    let both =
    decided-end (held_in c.in-Sheet.held) (within at-end.In-Sheet) a.out.now (omega arith) _ _ (went at-end.After-decide-went) c.put_end.result c.put_end.new.out
    c.put_end.ensures in
    end-done a.look a.out.now (omega arith) c.put_end.result c.put_end.new.out (rw c.in-Sheet.is both.0) (rw c.in-Sheet.is both.1)

pub returns-in-Lines : goal.returns-in-Lines
unfolding state_of end_of last_text
returns-in-Lines c =
    let a = c.args in
    let line = held_in c.in-Lines.held in
    let most = held-most c.in-Lines.held (search rules) in
    let put : Put (last_line c.in-Lines.numbers line) a.out.now 0 c.put_last.result c.put_last.new.out =
    rw (fitting-whole (line_room line) (length a.out.now) 0 (last_line c.in-Lines.numbers line) (omega arith)) at c.put_last.ensures in
    end-done a.look a.out.now (omega arith) c.put_last.result c.put_last.new.out (rw c.in-Lines.is put)
    (rw c.in-Lines.is (omega (arith, last_fits c.in-Lines.numbers line)))

pub returns-in-Refused : goal.returns-in-Refused
unfolding state_of end_of
returns-in-Refused c =
    let a = c.args in
    end-done a.look a.out.now (omega arith) 0 a.out.now (rw c.in-Refused.is (sym (put_at-nil _ _), refl)) (rw c.in-Refused.is (omega arith))
