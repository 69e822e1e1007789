-- `look::step` meets its contract: where there is room, what is printed is put into the front.
-- Assumes nothing.
use mathlib.Core.Path.{◌≡◌, refl, sym, ◌∙◌}
use mathlib.Core.Bool.{true}
use Prim.Native.Nat.{ℕ, ◌≤◌}
use mathlib.Core.List.{List}
use borrow.Author.Rules.{rules}
use borrow.Author.Tests.{leb-true}
use native.Mathlib.Nat.{le_trans}
use native.Mathlib.Numerals.{unary_clauses}
use native.Mathlib.Omega.{arith}
use lib.ListN.{length}
use lib.Dec.{leb}
use Rattle.std.specs.Prelude.{Ok}
use Rattle.octets.proofs.Buffer.{put_at-nil}
use Rattle.lines.specs.Pieces.{held_in}
use Rattle.lines.proofs.Laws.Held.{held-most}
use Rattle.look.specs.Steps.{state_of, look_as, step_of, room_asked}
use Rattle.look.specs.declared.Stepped.{Stepped}
use Rattle.look.specs.Inner.{WentTo}
use Rattle.look.specs.Promises.{step≡}
use Rattle.look.proofs.Laws.Room.{sheet-fits, lines-step-fits, step-none, step-done}
use Rattle.look.proofs.step.Goals as goal
use Rattle.look.proofs.step.Goals.{Else-not-has_room}

pub returns-then-not-has_room : goal.returns-then-not-has_room
returns-then-not-has_room c =
    let a = c.args in
    step-none a.look a.piece.now a.out.now (sym (simp unary_clauses at c.has_room.ensures) ∙ c.if-not-has_room.true)

-- there is room
room : (c : Else-not-has_room)
    → let a = c.args in leb (room_asked (length a.piece.now)) (length a.out.now) ≡ true
room c = sym (simp unary_clauses at c.has_room.ensures) ∙ c.if-not-has_room.false

enough : (c : Else-not-has_room) → room_asked (length c.args.piece.now) ≤ length c.args.out.now
enough c = leb-true (room_asked (length c.args.piece.now)) (length c.args.out.now) (room c)

-- what is printed fits, so that it is what is promised
done : (c : Else-not-has_room)
    → let a = c.args in
    let w = step_of (state_of a.look) a.piece.now in
    (r : Stepped) (now : List ℕ) → WentTo w a.out.now 0 r now → length w.text ≤ room_asked (length a.piece.now)
    → step≡ a.look a.piece.now a.out.now (Ok r) now
done c r now w fits =
    let a = c.args in
    step-done a.look a.piece.now a.out.now (room c) r now w (le_trans fits (enough c))

pub in_sheet-requires : goal.in_sheet-requires
in_sheet-requires c = enough (goal.at.in_sheet-requires c).Else-not-has_room

pub in_lines-requires : goal.in_lines-requires
in_lines-requires c =
    omega (arith, held-most c.in-Lines.held (search rules), enough (goal.at.in_lines-requires c).Else-not-has_room)

pub returns-in-Sheet : goal.returns-in-Sheet
unfolding state_of
returns-in-Sheet c =
    let a = c.args in
    done (goal.at.returns-in-Sheet c).Else-not-has_room c.in_sheet.result c.in_sheet.new.out (rw c.in-Sheet.is c.in_sheet.ensures)
    (rw c.in-Sheet.is (sheet-fits (held_in c.in-Sheet.held) a.piece.now (held-most c.in-Sheet.held (search rules))))

pub returns-in-Lines : goal.returns-in-Lines
unfolding state_of step_of
returns-in-Lines c =
    let a = c.args in
    done (goal.at.returns-in-Lines c).Else-not-has_room c.in_lines.result c.in_lines.new.out (rw c.in-Lines.is c.in_lines.ensures)
    (rw c.in-Lines.is (lines-step-fits c.in-Lines.numbers (held_in c.in-Lines.held) a.piece.now (held-most c.in-Lines.held (search rules))))

pub returns-in-Refused : goal.returns-in-Refused
unfolding state_of step_of look_as
returns-in-Refused c =
    done (goal.at.returns-in-Refused c).Else-not-has_room _ _ (rw c.in-Refused.is (record { done = refl; put = sym (put_at-nil _ _) })) (rw c.in-Refused.is (omega arith))
