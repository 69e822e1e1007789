-- `shown::line::put` meets its contract: there is not the room that is asked for, or it is enough (`line_fits`). Assumes nothing.
use mathlib.Core.Path.{◌≡◌, sym}
use Prim.Native.Nat.{◌+◌, ◌-◌, ◌≤◌}
use native.Mathlib.Omega.{arith}
use lib.ListN.{length}
use Rattle.octets.proofs.Buffer.{put_at-nil}
use Rattle.shown.specs.Line.{line_by, line_room, fitting}
use Rattle.shown.proofs.Laws.Packets.{line_by-none, line_by-some}
use Rattle.shown.proofs.Laws.Fits.{line_fits, fitting-whole, fitting-none}
use Rattle.shown.proofs.line.put.Goals as goal
use Rattle.shown.proofs.line.put.Goals.{Else-saturating_sub-line}

pub returns-then-saturating_sub-line : goal.returns-then-saturating_sub-line
returns-then-saturating_sub-line c =
    let a = c.args in
    rw (fitting-none (line_room a.line.now) (length a.out.now) a.at (line_by a.numbers a.line.now) (omega arith)) (sym (put_at-nil _ _), omega arith)

-- the line is put, and has room
module _ (c : Else-saturating_sub-line) where
  whole : fitting (line_room c.args.line.now) (length c.args.out.now) c.args.at (line_by c.args.numbers c.args.line.now) ≡ line_by c.args.numbers c.args.line.now
  whole = fitting-whole (line_room c.args.line.now) (length c.args.out.now) c.args.at (line_by c.args.numbers c.args.line.now) (omega arith)

  room : c.args.at + length (line_by c.args.numbers c.args.line.now) ≤ length c.args.out.now
  room = omega (arith, (line_fits c.args.numbers c.args.line.now).1)

pub put_refused-requires : goal.put_refused-requires
put_refused-requires c =
    let a = c.args in
    rw (c.number.ensures, ← line_by-none a.numbers a.line.now (rw c.in_default.is at c.packet_in.ensures))
    (room (goal.at.put_refused-requires c).Else-saturating_sub-line)

pub returns-in_default : goal.returns-in_default
returns-in_default c =
    let a = c.args in
    rw (whole (goal.at.returns-in_default c).Else-saturating_sub-line, line_by-none a.numbers a.line.now (rw c.in_default.is at c.packet_in.ensures), ← c.number.ensures)
    c.put_refused.ensures

pub put-requires : goal.put-requires
put-requires c =
    let a = c.args in
    let line = line_by-some a.numbers a.line.now c.in-Some.packet (rw c.in-Some.is at c.packet_in.ensures) _ c.as_slice-octets.ensures in
    rw (c.read_by.ensures, ← line) (room (goal.at.put-requires c).Else-saturating_sub-line)

pub returns : goal.returns
returns c =
    let a = c.args in
    let line = line_by-some a.numbers a.line.now c.in-Some.packet (rw c.in-Some.is at c.packet_in.ensures) _ c.as_slice-octets.ensures in
    rw (whole (goal.at.returns c).Else-saturating_sub-line, line, ← c.read_by.ensures) c.put.ensures
