-- `look::put_end` meets its contract: only behind a sheet that was read is there a last line. Assumes nothing.
use mathlib.Core.Path.{sym}
use lib.ListN.{length}
use native.Mathlib.Omega.{arith}
use Rattle.octets.proofs.Buffer.{put_at-nil}
use Rattle.shown.specs.Line.{line_room}
use Rattle.shown.proofs.Laws.Fits.{fitting-whole}
use Rattle.lines.specs.Pieces.{held_in, last_line}
use Rattle.look.specs.Steps.{last_text, state_of}
use Rattle.look.proofs.Laws.Steps.{last-none}
use Rattle.look.proofs.put_end.Goals as goal

pub returns-in-Lines : goal.returns-in-Lines
unfolding last_text state_of
returns-in-Lines c =
    let a = c.args in
    let line = held_in c.in-Lines.held in
    let room = rw c.in-Lines.is at c.requires in
    rw c.in-Lines.is
    (rw (fitting-whole (line_room line) (length a.out.now) a.at (last_line c.in-Lines.numbers line) (omega arith)) at c.put_last.ensures)

pub returns-in_default : goal.returns-in_default
returns-in_default c = rw (last-none c.args.look c.in_default.not-Lines) (sym (put_at-nil _ _), omega arith)
