-- `shown::line::put_sheet` meets its contract: the line fits, or nothing is put. Assumes nothing.
use mathlib.Core.Path.{sym}
use native.Mathlib.Omega.{arith}
use lib.ListN.{length, length-append}
use Rattle.octets.proofs.Buffer.{put_at-nil}
use Rattle.shown.specs.Line.{number_line, sheet_line}
use Rattle.shown.proofs.Laws.Fits.{length-sheet_line, fitting-whole, fitting-none}
use Rattle.shown.proofs.line.put_sheet.Goals as goal

pub returns-then-saturating_sub-length_of : goal.returns-then-saturating_sub-length_of
returns-then-saturating_sub-length_of c =
    let a = c.args in
    let line = sheet_line a.line in
    rw (fitting-none (length line) (length a.out.now) a.at line (omega (arith, length-sheet_line a.line))) (sym (put_at-nil _ _), omega arith)

pub put_line-requires : goal.put_line-requires
put_line-requires c = simp length-append (omega arith)

pub returns : goal.returns
returns c =
    let a = c.args in
    let line = sheet_line a.line in
    rw (fitting-whole (length line) (length a.out.now) a.at line (omega (arith, length-sheet_line a.line)))
    (unfold sheet_line number_line in c.put_line.ensures)
