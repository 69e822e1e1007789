-- `sheet_text::scan::sheet_of` meets its contract: what is left behind the lines with a number alone are eight SSRCs. Assumes nothing.
use mathlib.Core.Path.{◌≡◌, sym, ap, ◌∙◌}
use Prim.Native.Nat.{ℕ, ◌-◌}
use native.Mathlib.Omega.{arith}
use lib.ListN.{length, get_or, drop, length-drop}
use lib.Seq.{take_all}
use borrow.Author.Rules.{rules}
use Rattle.octets.proofs.Buffer.{padded-full}
use Rattle.sheet.specs.Table.{table, number_lines, most_seats}
use Rattle.sheet.specs.Value.{sheet_by, sheet_from}
use Rattle.sheet_text.proofs.scan.sheet_of.Goals as goal

pub returns : goal.returns
unfolding sheet_by sheet_from number_lines table most_seats
returns c =
    let n = c.args.numbers.now in
    let l : length n ≡ 19 = search rules in
    let d : length (drop 11 n) ≡ length n - 11 = length-drop 11 n in
    ap (sheet_by (λ (k : ℕ). get_or n k 0))
    (c.copy_from_slice.ensures.after ∙ take_all 8 (drop 11 n) (omega arith) ∙ sym (padded-full 8 0 (drop 11 n) (omega arith)))
