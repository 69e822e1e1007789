-- `look::in_lines` meets its contract: what is printed and what is kept are those of the lines. Assumes nothing.
use mathlib.Core.Path.{ap₂}
use Prim.Native.Nat.{ℕ}
use native.Mathlib.Omega.{arith}
use Rattle.kinds.specs.declared.Numbers.{Numbers}
use Rattle.lines.specs.declared.held.Held.{Held}
use Rattle.lines.proofs.Laws.Pieces.{lines-put}
use Rattle.look.specs.declared.Look.TheVariants.{Lines}
use Rattle.look.specs.declared.Stepped.{Stepped}
use Rattle.look.specs.Steps.{fed, look_as}
use Rattle.look.proofs.in_lines.Goals as goal

-- what is kept in lines, and where the text ends
abbrev stepped-in : Numbers → Held → ℕ → Stepped
stepped-in n held end = record { look = Lines n held; written = end }

pub returns : goal.returns
unfolding fed look_as
returns c =
    let put = c.put_lines-kept in
    let a = c.args in
    let e = lines-put a.numbers a.held a.piece.now a.out.now a.at (omega arith) put.result put.new.out put.ensures in
    record { done = ap₂ (stepped-in a.numbers) e.1 e.0.1; put = e.0.0 }
