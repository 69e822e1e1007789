-- `lines::held::with` meets its contract: what is held and what comes behind it are put into a row of zeros, one after the other.
-- Assumes nothing.
use mathlib.Core.Path.{ap, ◌∙◌}
use native.Mathlib.Omega.{arith}
use Prim.Native.Nat.{ℕ, min}
use mathlib.Core.List.{List}
use lib.ListN.{take}
use Rattle.octets.specs.Buffer.{put_at}
use Rattle.lines.proofs.Laws.Held.{held_with}
use Rattle.lines.proofs.held.with.Goals as goal

pub returns : goal.returns
returns c =
    let a = c.args in
    let n = rw c.as_slice-old.ensures at c.min-n.ensures in
    held_with a.held a.more.now (min a.most 1024) c.min-n.result c.min-m.result c.put_octets-2.new.s (omega arith) (n ∙ rw c.min-all.ensures) (omega arith)
    (c.put_octets-2.ensures ∙ ap (λ (s : List ℕ). put_at s c.min-n.result (take c.min-m.result a.more.now)) (rw c.as_slice-old.ensures at c.put_octets.ensures))
