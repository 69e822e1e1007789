-- `lines::held::Held::as_slice` meets its contract: what is held is no more than the octets there are. Assumes nothing.
use mathlib.Core.Path.{◌≡◌}
use borrow.Author.Rules.{rules}
use lib.ListN.{length}
use Rattle.lines.proofs.Laws.Held.{held-length, held_all}
use Rattle.lines.proofs.held.Held.as_slice.Goals as goal

pub returns : goal.returns
returns c =
    let held = c.args.self.now in
    let l : length held.octets ≡ 1024 = search rules in
    held_all held c.min.result (rw (held-length held l) c.min.ensures)
