-- `asked::ssrcs_in` meets its contract. Assumes nothing.
use Rattle.std.proofs.Common.{◌+◌, ◌*◌, arith}
use Rattle.std.proofs.lemmas.List.FromFn.{fill_by_all}
use Rattle.octets.specs.Big.{big_at}
use Rattle.asked.proofs.ssrcs_in.Goals as goal

pub returns : goal.returns
returns c = let i = c.loop-k.invariant in fill_by_all (λ k. big_at 4 c.args.body.now (44 + 4 * k)) _ 8 0 i.0 (λ k lt. i.1 k (omega arith))
