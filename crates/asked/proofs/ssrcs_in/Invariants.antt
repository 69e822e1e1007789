-- `asked::ssrcs_in` gives each SSRC as far as it has come. Assumes nothing.
use Rattle.std.proofs.Common.{◌≡◌, ℕ, ◌+◌, ◌*◌, ◌<◌, get_or, length}
use Rattle.octets.specs.Big.{big_at}
use Rattle.asked.proofs.ssrcs_in.Given as goal

abbrev pub invariant-loop-k : goal.invariant-loop-k
invariant-loop-k l =
    (length l.ssrcs ≡ 8)
    × ((k : ℕ) → k < l.k → get_or l.ssrcs k 0 ≡ big_at 4 l.body (44 + 4 * k))
