-- `incoming::event::seat_of` meets its contract: a seat with an SSRC is one of the eight (`seat-below`). Assumes nothing.
use mathlib.Core.Path.{◌≡◌}
use borrow.Author.Rules.{rules}
use lib.ListN.{length}
use Rattle.incoming.proofs.Laws.Found.{found-below}
use Rattle.incoming.proofs.event.seat_of.Goals as goal

pub returns-clause-below : goal.returns-clause-below
returns-clause-below c =
    let eight : length c.args.senders.ssrcs ≡ 8 = search rules in
    found-below c.args.senders c.args.ssrc c.by_ssrc.result c.ok_or.result eight c.by_ssrc.ensures c.ok_or.ensures.value
