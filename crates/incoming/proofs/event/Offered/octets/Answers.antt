-- `incoming::event::Offered::octets` meets its contract: a name that is right ends in the packet. Assumes nothing.
use Rattle.incoming.proofs.Laws.Heard.{name-ends}
use Rattle.incoming.proofs.event.Offered.octets.Goals as goal

pub slice_bounds-result-end : goal.slice_bounds-result-end
slice_bounds-result-end c = name-ends _ c.args.name c.requires
