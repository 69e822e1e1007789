-- `asked::reply::Reply::counts` says each number as far as it has come. Assumes nothing.
use Rattle.std.proofs.Common.{◌≡◌, take}
use Rattle.asked.specs.Reply.{said, with_more, words}
use Rattle.asked.proofs.reply.Reply.counts.Given as goal

abbrev pub invariant-loop-count : goal.invariant-loop-count
invariant-loop-count l = said l.self ≡ with_more (said l.initial.self) (words 8 (take l.count-index l.counts))
