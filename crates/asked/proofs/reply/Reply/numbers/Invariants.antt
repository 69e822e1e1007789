-- `asked::reply::Reply::numbers` says each number as far as it has come. Assumes nothing.
use Rattle.std.proofs.Common.{◌≡◌, take}
use Rattle.asked.specs.Reply.{said, with_more, words}
use Rattle.asked.proofs.reply.Reply.numbers.Given as goal

abbrev pub invariant-loop-n : goal.invariant-loop-n
invariant-loop-n l = said l.self ≡ with_more (said l.initial.self) (words 4 (take l.n-index l.numbers))
