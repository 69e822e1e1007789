-- `asked::reply::Reply::octets` meets its contract. Assumes nothing.
use Rattle.std.proofs.Common.{◌≡◌, ◌∙◌, length, arith}
use Rattle.std.proofs.lemmas.Slice.{take-put_mid}
use Rattle.asked.proofs.Made.{with-room}
use Rattle.asked.proofs.reply.Reply.octets.Goals as goal

pub returns : goal.returns
returns c =
    let reply = c.args.self.now in
    let more = c.args.octets.now in
    let row : length reply.octets ≡ 1020 = omega arith in
    take-put_mid reply.len _ reply.octets c.copy_from_slice.new.self _ (omega arith) (omega arith)
    ∙ rw c.copy_from_slice.ensures.after (with-room reply.octets more reply.len c.min-fit.result row (omega arith) c.min-fit.ensures)
