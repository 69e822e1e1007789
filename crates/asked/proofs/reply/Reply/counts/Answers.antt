-- `asked::reply::Reply::counts` meets its contract. Assumes nothing.
use Rattle.std.proofs.Common.{◌≡◌, ◌∙◌, length, refl, arith}
use Rattle.std.proofs.lemmas.List.{length-take-le}
use Rattle.asked.proofs.Made.{big_of-eight}
use Rattle.asked.specs.Reply.{said}
use Rattle.asked.proofs.Made.{words_start, words_more, words_end}
use Rattle.asked.proofs.reply.Reply.counts.Goals as goal

pub loop-count-init : goal.loop-count-init
loop-count-init c =
    let reply = c.args.self.now in
    words_start 8 (said reply) c.args.counts.now (omega (arith, length-take-le reply.len reply.octets (omega arith)))

pub loop-count-preserved : goal.loop-count-preserved
loop-count-preserved c =
    let l = c.loop-count in
    c.octets.ensures
    ∙ words_more 8 (said l.self) (said c.args.self.now) c.args.counts.now c.to_be_bytes.result l.count-index _ l.invariant c.loop-count-test.true refl
    (c.to_be_bytes.ensures ∙ big_of-eight _)

pub returns : goal.returns
returns c =
    let l = c.loop-count in
    let all : l.count-index ≡ length c.args.counts.now = omega arith in
    (rw all at l.invariant) ∙ words_end 8 (said c.args.self.now) c.args.counts.now
