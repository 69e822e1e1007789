-- `asked::reply::Reply::numbers` meets its contract. Assumes nothing.
use Rattle.std.proofs.Common.{◌≡◌, ◌∙◌, length, refl, arith}
use Rattle.std.proofs.lemmas.List.{length-take-le}
use Rattle.octets.proofs.Big.{big_of-four}
use Rattle.asked.specs.Reply.{said}
use Rattle.asked.proofs.Made.{words_start, words_more, words_end}
use Rattle.asked.proofs.reply.Reply.numbers.Goals as goal

pub loop-n-init : goal.loop-n-init
loop-n-init c =
    let reply = c.args.self.now in
    words_start 4 (said reply) c.args.numbers.now (omega (arith, length-take-le reply.len reply.octets (omega arith)))

pub loop-n-preserved : goal.loop-n-preserved
loop-n-preserved c =
    let l = c.loop-n in
    c.octets.ensures
    ∙ words_more 4 (said l.self) (said c.args.self.now) c.args.numbers.now c.to_be_bytes.result l.n-index _ l.invariant c.loop-n-test.true refl
    (c.to_be_bytes.ensures ∙ big_of-four _)

pub returns : goal.returns
returns c =
    let l = c.loop-n in
    let all : l.n-index ≡ length c.args.numbers.now = omega arith in
    (rw all at l.invariant) ∙ words_end 4 (said c.args.self.now) c.args.numbers.now
