-- `outgoing::answer::send` meets its contract: nothing is sent, or what is said and put is the writer's. Assumes nothing.
use mathlib.Core.Path.{refl, sym}
use native.Mathlib.Omega.{arith}
use lib.Seq.{length-take-le, take_all}
use Rattle.octets.specs.Buffer.{over}
use Rattle.sheet.specs.Value.{sheet_by, sheet_from}
use Rattle.plan.proofs.Laws.Fitting.{fitting-counted}
use Rattle.writing.specs.Writing.{told, after}
use Rattle.outgoing.proofs.Laws.Answers.{sends-message, sends-nothing}
use Rattle.outgoing.proofs.answer.send.Goals as goal

pub returns-then-answer-eq0 : goal.returns-then-answer-eq0
unfolding told after over
returns-then-answer-eq0 c a is =
    let s = c.args in
    rw (sends-nothing s.answer.now a is s.name.now s.out.now (sheet_from s.numbers.now) c.if-answer-eq0.true) (refl, refl)

pub bounds-numbers-0 : goal.bounds-numbers-0
bounds-numbers-0 c = omega (arith, fitting-counted _ c.requires)

pub slice_bounds-write_by-end : goal.slice_bounds-write_by-end
slice_bounds-write_by-end c = sym (length-take-le 19 c.args.numbers.now (omega (arith, fitting-counted _ c.requires)))

pub returns : goal.returns
unfolding sheet_from sheet_by
returns c a is =
    let s = c.args in
    let ns = s.numbers.now in
    let all = take_all 19 ns (omega (arith, fitting-counted ns c.requires)) in
    rw (sends-message s.answer.now a is s.name.now s.out.now ns c.requires c.if-answer-eq0.false)
    (rw (all, c.message_of-message.ensures) at c.write_by.ensures)
