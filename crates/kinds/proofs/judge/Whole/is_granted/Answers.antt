-- `kinds::judge::is_granted` meets its contract. The invariant: the walk goes to the end, and the first Result stands among the fields
-- from the place on. Assumes nothing.
use mathlib.Core.Path.{◌≡◌, refl, sym, ◌∙◌}
use mathlib.Core.Bool.{◌&&◌}
use mathlib.Core.List.{List}
use Prim.Native.Nat.{ℕ, ◌+◌, ◌<◌}
use native.Mathlib.Nat.{add_assoc}
use lib.ListN.{length, get_or}
use lib.Dec.{eqb}
use borrow.Author.Tests.{eq-eqb, ne_eqb}
use Rattle.octets.specs.Big.{big_at}
use Rattle.octets.proofs.Big.{big_at-two}
use Rattle.fields.specs.Walk.{fields_of, fields_from, stop_from}
use Rattle.fields.proofs.Laws.Walk.{next-size, stop_from-right, stop_from-whole}
use Rattle.kinds.specs.Judge.{granted}
use Rattle.kinds.proofs.Laws.Judged.{granted-end, granted-first, granted-next}
use Rattle.kinds.proofs.judge.Whole.is_granted.Goals as goal

-- whether the first Result is 1, where it is the field at the place
first-told : (p : List ℕ) (at resultid : ℕ)
    → (stop_from p at ≡ length p) × (granted p resultid (fields_from p at) ≡ granted p resultid (fields_of p)) → at < length p → get_or p at 0 ≡ resultid
    → granted p resultid (fields_of p) ≡ (eqb (get_or p (at + 1) 0) 2 && eqb (big_at 2 p (at + 2)) 1)
first-told p at resultid i h e = sym i.1 ∙ granted-first p at resultid (stop_from-whole p at i.0 h) e

pub loop-at-init : goal.loop-at-init
unfolding fields_of
loop-at-init c = (c.args.self.walked.whole, refl)

pub returns-then-packet-at-eq2 : goal.returns-then-packet-at-eq2
returns-then-packet-at-eq2 c =
    rw (
      first-told c.args.self.packet.now c.loop-at.at c.args.resultid c.loop-at.invariant c.loop-at-test.true c.if-packet-at.true,
      eq-eqb _ 2 c.if-packet-at-eq2.true,
      c.u16_of.ensures,
      sym (big_at-two c.args.self.packet.now (c.loop-at.at + 2)),
      add_assoc,
    )

pub returns-else-packet-at-eq2 : goal.returns-else-packet-at-eq2
returns-else-packet-at-eq2 c =
    rw (
      first-told c.args.self.packet.now c.loop-at.at c.args.resultid c.loop-at.invariant c.loop-at-test.true c.if-packet-at.true,
      ne_eqb _ 2 c.if-packet-at-eq2.false,
    )

pub loop-at-preserved : goal.loop-at-preserved
loop-at-preserved c =
    let p = c.args.self.packet.now in
    let at = c.loop-at.at in
    let right = stop_from-whole p at c.loop-at.invariant.0 c.loop-at-test.true in
    rw (next-size p at c.size_of-at.result c.size_of-at.ensures) (
      sym (stop_from-right p at right) ∙ c.loop-at.invariant.0,
      sym (granted-next p at c.args.resultid right c.if-packet-at.false) ∙ c.loop-at.invariant.1,
    )

pub returns : goal.returns
returns c = sym (granted-end c.args.self.packet.now c.loop-at.at c.args.resultid c.loop-at-test.false) ∙ c.loop-at.invariant.1
