-- `kinds::judge::judge` meets its contract. The invariant is `Judging`: no field before the place is at fault, and the places are theirs.
-- Assumes nothing.
use mathlib.Core.Path.{◌≡◌, sym, ◌∙◌}
use mathlib.Core.List.{List}
use Prim.Native.Nat.{ℕ, ◌<◌}
use native.Mathlib.Omega.{arith}
use lib.ListN.{length, get_or}
use borrow.Author.Rules.{rules}
use Rattle.fields.proofs.Laws.Walk.{next-size}
use Rattle.kinds.specs.declared.kind.Slot.{Slot}
use Rattle.std.specs.Prelude.{Some}
use Rattle.kinds.specs.Inner.{open_in}
use Rattle.kinds.proofs.Laws.Judged.{Judging, judging_first, judging-right, judging-slot, judging-fills, judging-skips, judged-wrong, judged-repeat, judged-lacking, judged-right}
use Rattle.kinds.proofs.judge.Whole.judge.Goals as goal
use Rattle.kinds.proofs.judge.Whole.judge.Goals.{in-Some+else-not-fits, in-None+else-uses}

-- the slot that the field at the place fills is one of the three
slot-inside : (p : List ℕ) (slots : List Slot) → length slots ≡ 3 → (places : List ℕ) (at : ℕ) → Judging p slots places at → at < length p
    → (i : ℕ) → Some i ≡ open_in slots places (get_or p at 0) → i < 3
slot-inside p slots n places at j h i e = rw n at (judging-slot j h i (sym e))

pub loop-at-init : goal.loop-at-init
loop-at-init c =
    let n : length c.args.slots ≡ 3 = search rules in
    rw n at (judging_first c.args.self.packet.now c.args.slots c.args.self.walked)

pub offset_bounds-slots-i : goal.offset_bounds-slots-i
offset_bounds-slots-i c =
    let n : length c.args.slots ≡ 3 = search rules in
    omega (arith, slot-inside c.args.self.packet.now c.args.slots n c.loop-at.places c.loop-at.at c.loop-at.invariant c.loop-at-test.true c.in-Some.i c.in-Some.ensures)

pub bounds-slots-i : goal.bounds-slots-i
bounds-slots-i c =
    let n : length c.args.slots ≡ 3 = search rules in
    slot-inside c.args.self.packet.now c.args.slots n c.loop-at.places c.loop-at.at c.loop-at.invariant c.loop-at-test.true c.in-Some.i c.in-Some.ensures

pub fits-requires : goal.fits-requires
fits-requires c = judging-right c.loop-at.invariant c.loop-at-test.true

pub returns-then-not-fits : goal.returns-then-not-fits
returns-then-not-fits c =
    judged-wrong c.loop-at.invariant c.loop-at-test.true c.in-Some.i (sym c.in-Some.ensures) (sym c.fits.ensures ∙ c.if-not-fits.true)

pub offset_bounds-places-i : goal.offset_bounds-places-i
offset_bounds-places-i c =
    let n : length c.args.slots ≡ 3 = search rules in
    omega (arith, slot-inside c.args.self.packet.now c.args.slots n c.loop-at.places c.loop-at.at c.loop-at.invariant c.loop-at-test.true c.in-Some.i c.in-Some.ensures)

pub bounds-places-i : goal.bounds-places-i
bounds-places-i c =
    let n : length c.args.slots ≡ 3 = search rules in
    slot-inside c.args.self.packet.now c.args.slots n c.loop-at.places c.loop-at.at c.loop-at.invariant c.loop-at-test.true c.in-Some.i c.in-Some.ensures

pub returns-then-uses : goal.returns-then-uses
returns-then-uses c =
    judged-repeat c.loop-at.invariant c.loop-at-test.true (sym c.in-None.ensures) (sym c.uses.ensures ∙ c.if-uses.true)

pub loop-at-preserved : goal.loop-at-preserved
loop-at-preserved c =
    rw (next-size c.args.self.packet.now c.loop-at.at c.size_of-at.result c.size_of-at.ensures)
    (elim c.match-open_slot.branch [
      | in-Some+else-not-fits w ↦ rw w.places-is
          (judging-fills c.loop-at.invariant c.loop-at-test.true w.in-Some.i (sym w.in-Some.ensures) (sym w.fits.ensures ∙ w.if-not-fits.false))
      | in-None+else-uses w ↦ rw w.places-is
          (judging-skips c.loop-at.invariant c.loop-at-test.true (sym w.in-None.ensures) (sym w.uses.ensures ∙ w.if-uses.false))
    ])

pub returns-then-lacks : goal.returns-then-lacks
returns-then-lacks c =
    judged-lacking c.loop-at.invariant c.loop-at-test.false c.args.self.walked.least (sym c.lacks.ensures ∙ c.if-lacks.true)

pub returns : goal.returns
returns c =
    judged-right c.loop-at.invariant c.loop-at-test.false c.args.self.walked.least (sym c.lacks.ensures ∙ c.if-lacks.false)
