-- `writing::write_lent` meets its contract: the numbers are checked first, and a valid sheet's fit. Assumes nothing.
use mathlib.Core.Path.{◌≡◌, refl, sym, ◌∙◌}
use mathlib.Core.Bool.{true}
use mathlib.Core.List.{List}
use Prim.Native.Nat.{ℕ}
use native.Mathlib.Omega.{arith}
use lib.ListN.{length, take}
use lib.Seq.{take_all}
use Rattle.octets.proofs.Choice.{T_true, true-T}
use Rattle.sheet.specs.Value.{valid_alone, sheet_in}
use Rattle.sheet.proofs.Laws.Values.{sheet_in-counted, valid-counted}
use Rattle.plan.specs.Packet.{fitting}
use Rattle.plan.proofs.Laws.Fitting.{valid-fitting}
use Rattle.writing.specs.Writing.{write_of, write_by, told, after}
use Rattle.writing.proofs.write_lent.Goals as goal

pub returns-then-not-are_valid : goal.returns-then-not-are_valid
unfolding write_of told after
returns-then-not-are_valid c =
    rw (sym c.are_valid.ensures ∙ c.if-not-are_valid.true) (refl, refl)

-- a sheet's numbers are nineteen, which is all that is handed on
counted : (ns : List ℕ) → valid_alone (sheet_in ns) ≡ true → length ns ≡ 19
counted ns e = valid-counted ns (true-T _ e)

all : (ns : List ℕ) → valid_alone (sheet_in ns) ≡ true → take 19 ns ≡ ns
all ns e = take_all 19 ns (omega (arith, counted ns e))

pub slice_bounds-write_by-end : goal.slice_bounds-write_by-end
slice_bounds-write_by-end c =
    let valid = sym c.are_valid.ensures ∙ c.if-not-are_valid.false in
    rw (all c.args.numbers.now valid) (sym (counted c.args.numbers.now valid))

pub returns : goal.returns
unfolding write_of write_by
returns c =
    let ns = c.args.numbers.now in
    let valid = sym c.are_valid.ensures ∙ c.if-not-are_valid.false in
    let t = true-T _ valid in
    rw (valid, sheet_in-counted ns (valid-counted ns t)) (rw (all ns valid, T_true (fitting ns) (valid-fitting ns t)) at c.write_by.ensures)
