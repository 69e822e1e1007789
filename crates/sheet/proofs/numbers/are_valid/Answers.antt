-- `sheet::numbers::are_valid` meets its contract: the struct is a sheet's exactly if its lines are right (`valid-right`, `right_valid`).
-- Assumes nothing.
use mathlib.Core.Path.{◌≡◌, sym, ◌∙◌}
use mathlib.Core.Bool.{Bool, false}
use mathlib.Core.List.{List}
use Prim.Native.Nat.{ℕ}
use native.Mathlib.Omega.{arith}
use lib.ListN.{length}
use lib.Dec.{T}
use Rattle.octets.proofs.Choice.{true-T, false-T, T_false, test-eq}
use Rattle.sheet.specs.Table.{table, number_lines, seats_line}
use Rattle.sheet.specs.Value.{sheet_in, valid_alone}
use Rattle.sheet.proofs.Laws.Values.{other-not-valid}
use Rattle.sheet.proofs.Laws.Lines.{Right, lines_in, valid-right, right_valid}
use Rattle.sheet.proofs.numbers.are_valid.Goals as goal
use Rattle.sheet.proofs.numbers.are_valid.Goals.{then-are_within, else-are_within}

-- numbers of which a part of what is right does not hold
wrong : (ns : List ℕ) → length ns ≡ 19 → (r : Bool) → r ≡ false → (Right ns (lines_in ns) → T r) → r ≡ valid_alone (sheet_in ns)
wrong ns long r e f = e ∙ sym (T_false (valid_alone (sheet_in ns)) (λ v. false-T r e (f (valid-right ns long v))))

pub returns-in_default : goal.returns-in_default
returns-in_default c = sym (other-not-valid _ c.in_default.ensures.1)

pub returns-then-are_apart : goal.returns-then-are_apart
unfolding number_lines seats_line table
returns-then-are_apart c =
    let ns = c.args.numbers.now in
    let lent = c.in-Ok.ensures.1 in
    let within = rw lent.same at c.are_within.ensures in
    let seats = rw lent.same at c.are_apart-then-are_apart.ensures in
    elim c.if-are_within.branch [
      | then-are_within w ↦
          let five = rw lent.same at w.are_apart.ensures in
          test-eq c.are_apart-then-are_apart.result (valid_alone (sheet_in ns))
          (λ t. right_valid ns lent.long (λ k. omega (arith, c.type_inv.numbers k))
          (record {
            bounds = within.0 (true-T c.are_within.result w.if-are_within.true);
            apart-five = five.0 (true-T w.are_apart.result (sym w.value-is ∙ c.if-are_apart.true));
            apart-seats = λ k h. seats.0 t k (omega arith);
          }))
          (λ v. seats.1 (λ k h. (valid-right ns lent.long v).apart-seats k (omega arith)))
      | else-are_within w ↦
          absurd (false-T c.are_within.result w.if-are_within.false (true-T c.are_within.result (sym w.value-is ∙ c.if-are_apart.true)))
    ]

pub returns-else-are_apart : goal.returns-else-are_apart
unfolding number_lines seats_line table
returns-else-are_apart c =
    let ns = c.args.numbers.now in
    let lent = c.in-Ok.ensures.1 in
    let within = rw lent.same at c.are_within.ensures in
    wrong ns lent.long c.if-are_within.value c.if-are_apart.false
    (λ r. elim c.if-are_within.branch [
      | then-are_within w ↦ let five = rw lent.same at w.are_apart.ensures in rw w.value-is (five.1 r.apart-five)
      | else-are_within w ↦ rw w.value-is (within.1 r.bounds)
    ])
