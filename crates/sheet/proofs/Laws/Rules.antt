-- Laws on the table of lines: what holds of every row is one test, computed at each. Assumes nothing.
use mathlib.Core.Path.{◌≡◌, ap}
use mathlib.Core.Bool.{Bool, true, false, not, ◌&&◌}
use Prim.Native.Nat.{ℕ, suc, ◌≤◌, ◌<◌, zero-le}
use lib.ListN.{get_or-eq_default}
use lib.Dec.{T, T_not, ltb, eqb, leb→le, eqb→eq}
use Rattle.octets.specs.Choice.{every}
use Rattle.octets.proofs.Choice.{T_false, T-and-left, T-and-right, every-get_or, every-get_or-or, all_below, below, NoneFrom, none_from}
use Rattle.sheet.specs.declared.table.Rule.{Rule}
use Rattle.sheet.specs.Table.{Row, table, seat_row, number_lines, row_at}
use Rattle.sheet.specs.Inner.{cap, NoneBefore, RuleOf, between, within}

-- ---- the rows of the definition

-- a line behind those with a number alone is a seat's
pub row_at-seat : (k : ℕ) → number_lines ≤ k → row_at k ≡ seat_row
unfolding row_at number_lines
row_at-seat k h = get_or-eq_default table seat_row h

-- what holds of each row of the table and of the seat's row holds of every line's
pub every-row : (p : Row → Bool) → T (every p table) → T (p seat_row) → (k : ℕ) → T (p (row_at k))
unfolding row_at
every-row p t s k = every-get_or-or p table k seat_row t s

-- no User ID stands on a line with a number alone
pub row-unnamed : (k : ℕ) → k < number_lines → (row_at k).named ≡ false
unfolding row_at table number_lines
row-unnamed k h = T_false (row_at k).named (T_not (row_at k).named (every-get_or (λ (r : Row). not r.named) table k seat_row tt h))

-- and one stands on every seat's
pub row_named : (k : ℕ) → number_lines ≤ k → (row_at k).named ≡ true
unfolding seat_row
row_named k h = ap (λ (r : Row). r.named) (row_at-seat k h)

-- every number that a line may have is below the cap
pub greatest-cap : (k : ℕ) → (row_at k).greatest < cap
unfolding table seat_row
greatest-cap k = leb→le (suc (row_at k).greatest) cap (every-row (λ (r : Row). ltb r.greatest cap) tt tt k)

-- ---- the rows of the code

-- line i is of another family
unfoldable pub other : ℕ → ℕ → Bool
other family i = not (eqb (row_at i).family family)

-- each line before line j is
pub none_before : (j family : ℕ) → T (all_below j (other family)) → NoneBefore j family
unfolding other
none_before j family t i h =
    T_false (eqb (row_at i).family family) (T_not (eqb (row_at i).family family) (below j (other family) t i h))

-- a rule of the code is a row of the definition
unfoldable pub right : Row → Rule → Bool
right r c =
    eqb c.least r.least
    && (eqb c.greatest r.greatest
    && (eqb c.family r.family
    && all_below c.eldest (other r.family)))

right_rule : (k : ℕ) (c : Rule) → T (right (row_at k) c) → RuleOf k c
unfolding right
right_rule k c t =
    let r = row_at k in
    let t₄ = all_below c.eldest (other r.family) in
    let t₃ = eqb c.family r.family && t₄ in
    let t₂ = eqb c.greatest r.greatest && t₃ in
    let u₂ : T t₂ = T-and-right (eqb c.least r.least) t₂ t in
    let u₃ : T t₃ = T-and-right (eqb c.greatest r.greatest) t₃ u₂ in
    record {
      least = eqb→eq c.least r.least (T-and-left (eqb c.least r.least) t₂ t);
      greatest = eqb→eq c.greatest r.greatest (T-and-left (eqb c.greatest r.greatest) t₃ u₂);
      family = eqb→eq c.family r.family (T-and-left (eqb c.family r.family) t₄ u₃);
      eldest = none_before c.eldest r.family (T-and-right (eqb c.family r.family) t₄ u₃);
    }

-- its bounds are the row's
pub rule-within : {k : ℕ} {c : Rule} {b : Bool} → RuleOf k c → (n : ℕ) → b ≡ between c.least c.greatest n → b ≡ within k n
rule-within r n e = rw (e, r.least, r.greatest)

-- so the code's rule of line i is that of k, which is i
pub rule_at : (i : ℕ) (c : Rule) → T (right (row_at i) c) → {k : ℕ} → k ≡ i → RuleOf k c
rule_at i c t e = rw e (right_rule i c t)

-- and the code's rule of every other line is a seat's
pub rule_seat : (c : Rule) → T (right seat_row c) → {k : ℕ} → NoneFrom 0 number_lines k → RuleOf k c
unfolding number_lines table
rule_seat c t {k} h = right_rule k c (rw (row_at-seat k (none_from 0 number_lines k zero-le h)) t)
