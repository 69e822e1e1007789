-- `streams::receivers::are_below` meets its contract: a byte that is shifted by the number of seats (`shifted`) is 0 exactly if it is below 2 to that
-- power. Assumes nothing.
use mathlib.Core.Path.{◌≡◌, sym, ◌∙◌}
use mathlib.Core.Logic.{⊎_elim}
use Prim.Native.Nat.{ℕ, ◌/◌, ◌^◌}
use native.Mathlib.Nat.{le-div_iff_mul-le, div-lt_iff_lt-mul}
use native.Mathlib.Omega.{arith}
use lib.Dec.{eqb, ltb}
use lib.Pow.{pow_pos}
use borrow.Author.Tests.{lt-ltb, le-ltb, eq-eqb, ne_eqb}
use Rattle.octets.proofs.Choice.{le-or-lt}
use Rattle.streams.proofs.Laws.Bits.{shifted}
use Rattle.streams.proofs.receivers.are_below.Goals as goal

-- a number is shifted to 0 exactly if it is below that power of 2
shifted-below : (b n : ℕ) → eqb (b / 2 ^ n) 0 ≡ ltb b (2 ^ n)
shifted-below b n =
    ⊎_elim
    (λ h. ne_eqb (b / 2 ^ n) 0 (λ e. omega (arith, (le-div_iff_mul-le {k = 2 ^ n} {x = 1} {y = b} (pow_pos n)).1 (omega arith))) ∙ sym (le-ltb b (2 ^ n) h))
    (λ h. eq-eqb (b / 2 ^ n) 0 (omega (arith, (div-lt_iff_lt-mul {k = 2 ^ n} {x = b} {y = 1} (pow_pos n)).1 (omega arith))) ∙ sym (lt-ltb b (2 ^ n) h))
    (le-or-lt (2 ^ n) b)

pub returns : goal.returns
returns c =
    let a = c.args in
    rw (c.unwrap_or.ensures, shifted a.byte a.seats c.checked_shr.result (omega arith) c.checked_shr.ensures) (shifted-below a.byte a.seats)
