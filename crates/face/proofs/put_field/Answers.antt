-- `face::put_field` meets its contract: past the test of the next place every number goes into 32 bits. Assumes nothing.
use mathlib.Core.Path.{◌≡◌, refl}
use mathlib.Core.Logic.{⊎_elim}
use Prim.Native.Nat.{ℕ, ◌^◌, ◌<◌, ◌≤◌}
use borrow.Author.Tests.{le-ltb}
use Rattle.std.specs.Prelude.{Result, Ok, Err, OkIff}
use Rattle.octets.proofs.Choice.{le-or-lt}
use Rattle.face.proofs.Laws.Told.{rowed-refuses}
use Rattle.face.proofs.put_field.Goals as goal

-- a number that does not fit
past : {E : Type 0} (r : Result ℕ E) (n m : ℕ) (x : E) → OkIff r (n < m) n → r ≡ Err x → m ≤ n
past (Ok k) n m x h e = cc
past (Err y) n m x h e = ⊎_elim (λ l. l) (λ l. absurd (h l)) (le-or-lt m n)

pub returns-in_default : goal.returns-in_default
returns-in_default c =
    let next = c.args.field.next in
    rw (le-ltb next (2 ^ 32) (past _ next (2 ^ 32) _ c.try_from.ensures c.in_default.is)) (rowed-refuses 4 0 c.args.out.now 4 refl)
