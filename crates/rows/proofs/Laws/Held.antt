-- Laws of what is made of a row only if its numbers fit. Assumes nothing.
use mathlib.Core.Path.{◌≡◌, refl, sym, ◌∙◌}
use mathlib.Core.Logic.{⊎_elim}
use mathlib.Core.Bool.{Bool, true, false}
use mathlib.Core.Option.{Option, none, some, none-ne-some}
use Prim.Native.Nat.{ℕ, ◌<◌, ◌≤◌}
use Rattle.std.specs.Prelude.{Result, Ok, Err, Some, None, OkIff}
use Rattle.std.specs.Result.{result_ok}
use Rattle.octets.specs.Choice.{pick}
use Rattle.octets.proofs.Choice.{le-or-lt}
use Rattle.rows.specs.Held.{given}

-- of nothing, nothing
pub held-nothing : {A : Type 0} (fit : Bool) (o : Option A) → o ≡ none → pick fit o none ≡ none
held-nothing true o e = e
held-nothing false o e = refl

-- what is made was there
pub held-some : {A : Type 0} (fit : Bool) (o : Option A) (x : A) → some x ≡ pick fit o none → o ≡ some x
held-some true o x e = sym e
held-some false o x e = absurd (none-ne-some x (sym e))

-- where nothing is made of what there is, it does not fit
pub held_none : {A : Type 0} (fit : Bool) (o : Option A) (x : A) → none ≡ pick fit o none → o ≡ some x → fit ≡ false
held_none true o x e p = absurd (none-ne-some x (e ∙ p))
held_none false o x e p = refl

-- where there is nothing, the code gives nothing
pub given-none : {A : Type 0} {o : Option A} → o ≡ none → None ≡ given o
given-none e = rw e

-- and where the code gives something, or nothing, so it is
pub given_some : {A : Type 0} (o : Option A) (x : A) → given o ≡ Some x → o ≡ some x
given_some none x e = cc
given_some (some y) x e = cc

pub given_none : {A : Type 0} (o : Option A) → given o ≡ None → o ≡ none
given_none none e = refl
given_none (some y) e = cc

-- ---- a number that is asked for as one of 8 bits

-- it fits an octet and is that number ..
pub octet : {E : Type 0} (r : Result ℕ E) (n k : ℕ) → OkIff r (n < 256) n → result_ok r ≡ Some k → (n < 256) × (k ≡ n)
octet (Ok x) n k h e = (h.0, cc)
octet (Err x) n k h e = cc

-- .. or does not
pub no_octet : {E : Type 0} (r : Result ℕ E) (n : ℕ) → OkIff r (n < 256) n → result_ok r ≡ None → 256 ≤ n
no_octet (Ok x) n h e = cc
no_octet (Err x) n h e = ⊎_elim (λ l. l) (λ l. absurd (h l)) (le-or-lt 256 n)
