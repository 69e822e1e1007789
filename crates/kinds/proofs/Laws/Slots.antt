-- Laws of the first slot with an ID that is still open, slot by slot. Assumes nothing.
use mathlib.Core.Path.{◌≡◌, refl}
use mathlib.Core.Bool.{Bool, true, false, not, ◌&&◌, cond}
use mathlib.Core.List.{List, [], ◌∷◌}
use Prim.Native.Nat.{ℕ, suc, ◌+◌}
use native.Mathlib.Omega.{arith}
use lib.ListN.{length}
use lib.Dec.{eqb, ltb}
use borrow.Author.Tests.{lt-ltb}
use Rattle.std.proofs.lemmas.Bool.Decides.{nat_tests}
use Rattle.std.specs.Prelude.{Some, None, position}
use Rattle.std.specs.List.{zip, position_or_len}
use Rattle.std.specs.Option.{option_map}
use Rattle.octets.specs.Choice.{some_of}
use Rattle.kinds.specs.declared.kind.Form.TheVariants.{UserId}
use Rattle.kinds.specs.declared.kind.Slot.{Slot}
use Rattle.kinds.specs.Inner.{opens, open_in, used_in}

-- what the code reads past the last slot
abbrev pub blank : Slot
blank = record { id = 0; form = UserId; must = false }

-- the first of which a test holds, behind one more
position-cons : {A : Type 0} (p : A → Bool) (x : A) (xs : List A) → position p (x ∷ xs) ≡ cond (p x) (Some 0) (option_map suc (position p xs))
position-cons p x xs = by-case (p x) (position_or_len p xs) (length xs)
  where
    by-case : (b : Bool) (n l : ℕ)
        → cond (ltb (cond (not b) (1 + n) 0) (suc l)) (Some (cond (not b) (1 + n) 0)) None ≡ cond b (Some 0) (option_map suc (cond (ltb n l) (Some n) None))
    by-case true n l = rw (lt-ltb 0 (suc l) (omega arith))
    by-case false n l = grind (arith, nat_tests)

-- the first slot has the ID and is open, or one behind it
pub open_in-cons : (s : Slot) (slots : List Slot) (a : ℕ) (places : List ℕ) (id : ℕ)
    → open_in (s ∷ slots) (a ∷ places) id ≡ cond (eqb s.id id && eqb a 0) (Some 0) (option_map suc (open_in slots places id))
open_in-cons s slots a places id = position-cons (opens id) (s, a) (zip slots places)

-- a slot has the ID, as the definitions say it
pub used_in-some : (slots : List Slot) (id : ℕ) → used_in slots id ≡ some_of (λ (s : Slot). eqb s.id id) slots
used_in-some [] id = refl
used_in-some (s ∷ slots) id = rw (used_in-some slots id)
