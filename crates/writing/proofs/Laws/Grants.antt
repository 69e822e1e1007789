-- A message's Result is 1 exactly if its meaning's is (`grants-meant`). Assumes nothing.
use mathlib.Core.Path.{◌≡◌, refl}
use mathlib.Core.Bool.{Bool, false}
use mathlib.Core.List.{List, [], ◌∷◌, map}
use Prim.Native.Nat.{ℕ, ◌+◌}
use lib.ListN.{length, take, drop}
use lib.Dec.{leb}
use Rattle.octets.proofs.Choice.{pick-cases}
use Rattle.kinds.specs.Kind.{Row, grants}
use Rattle.kinds.specs.Judge.{Held, absent, given, named}
use Rattle.packet.specs.Claims.{is_one}
use Rattle.packet.specs.Meaning.{Value, spelt, nowhere, value_in}
use Rattle.plan.specs.Packet.{is_one as is_one_meant}

-- a map that keeps the test keeps whether the Result is 1
pub grants-map : {A B : Type 0} (one : A → Bool) (other : B → Bool) (f : A → B) → ((a : A) → other (f a) ≡ one a)
    → (rows : List Row) (values : List A) → grants other rows (map f values) ≡ grants one rows values
unfolding grants
grants-map one other f h [] values = refl
grants-map one other f h (r ∷ rows) [] = refl
grants-map one other f h (r ∷ rows) (v ∷ values) = rw (h v, grants-map one other f h rows values)

-- a value is 1 exactly if what it means is
one_meant : (p : List ℕ) (v : Held) → is_one_meant (value_in p v) ≡ is_one v
unfolding value_in is_one_meant is_one
one_meant p absent = refl
one_meant p (given n) = refl
one_meant p (named at len) =
    pick-cases (λ (v : Value). is_one_meant v ≡ false) (leb (at + len) (length p)) (spelt (take len (drop at p))) nowhere (λ t. refl) (λ f. refl)

-- so the Result is
pub grants-meant : (p : List ℕ) (rows : List Row) (held : List Held) → grants is_one_meant rows (map (value_in p) held) ≡ grants is_one rows held
grants-meant p rows held = grants-map is_one is_one_meant (value_in p) (one_meant p) rows held
