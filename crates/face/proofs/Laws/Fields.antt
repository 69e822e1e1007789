-- What is said of the field at a place. Assumes nothing.
use mathlib.Core.List.{List}
use Prim.Native.Nat.{ℕ, ◌+◌, ◌^◌, ◌<◌, ◌≤◌}
use native.Mathlib.Omega.{arith}
use lib.ListN.{length, get_or}
use lib.Dec.{eqb, ltb}
use Rattle.octets.specs.Choice.{pick}
use Rattle.octets.proofs.Choice.{pick-cases}
use Rattle.fields.specs.Walk.{Stepped, field, end, refused, field_right, field_at, place_right, step_of}
use Rattle.fields.proofs.Laws.Walk.{next-after}
use Rattle.face.specs.Calls.{step_says, field_says}
use Rattle.face.proofs.Laws.Told.{Plain, plain-check}

-- a field, the end or 4
step-cases : (P : Stepped → Type 0) (p : List ℕ) (at : ℕ) → P (field (field_at p at)) → P end → P (refused 4 0) → P (step_of p at)
unfolding step_of
step-cases P p at f e r =
    let found = pick (field_right p at) (field (field_at p at)) (refused 4 0) in
    pick-cases P (place_right p at) (pick (eqb at (length p)) end found) (refused 4 0)
    (λ _. pick-cases P (eqb at (length p)) end found (λ _. e)
    (λ _. pick-cases P (field_right p at) (field (field_at p at)) (refused 4 0) (λ _. f) (λ _. r)))
    (λ _. r)

-- a field's value begins before the next field and has an octet's length
abbrev pub Small : Stepped → Type 0
Small (field f) = (f.at + 2 ≤ f.next) × (f.len < 256)
Small end = Unit {0}
Small (refused number line) = Unit {0}

pub small : (p : List ℕ) (at : ℕ) → ((i : ℕ) → get_or p i 0 < 256) → Small (step_of p at)
unfolding field_at
small p at octets = step-cases Small p at (omega (arith, next-after p at), octets (at + 1)) tt tt

-- what is told of it
pub plain-field : (p : List ℕ) (at : ℕ) → Plain (field_says p at)
unfolding field_says
plain-field p at =
    step-cases (λ s. Plain (step_says at s)) p at (plain-check (ltb (field_at p at).next (2 ^ 32)) 4 _ (omega arith) tt) tt (omega arith, omega arith)
