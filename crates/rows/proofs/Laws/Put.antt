-- What is returned where a row is put, and what the slice holds then. Assumes nothing.
use mathlib.Core.Path.{◌≡◌, refl, sym, ◌∙◌}
use Prim.Native.Nat.{ℕ, ◌+◌, ◌≤◌, ◌<◌}
use mathlib.Core.List.{List, [], ◌∷◌}
use native.Mathlib.Omega.{arith}
use lib.ListN.{length, set}
use borrow.Author.Tests.{le-leb, lt-leb}
use Rattle.std.specs.Prelude.{Ok, Err}
use Rattle.octets.specs.Buffer.{over, put_at}
use Rattle.octets.proofs.Buffer.{put_at-nil, put_at-pair}
use Rattle.sheet.specs.declared.Refusal.{Refusal}
use Rattle.reception.specs.Steps.{gives}
use Rattle.rows.specs.Lent.{code, Returned, told, put, roomy}
use Rattle.rows.specs.Promises.{Rowed, told_apart}

-- a row goes into the front of what was lent, or 11
pub rowed-gives : (row out now : List ℕ) → length row ≤ length out → now ≡ over row out → Rowed (gives row) out 0 now
unfolding roomy code put
rowed-gives row out now h e = rw (le-leb (length row) (length out) h) (refl, e)

pub rowed-short : (row out : List ℕ) → length out < length row → Rowed (gives row) out 11 out
unfolding roomy code put
rowed-short row out h = rw (lt-leb (length row) (length out) h) (refl, refl)

-- a store at the front puts one number
pub over-one : (x : ℕ) (out : List ℕ) → 0 < length out → set out 0 x ≡ over (x ∷ []) out
unfolding over
over-one x [] h = absurd (omega arith)
over-one x (a ∷ out) h = refl

-- two stores side by side put two
pub put_two : (s : List ℕ) (at x y : ℕ) → at + 1 < length s → set (set s at x) (at + 1) y ≡ put_at s at (x ∷ y ∷ [])
put_two s at x y h = sym (put_at-nil _ (at + 2)) ∙ put_at-pair s at x y [] (omega arith)

-- ---- what is told of a result

-- no refusal is told by 0
pub told-refused : (r : Refusal) → told (Err r) ≡ 0 → ⊥
told-refused r e = same (told_apart (Err r) (Ok tt) e)
  where
    same : ◌≡◌ {A = Returned} (Err r) (Ok tt) → ⊥
    same p = cc
