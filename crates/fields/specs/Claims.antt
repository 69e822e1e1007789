-- What is claimed of the walk beyond the functions, said without it. Each has its proof under proofs/. Assumes nothing.
use Rattle.std.specs.Prelude.{◌≡◌, ◌↔◌, ℕ, ◌-◌, ◌<◌, false, List, ◌++◌, length, take, drop, T}
use Rattle.fields.specs.Header.{first_field, size_right, head_right}
use Rattle.fields.specs.Walk.{stop_from, whole}
use Rattle.fields.specs.Layout.{Content, laid, laid_all, id_right, ids_right, contents_of}

-- past checks 1 and 2
abbrev pub Headed : List ℕ → Type 0
Headed p = T (size_right p) × T (head_right p)

-- The walk is whole exactly if what follows octet 12 is the layout, one after another, of some fields with IDs below 192.
abbrev pub WholeExactly : Type 0
WholeExactly =
    (p : List ℕ) → Headed p → T (whole p) ↔ ((cs : List Content) × T (ids_right cs) × (drop first_field p ≡ laid_all cs))

-- That list is the only one ..
abbrev pub LaidOnce : Type 0
LaidOnce = (cs ds : List Content) → laid_all cs ≡ laid_all ds → cs ≡ ds

-- .. and is that of the fields which the reader meets.
abbrev pub WalkMeets : Type 0
WalkMeets = (p : List ℕ) → T (whole p) → drop first_field p ≡ laid_all (contents_of p)

-- At a fault, what stands before it is such a layout, and no field's layout begins there.
abbrev pub FaultExactly : Type 0
FaultExactly =
    (p : List ℕ) → Headed p → whole p ≡ false
    → (stop_from p first_field < length p)
    × T (ids_right (contents_of p))
    × (take (stop_from p first_field - first_field) (drop first_field p) ≡ laid_all (contents_of p))
    × ((c : Content) (rest : List ℕ) → T (id_right c) → drop (stop_from p first_field) p ≡ laid c ++ rest → ⊥)
