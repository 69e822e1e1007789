-- What is claimed of a sheet's value beyond the functions. Its proof is under proofs/. Assumes nothing.
use Rattle.std.specs.Prelude.{◌↔◌, ℕ, List, T}
use Rattle.sheet.specs.declared.Sheet.{Sheet}
use Rattle.sheet.specs.Value.{valid_alone, valid_with}

-- A struct alone is valid exactly if some User IDs go with it.
abbrev pub ValidAloneExactly : Type 0
ValidAloneExactly = (s : Sheet) → T (valid_alone s) ↔ ((users : List (List ℕ)) × T (valid_with s users))
