-- The numbers of a sheet's value at the front of a case: eleven in the order of a sheet's lines, then eight SSRCs, four octets each. Assumes nothing.
use Rattle.std.specs.Prelude.{ℕ, ◌*◌, List, [], ◌∷◌}
use Rattle.octets.specs.Big.{big_at}
use Rattle.sheet.specs.Value.{sheet_by}
use Rattle.sheet.specs.declared.Sheet.{Sheet}

-- the k-th number
abbrev pub number_at : List ℕ → ℕ → ℕ
number_at body k = big_at 4 body (k * 4)

abbrev pub ssrcs_at : List ℕ → List ℕ
ssrcs_at body =
    number_at body 11
    ∷ number_at body 12
    ∷ number_at body 13
    ∷ number_at body 14
    ∷ number_at body 15
    ∷ number_at body 16
    ∷ number_at body 17
    ∷ number_at body 18
    ∷ []

abbrev pub sheet_at : List ℕ → Sheet
sheet_at body = sheet_by (number_at body) (ssrcs_at body)
