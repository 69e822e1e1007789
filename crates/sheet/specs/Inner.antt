-- What the inner functions say of the lines and rows that they look at. The public promises rest on these, and but for `cap`, which the definition of a line
-- names, nobody need believe them: each is only a step of a proof. Assumes nothing.
use Rattle.std.specs.Prelude.{◌≡◌, ℕ, ◌<◌, Bool, false, not, ◌&&◌, List, [], length, get_or, take, leb, eqb}
use Rattle.octets.specs.Choice.{pick, same}
use Rattle.sheet.specs.declared.table.Rule.{Rule}
use Rattle.sheet.specs.Table.{row_at}
use Rattle.sheet.specs.Judge.{taken}
use Rattle.sheet.specs.Value.{row_of, name_of}
use Rattle.sheet.specs.Find.{new_name}

-- no line before line j is of this family
abbrev pub NoneBefore : ℕ → ℕ → Type 0
NoneBefore j family = (i : ℕ) → i < j → eqb (row_at i).family family ≡ false

-- a rule of the code is the row of line k
pub record RuleOf (k : ℕ) (r : Rule) : Type 0 where
  pub least : r.least ≡ (row_at k).least
  pub greatest : r.greatest ≡ (row_at k).greatest
  pub family : r.family ≡ (row_at k).family
  pub eldest : NoneBefore r.eldest (row_at k).family

-- a number from the least to the greatest; within the bounds of line k
abbrev pub between : ℕ → ℕ → ℕ → Bool
between least greatest n = leb least n && leb n greatest

abbrev pub within : ℕ → ℕ → Bool
within k n = between (row_at k).least (row_at k).greatest n

-- line k of a sheet of so many lines: a number that no line of the family before it has; behind the sheet's lines, 0
unfoldable pub apart : ℕ → ℕ → List ℕ → ℕ → Bool
apart family lines ns k =
    pick (leb lines k) (eqb (get_or ns k 0) 0) (not (taken family (get_or ns k 0) 0 (take k ns)))

-- every number that a line may have is below this
abbrev pub cap : ℕ
cap = 4294967296

-- an octet of a name
abbrev pub nonzero : ℕ → Bool
nonzero c = not (eqb c 0)

-- a row as it has to be under so many seats: a new name at fixed width, or none
unfoldable pub good_row : ℕ → List (List ℕ) → ℕ → Bool
good_row seats users s =
    let row = get_or users s [] in
    same row (row_of (name_of row))
    && pick (leb seats s) (eqb (length (name_of row)) 0) (new_name s users (name_of row))
