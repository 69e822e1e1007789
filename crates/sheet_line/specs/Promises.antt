-- What the public function promises: the equation that its answer meets, for every input, and that no second answer meets it.
-- Assumes nothing.
use Rattle.std.specs.Prelude.{◌≡◌, ℕ, Option, List}
use Rattle.octets.specs.Promises.{one_value}
use Rattle.sheet.specs.Table.{row_at}
use Rattle.sheet_line.specs.declared.Line.{Line}
use Rattle.sheet_line.specs.Line.{line_at}
use Rattle.sheet_line.specs.Inner.{LineIs}

-- the line at a place, as line k, whose User ID stands in the text
abbrev pub line_at≡ : List ℕ → ℕ → ℕ → Option Line → Type 0
line_at≡ t at k r = (r ≡ line_at t at (row_at k)) × LineIs t at (row_at k) r

pub line_at-once : (t : List ℕ) (at k : ℕ) (x y : Option Line) → line_at≡ t at k x → line_at≡ t at k y → x ≡ y
line_at-once t at k x y e f = one_value x y e.0 f.0
