-- The text of a whole call sheet (document 01, "Call sheet"). Assumes nothing.
use Rattle.std.specs.Prelude.{ℕ, suc, ◌+◌, ◌*◌, length, replicate}
use mathlib.Core.List.{List, [], ◌∷◌, ◌++◌, map, foldr}
use Rattle.octets.specs.Text.{decimal}
use Rattle.sheet.specs.Table.{Row, table, seat_row, most_seats, row_at}
use Rattle.sheet.specs.Judge.{Entry, longest_name}
use Rattle.sheet_line.specs.Line.{tail_of, line_of}

-- the text of the lines from line k on
unfoldable pub text_from : ℕ → List Entry → List ℕ
text_from k [] = []
text_from k (e ∷ es) = line_of (row_at k) e ++ text_from (suc k) es

unfoldable pub text_of : List Entry → List ℕ
text_of es = text_from 0 es

-- the most octets that a line of this row has: its key, the digits of its greatest number, and on a seat's line the longest User ID
unfoldable pub widest : Row → ℕ
widest r = length r.key + length (decimal r.greatest) + length (tail_of r (replicate longest_name 0x21))

-- the most octets that a sheet has
unfoldable pub longest : ℕ
longest = foldr ◌+◌ (most_seats * widest seat_row) (map widest table)
