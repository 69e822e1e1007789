-- One line of a call sheet as text (document 01, "Call sheet"). Assumes nothing.
use Rattle.std.specs.Prelude.{ℕ, ◌+◌, ◌-◌, min, Option, Some, None, List, [], ◌∷◌, ◌++◌, length, drop}
use Rattle.octets.specs.Choice.{pick, begins, front}
use Rattle.octets.specs.Text.{decimal, value_of, digit}
use Rattle.sheet.specs.Table.{Row}
use Rattle.sheet.specs.Judge.{Entry, visible}
use Rattle.sheet.specs.Inner.{cap}
use Rattle.sheet_line.specs.declared.Line.{Line}

abbrev pub lf : ℕ
lf = 10

abbrev pub comma : ℕ
comma = 44

-- what follows a line's number: LF, or on a seat's line the comma, the User ID and LF
unfoldable pub tail_of : Row → List ℕ → List ℕ
tail_of r name = pick r.named (comma ∷ name ++ (lf ∷ [])) (lf ∷ [])

-- the text of a line, with its LF
unfoldable pub line_of : Row → Entry → List ℕ
line_of r e = r.key ++ (decimal e.number ++ tail_of r e.name)

-- The entry that a text which begins with a line of this row has there: the number that the digits after the key make, and
-- on a seat's line, what stands after the comma, "A User ID .. starts after the first comma". Whether the text does
-- begin with that entry's line is asked apart.
unfoldable pub digits_after : Row → List ℕ → List ℕ
digits_after r s = front digit (drop (length r.key) s)

unfoldable pub name_after : Row → List ℕ → List ℕ
name_after r s = front visible (drop (length r.key + length (digits_after r s) + 1) s)

unfoldable pub entry_in : Row → List ℕ → Entry
entry_in r s = record { number = value_of (digits_after r s); name = pick r.named (name_after r s) [] }

-- The line of this row that stands at a place of a text: its number, told apart as far as the cap, where its User ID begins, and its LF;
-- or that none does.
unfoldable pub line_at : List ℕ → ℕ → Row → Option Line
line_at t at r =
    let e = entry_in r (drop at t) in
    let end = at + length (line_of r e) - 1 in
    let line : Line = record { number = min e.number cap; name = end - length e.name; end = end } in
    pick (begins (line_of r e) (drop at t)) (Some line) None
