-- The fields of a packet and the walk over them (document 01, "Packet"; TS 24.581, 9.1.3): "ID octet, length octet, value, then
-- padding to the next word, not counted in the length". Stricter than TS 24.581: an ID of 192 or more is refused (house), and
-- padding that is not zero. Assumes nothing.
use Rattle.std.specs.Prelude.{ℕ, zero, suc, ◌+◌, ◌-◌, ◌*◌, ◌/◌, ◌%◌, Bool, ◌&&◌, List, [], ◌∷◌, length, get_or, take, drop, leb, ltb, eqb}
use Rattle.std.specs.Prelude.{Option, Some, None, Result, Ok, Err}
use Rattle.octets.specs.Choice.{pick, every}
use Rattle.sheet.specs.declared.Refusal.{Refusal}
use Rattle.sheet.specs.Refusal.{refusal_number, refusal_line}
use Rattle.fields.specs.declared.field.Field.{Field}
use Rattle.fields.specs.Header.{first_field, word}

-- ---- one field, by its place

-- so many octets filled up to whole words
unfoldable pub to_word : ℕ → ℕ
to_word n = (n + 3) / word * word

-- past a field's ID octet, length octet and value
unfoldable pub value_end : List ℕ → ℕ → ℕ
value_end p at = at + (2 + get_or p (at + 1) 0)

-- past its padding, where the next field begins; a field begins on a word
unfoldable pub next_at : List ℕ → ℕ → ℕ
next_at p at = at + to_word (2 + get_or p (at + 1) 0)

-- "Padding is zero"
unfoldable pub zeros : List ℕ → Bool
zeros xs = every (λ (x : ℕ). eqb x 0) xs

unfoldable pub padding : List ℕ → ℕ → List ℕ
padding p at = take (next_at p at - value_end p at) (drop (value_end p at) p)

-- refusal 4 is for "ID of 192 or more, field past the end, padding not zero"; a field that has none of them
unfoldable pub field_right : List ℕ → ℕ → Bool
field_right p at = ltb (get_or p at 0) 192 && (leb (next_at p at) (length p) && zeros (padding p at))

-- the field at a place: of its ID octet, ID, length, and where the next begins
unfoldable pub field_at : List ℕ → ℕ → Field
field_at p at = record { at = at; id = get_or p at 0; len = get_or p (at + 1) 0; next = next_at p at }

-- the octets of its value
unfoldable pub value_of : List ℕ → Field → List ℕ
value_of p f = take f.len (drop (f.at + 2) p)

-- ---- the walk: "The walk over fields stops at the first bad one"

-- the fields from a place on up to the first bad one or the end, and where that is; the first argument bounds their number
unfoldable pub fields_by : ℕ → List ℕ → ℕ → List Field
fields_by zero p at = []
fields_by (suc n) p at = pick (field_right p at) (field_at p at ∷ fields_by n p (next_at p at)) []

unfoldable pub stop_by : ℕ → List ℕ → ℕ → ℕ
stop_by zero p at = at
stop_by (suc n) p at = pick (field_right p at) (stop_by n p (next_at p at)) at

-- There are no more fields than octets, so that the bound is never met: a right field at the place goes before those from the
-- next on, and at any other place the walk stops (`fields_from-right`, `stop_from-right` and so on, of proofs/).
unfoldable pub fields_from : List ℕ → ℕ → List Field
fields_from p at = fields_by (length p) p at

unfoldable pub stop_from : List ℕ → ℕ → ℕ
stop_from p at = stop_by (length p) p at

-- the fields of a packet
unfoldable pub fields_of : List ℕ → List Field
fields_of p = fields_from p first_field

-- the walk meets no bad field
unfoldable pub whole : List ℕ → Bool
whole p = eqb (stop_from p first_field) (length p)

-- ---- one field at any place of any octets

pub data Stepped : Type 0 where
  field : Field → Stepped
  end : Stepped
  refused : ℕ → ℕ → Stepped

-- not "a place below 12, off a word or past the end"
unfoldable pub place_right : List ℕ → ℕ → Bool
place_right p at = leb first_field at && (eqb (at % word) 0 && leb at (length p))

-- "hands out one field at a time"; "at the end it says so; at a bad field, or a place below 12, off a word or past the end, it
-- refuses with 4"
unfoldable pub step_of : List ℕ → ℕ → Stepped
step_of p at =
    pick (place_right p at)
    (pick (eqb at (length p)) end (pick (field_right p at) (field (field_at p at)) (refused 4 0)))
    (refused 4 0)

-- what an answer says of a place
abbrev pub step_said : Result (Option Field) Refusal → Stepped
step_said (Ok (Some f)) = field f
step_said (Ok None) = end
step_said (Err r) = refused (refusal_number r) (refusal_line r)
