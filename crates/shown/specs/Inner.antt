-- What the inner functions say of the values that they look at. The public promises rest on these, and nobody need believe them: each is only a
-- step of a proof. Assumes nothing.
use Rattle.std.specs.Prelude.{ℕ, Bool, ◌||◌, List, [], ◌∷◌, ◌++◌, map, get_or, take, drop, eqb}
use Rattle.octets.specs.Choice.{pick}
use Rattle.sheet_line.specs.Line.{lf}
use Rattle.kinds.specs.Judge.{Held, absent, given, named}
use Rattle.kinds.specs.Reading.{Outcome, reads, refused}
use Rattle.packet.specs.Row.{no_number}
use Rattle.shown.specs.declared.values.Value.{Value}
use Rattle.shown.specs.declared.values.Value.TheVariants.{Absent, Given, Named}
use Rattle.shown.specs.Line.{ten_of, value_text, labels, labelled}

abbrev pub value_said : Value → Held
value_said Absent = absent
value_said (Given n) = given n
value_said (Named name) = named name.at name.len

-- the ten values of what was read
unfoldable pub ten_said : Outcome → List Held
ten_said (reads kind ssrc ack values) = ten_of kind ssrc ack values
ten_said (refused number at) = []

-- a number of a row, a name of a row where its kind has one, and the kinds that name a transmitter
abbrev pub number_held : ℕ → Held
number_held n = pick (eqb n no_number) absent (given n)

abbrev pub name_held : Bool → ℕ → ℕ → Held
name_held has at len = pick has (named at len) absent

abbrev pub names_one : ℕ → Bool
names_one kind = (eqb kind 1 || eqb kind 3) || eqb kind 4

-- the ten values that a row shows
unfoldable pub row_ten : List ℕ → List Held
row_ten row =
    let kind = get_or row 0 0 in
    map given (take 3 row)
    ++ (name_held (eqb kind 1) (get_or row 3 0) (get_or row 4 0) ∷ name_held (names_one kind) (get_or row 5 0) (get_or row 6 0) ∷ map number_held (drop 7 row))

-- their texts
abbrev pub texts_of : List ℕ → List Held → List (List ℕ)
texts_of p values = map (value_text p) values

-- the name and the text of the k-th
unfoldable pub entry_text : List ℕ → List Held → ℕ → List ℕ
entry_text p values k = get_or labels k [] ++ get_or (texts_of p values) k []

-- those from the k-th on
unfoldable pub values_from : List ℕ → List Held → ℕ → List ℕ
values_from p values k = labelled (drop k labels) (drop k (texts_of p values))

-- all of them, and an LF
unfoldable pub ten_line : List ℕ → List Held → List ℕ
ten_line p values = values_from p values 0 ++ (lf ∷ [])
