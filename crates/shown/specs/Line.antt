-- What `mcvlook` prints for a line, and for a sheet that is refused (document 01, "Bench program" and its example). Assumes nothing.
use Rattle.std.specs.Prelude.{ℕ, ◌+◌, ◌-◌, ◌*◌, Bool, List, [], ◌∷◌, ◌++◌, map, length, get_or, take, drop, leb}
use Prim.Native.String.{String}
use Rattle.std.proofs.Math.Option.{Option, none, some}
use Rattle.octets.specs.Choice.{pick, same}
use Rattle.octets.specs.Text.{ascii, decimal}
use Rattle.hex_line.specs.Line.{packet_in}
use Rattle.sheet.specs.declared.Sheet.{Sheet}
use Rattle.sheet_line.specs.Line.{lf}
use Rattle.kinds.specs.declared.Numbers.{Numbers}
use Rattle.kinds.specs.Judge.{Held, absent, given, named}
use Rattle.kinds.specs.Reading.{Outcome, reads, refused, read_by, read_of}

-- ---- the ten values of a message

-- "User ID, named transmitter, Result, cause, Indicator, Source, Message Type", by the names that the example prints
abbrev pub field_names : List String
field_names = "user" ∷ "named" ∷ "result" ∷ "cause" ∷ "indicator" ∷ "origin" ∷ "about" ∷ []

-- under which of them each field of a kind is printed, in the order of the kind's table; "User ID is for kind 1 only"
unfoldable pub names_of : ℕ → List String
names_of kind =
    get_or
    ([]
    ∷ ("user" ∷ "named" ∷ "indicator" ∷ [])
    ∷ ("result" ∷ "cause" ∷ "indicator" ∷ [])
    ∷ ("named" ∷ "indicator" ∷ [])
    ∷ ("named" ∷ [])
    ∷ ("cause" ∷ "indicator" ∷ [])
    ∷ []
    ∷ ("origin" ∷ "about" ∷ [])
    ∷ [])
    kind
    []

-- the value under a name, among values and the name of each
unfoldable pub under : List String → List Held → String → Held
under [] values name = absent
under (n ∷ names) [] name = absent
under (n ∷ names) (v ∷ values) name = pick (same (ascii n) (ascii name)) v (under names values name)

-- "ten values in order": "kind, SSRC, Ack asked (0 or 1)" and those seven
unfoldable pub ten_of : ℕ → ℕ → Bool → List Held → List Held
ten_of kind ssrc ack values =
    given kind ∷ given ssrc ∷ given (pick ack 1 0) ∷ map (under (names_of kind) values) field_names

-- ---- as text

-- "numbers in decimal", "`-` where the message has none"; a name's octets lie in the packet
unfoldable pub value_text : List ℕ → Held → List ℕ
value_text p absent = ascii "-"
value_text p (given n) = decimal n
value_text p (named at len) = take len (drop at p)

-- before each value stands its name, and a space between two
abbrev pub spaced : List (List ℕ) → List (List ℕ)
spaced [] = []
spaced (l ∷ ls) = l ∷ map (λ (x : List ℕ). ascii " " ++ x) ls

abbrev pub labels : List (List ℕ)
labels = spaced (map (λ (name : String). ascii name ++ ascii "=") ("kind" ∷ "ssrc" ∷ "ack" ∷ field_names))

unfoldable pub labelled : List (List ℕ) → List (List ℕ) → List ℕ
labelled [] texts = []
labelled (l ∷ ls) [] = []
labelled (l ∷ ls) (t ∷ texts) = l ++ (t ++ labelled ls texts)

-- a name and a number, on a line
unfoldable pub number_line : String → ℕ → List ℕ
number_line name n = ascii name ++ (decimal n ++ (lf ∷ []))

-- "one line a packet: refused=N, or ten values in order"
unfoldable pub text_of : List ℕ → Outcome → List ℕ
text_of p (reads kind ssrc ack values) = labelled labels (map (value_text p) (ten_of kind ssrc ack values)) ++ (lf ∷ [])
text_of p (refused number at) = number_line "refused=" number

-- ---- the line for a line

-- what is printed for a line, where packets are read so; a line that is no packet's "prints refused=1"
unfoldable pub line_as : (List ℕ → Outcome) → Option (List ℕ) → List ℕ
line_as reading none = text_of [] (refused 1 0)
line_as reading (some p) = text_of p (reading p)

-- under a sheet
unfoldable pub line_of : Sheet → List ℕ → List ℕ
line_of s line = line_as (read_of s) (packet_in line)

-- the same under the numbers of a sheet that was judged already
unfoldable pub line_by : Numbers → List ℕ → List ℕ
line_by n line = line_as (read_by n) (packet_in line)

-- ---- the line for a refused sheet

-- "A refused sheet prints `sheet=LINE`"
unfoldable pub sheet_line : ℕ → List ℕ
sheet_line line = number_line "sheet=" line

-- ---- at a place of a buffer

-- the room that is asked for before the text is known: ten octets for each of a line and its LF, which are enough (`LineFits` of Claims.antt)
abbrev pub line_room : List ℕ → ℕ
line_room line = 10 * (length line + 1)

-- what is put there: the text, or, where fewer octets than are asked for stand behind the place, nothing
unfoldable pub fitting : ℕ → ℕ → ℕ → List ℕ → List ℕ
fitting asked octets at text = pick (leb asked (octets - at)) text []
