-- What `mcvlook` prints piece by piece: what is kept between two pieces of the input, and what each piece prints. That any pieces print what
-- `look_of` says of the whole is claimed in Claims.antt, so that of this page a reader need believe no more than the claims name: `room_asked`,
-- `is_refused` and `state_of`. Assumes nothing.
use Rattle.std.specs.Prelude.{ℕ, ◌+◌, ◌*◌, Bool, true, false, List, [], ◌++◌, length, drop, leb, ltb, Result, Ok, Err}
use Rattle.octets.specs.Choice.{pick}
use Rattle.octets.specs.Buffer.{over}
use Rattle.sheet.specs.declared.Refusal.{Refusal}
use Rattle.sheet.specs.declared.Refusal.TheVariants.{NoRoom}
use Rattle.sheet.specs.Refusal.{refusal_line}
use Rattle.sheet_text.specs.declared.Reading.{Reading}
use Rattle.sheet_text.specs.Reading.{read_of}
use Rattle.kinds.specs.declared.Numbers.{Numbers}
use Rattle.kinds.specs.Kind.{numbers_of}
use Rattle.shown.specs.Line.{sheet_line}
use Rattle.lines.specs.Pieces.{left_from, lines_text, last_line, most_held, kept_of, held_in, held_of}
use Rattle.look.specs.declared.Look.{Look}
use Rattle.look.specs.declared.Look.TheVariants.{Sheet, Lines, Refused}
use Rattle.look.specs.declared.Stepped.{Stepped}

-- ---- what is kept

-- the text so far, of which the sheet is not yet read; or a sheet's numbers and the line so far; or, where the sheet was refused, nothing
pub data State : Type 0 where
  in_sheet : List ℕ → State
  in_lines : Numbers → List ℕ → State
  refused_sheet : State

-- ---- what is printed

-- a state, and the text on the way to it
pub record Went : Type 0 where
  pub to : State
  pub text : List ℕ

-- the lines that end in a piece are printed
unfoldable pub fed : Numbers → List ℕ → List ℕ → Went
fed n line piece =
    record { to = in_lines n (kept_of (left_from line piece)); text = lines_text n line piece }

-- the sheet is read from the text so far, and what stands behind it is lines
unfoldable pub decided_by : List ℕ → Result Reading Refusal → Went
decided_by t (Ok r) = fed (numbers_of r.sheet) [] (drop r.used t)
decided_by t (Err refusal) = record { to = refused_sheet; text = sheet_line (refusal_line refusal) }

unfoldable pub decided : List ℕ → Went
decided t = decided_by t (read_of t)

unfoldable pub step_of : State → List ℕ → Went
step_of (in_sheet t) piece =
    pick (ltb (length t + length piece) most_held) (record { to = in_sheet (t ++ piece); text = [] }) (decided (t ++ piece))
step_of (in_lines n line) piece = fed n line piece
step_of refused_sheet piece = record { to = refused_sheet; text = [] }

-- the last line, where one is begun
unfoldable pub last_text : State → List ℕ
last_text (in_sheet t) = []
last_text (in_lines n line) = last_line n line
last_text refused_sheet = []

-- at the end of the input; a sheet that was not decided is now
unfoldable pub end_of : State → List ℕ
end_of (in_sheet t) = let w = decided t in w.text ++ last_text w.to
end_of (in_lines n line) = last_text (in_lines n line)
end_of refused_sheet = []

-- the sheet was refused: "and nothing more"
unfoldable pub is_refused : State → Bool
is_refused (in_sheet t) = false
is_refused (in_lines n line) = false
is_refused refused_sheet = true

-- ---- the value that keeps it

unfoldable pub state_of : Look → State
state_of (Sheet held) = in_sheet (held_in held)
state_of (Lines n held) = in_lines n (held_in held)
state_of Refused = refused_sheet

unfoldable pub look_as : State → Look
look_as (in_sheet t) = Sheet (held_of t)
look_as (in_lines n line) = Lines n (held_of line)
look_as refused_sheet = Refused

-- ---- room

-- 11, "output shorter than the packet", is asked beforehand: no octet of the input makes more than ten of the output
abbrev pub room_asked : ℕ → ℕ
room_asked octets = 10 * (octets + (most_held + 1))

unfoldable pub has_room : List ℕ → List ℕ → Bool
has_room piece out = leb (room_asked (length piece)) (length out)

-- a piece is taken whole, or, where there is no room, not at all
unfoldable pub stepped_of : Look → List ℕ → List ℕ → Result Stepped Refusal
stepped_of look piece out =
    let w = step_of (state_of look) piece in
    pick (has_room piece out) (Ok (record { look = look_as w.to; written = length w.text })) (Err NoRoom)

unfoldable pub after_step : Look → List ℕ → List ℕ → List ℕ
after_step look piece out = pick (has_room piece out) (over (step_of (state_of look) piece).text out) out
