-- What the inner functions say of places and pieces. The public promises rest on this, and nobody need believe it: it is only a step of a proof.
-- Assumes nothing.
use Rattle.std.specs.Prelude.{◌≡◌, ℕ, ◌+◌, List, length}
use Rattle.octets.specs.Buffer.{put_at}
use Rattle.shown.specs.Line.{line_room}
use Rattle.look.specs.declared.Stepped.{Stepped}
use Rattle.look.specs.Steps.{State, in_sheet, in_lines, refused_sheet, Went, look_as}

-- a text was put at a place, and a state is kept
pub record WentTo (w : Went) (out : List ℕ) (at : ℕ) (r : Stepped) (now : List ℕ) : Type 0 where
  pub done : r ≡ record { look = look_as w.to; written = at + length w.text }
  pub put : now ≡ put_at out at w.text

-- the room that what is left at the end asks for
abbrev pub last_room : State → ℕ
last_room (in_sheet t) = 0
last_room (in_lines n line) = line_room line
last_room refused_sheet = 0
