-- What functions say of the line that they look at. The public promise says `LineIs` beside its equation, which alone fixes the answer; what else stands here
-- nobody need believe: it is only a step of a proof. Assumes nothing.
use Rattle.std.specs.Prelude.{◌≡◌, ℕ, ◌+◌, ◌-◌, ◌≤◌, ◌<◌, min, false, Option, Some, None, List, [], length, take, drop, T}
use Rattle.octets.specs.Choice.{pick, begins, front}
use Rattle.sheet.specs.Table.{Row}
use Rattle.sheet.specs.Judge.{visible}
use Rattle.sheet.specs.Inner.{cap}
use Rattle.sheet_line.specs.declared.Line.{Line}
use Rattle.sheet_line.specs.declared.Rest.{Rest}
use Rattle.sheet_line.specs.Line.{tail_of, line_of, entry_in}

-- a name stands from place a up to place e, where its line's LF stands
pub record NameAt (t : List ℕ) (a e : ℕ) (name : List ℕ) : Type 0 where
  pub from : a ≤ e
  pub within : e < length t
  pub octets : take (e - a) (drop a t) ≡ name

-- the User ID behind a number, where the row has one
abbrev pub tail_name : Row → List ℕ → List ℕ
tail_name r s = pick r.named (front visible (drop 1 s)) []

abbrev pub TailIs : List ℕ → ℕ → Row → Option Rest → Type 0
TailIs t at r (Some rest) =
    T (begins (tail_of r (tail_name r (drop at t))) (drop at t))
    × NameAt t rest.name rest.end (tail_name r (drop at t))
    × (rest.end + 1 ≡ at + length (tail_of r (tail_name r (drop at t))))
TailIs t at r None = begins (tail_of r (tail_name r (drop at t))) (drop at t) ≡ false

abbrev pub LineIs : List ℕ → ℕ → Row → Option Line → Type 0
LineIs t at r (Some line) =
    T (begins (line_of r (entry_in r (drop at t))) (drop at t))
    × (line.number ≡ min (entry_in r (drop at t)).number cap)
    × NameAt t line.name line.end (entry_in r (drop at t)).name
    × (line.end + 1 ≡ at + length (line_of r (entry_in r (drop at t))))
LineIs t at r None = begins (line_of r (entry_in r (drop at t))) (drop at t) ≡ false
