-- The value that is made of a row. An event and an attempt have numbers of 8 bits: a row with a wider one stands for a value that is on no sheet, and nothing is
-- made of it (docs/DECISIONS.md, 72: a number "is refused and never cut"). Assumes nothing.
use Rattle.std.specs.Prelude.{ℕ, Bool, List, [], ◌∷◌, get_or, ltb, Option as Given, Some, None}
use Rattle.std.proofs.Math.Option.{Option, none, some}
use Rattle.octets.specs.Choice.{pick, every}
use Rattle.streams.specs.declared.Record.{Record}
use Rattle.streams.specs.declared.Event.{Event}
use Rattle.reception.specs.declared.Attempt.{Attempt}
use Rattle.reception.specs.Steps.{Try, attempt_said}
use Rattle.rows.specs.Rows.{event_in, try_in}

-- what there is, or not, as the code gives it
abbrev pub given : {A : Type 0} → Option A → Given A
given none = None
given (some x) = Some x

-- ---- events and attempts

-- the numbers at these places fit an octet
unfoldable pub octets_at : List ℕ → List ℕ → Bool
octets_at places row = every (λ (k : ℕ). ltb (get_or row k 0) 256) places

-- stream and sender do
unfoldable pub event_held : List ℕ → Option Event
event_held row = pick (octets_at (1 ∷ 2 ∷ []) row) (event_in row) none

-- the stream and the receivers of the two records do
unfoldable pub try_held : List ℕ → Option Try
try_held row = pick (octets_at (0 ∷ 2 ∷ 4 ∷ []) row) (try_in row) none

abbrev pub trying_said : Given Attempt → Option Try
trying_said None = none
trying_said (Some a) = some (attempt_said a)

-- ---- a record

abbrev pub recording_said : Given Record → Option (List Record)
recording_said None = none
recording_said (Some x) = some (x ∷ [])
