-- Events run one after another, by the event table alone. Assumes nothing.
use Rattle.std.specs.Prelude.{List, [], ◌∷◌, set}
use Rattle.streams.specs.declared.Record.{Record}
use Rattle.streams.specs.declared.Event.{Event}
use Rattle.streams.specs.declared.stream.Rules.{Rules}
use Rattle.streams.specs.Record.{own}
use Rattle.streams.specs.Table.{Ruling, rule_for, Answered}

-- the table's row for an event, on the record of its stream
abbrev pub ruled : Rules → Event → List Record → Ruling
ruled q e rs = rule_for q e.stream (own rs e.stream) e.what

-- the eight records after an event
abbrev pub next : Rules → Event → List Record → List Record
next q e rs = set rs e.stream (ruled q e rs).becomes

-- the eight records after the events
unfoldable pub records_in_turn : Rules → List Event → List Record → List Record
records_in_turn q [] rs = rs
records_in_turn q (e ∷ es) rs = records_in_turn q es (next q e rs)

-- the events with their answers
unfoldable pub answers_in_turn : Rules → List Event → List Record → List Answered
answers_in_turn q [] rs = []
answers_in_turn q (e ∷ es) rs = record { event = e; reply = (ruled q e rs).reply } ∷ answers_in_turn q es (next q e rs)
