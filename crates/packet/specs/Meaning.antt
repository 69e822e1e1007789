-- What a message says, with the octets its names lie in: its kind, its numbers, and each name as octets, wherever they lie. Two messages are
-- the same if they mean the same (document 01, "Packet": "A packet that reads well and is written again"). Assumes nothing.
use Rattle.std.specs.Prelude.{ℕ, ◌+◌, Bool, List, [], map, length, take, drop, leb}
use Rattle.std.proofs.Math.Option.{Option, none, some}
use Rattle.octets.specs.Choice.{pick}
use Rattle.kinds.specs.Judge.{Held, absent, given, named}
use Rattle.kinds.specs.Reading.{Outcome, reads, refused}

-- a value: nothing where the field is absent, a number, a name, or a name whose place is not in the octets
pub data Value : Type 0 where
  nothing : Value
  numeral : ℕ → Value
  spelt : List ℕ → Value
  nowhere : Value

unfoldable pub value_in : List ℕ → Held → Value
value_in octets absent = nothing
value_in octets (given n) = numeral n
value_in octets (named at len) = pick (leb (at + len) (length octets)) (spelt (take len (drop at octets))) nowhere

-- the name that a value is, and the number
abbrev pub name_held : Value → List ℕ
name_held nothing = []
name_held (numeral n) = []
name_held (spelt xs) = xs
name_held nowhere = []

abbrev pub number_held : Value → ℕ
number_held nothing = 0
number_held (numeral n) = n
number_held (spelt xs) = 0
number_held nowhere = 0

-- a kind, the SSRC, whether an Ack is asked, and the values in the order of the kind's fields
pub record Meaning : Type 0 where
  pub kind : ℕ
  pub ssrc : ℕ
  pub ack : Bool
  pub values : List Value

-- the meaning of a message, one that was read or one to be written; a refusal has none
unfoldable pub meaning : List ℕ → Outcome → Option Meaning
meaning octets (reads kind ssrc ack values) =
    some (record { kind = kind; ssrc = ssrc; ack = ack; values = map (value_in octets) values })
meaning octets (refused number at) = none
