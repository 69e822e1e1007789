-- A message as a row of twelve numbers: kind, SSRC, Ack asked, User ID's place and length, named transmitter's place and length, Result, cause, Indicator,
-- Source, Message Type, as include/coyametzi.h sets them out (document 01, "Bench program": "ten values in order"; a name has two numbers). What is handed in
-- stands for the kind and the values whose row it is, and for no message if it is no such row. Assumes nothing.
use Rattle.std.specs.Prelude.{ℕ, ◌+◌, Bool, List, [], ◌∷◌, map, get_or, set, eqb, ltb}
use Rattle.octets.specs.Choice.{pick, same}
use Rattle.packet.specs.declared.Message.{Message}
use Rattle.kinds.specs.Judge.{Held, absent, given, named}
use Rattle.kinds.specs.Reading.{Outcome, reads, refused}
use Rattle.packet.specs.Message.{message_said}

-- MCV_NONE, where there is no number
abbrev pub no_number : ℕ
no_number = 4294967295

-- 1 for yes
abbrev pub flag : Bool → ℕ
flag b = pick b 1 0

-- at which number of the row each field of a kind stands, in the order of the kind's table; a name takes two
unfoldable pub columns : ℕ → List ℕ
columns kind =
    get_or
    ([]
    ∷ (3 ∷ 5 ∷ 9 ∷ [])
    ∷ (7 ∷ 8 ∷ 9 ∷ [])
    ∷ (5 ∷ 9 ∷ [])
    ∷ (5 ∷ [])
    ∷ (8 ∷ 9 ∷ [])
    ∷ []
    ∷ (10 ∷ 11 ∷ [])
    ∷ [])
    kind
    []

-- where the names end and the numbers begin
abbrev pub first_number : ℕ
first_number = 7

-- a message with no field: 0 and 0 for a name, MCV_NONE for a number
abbrev pub blank : ℕ → ℕ → Bool → List ℕ
blank kind ssrc ack =
    kind ∷ ssrc ∷ flag ack ∷ 0 ∷ 0 ∷ 0 ∷ 0 ∷ no_number ∷ no_number ∷ no_number ∷ no_number ∷ no_number ∷ []

unfoldable pub with_held : ℕ → Held → List ℕ → List ℕ
with_held k absent row = row
with_held k (given n) row = set row k n
with_held k (named at len) row = set (set row k at) (k + 1) len

unfoldable pub with_all : List ℕ → List Held → List ℕ → List ℕ
with_all [] values row = row
with_all (k ∷ ks) [] row = row
with_all (k ∷ ks) (v ∷ values) row = with_all ks values (with_held k v row)

-- the row of a message, set out as reading sets it out; a refusal is no message
unfoldable pub message_row : Outcome → List ℕ
message_row (reads kind ssrc ack values) = with_all (columns kind) values (blank kind ssrc ack)
message_row (refused number at) = []

abbrev pub row_for : Message → List ℕ
row_for m = message_row (message_said m)

-- what stands in a row from a place on: a name or a number
unfoldable pub held_in : List ℕ → ℕ → Held
held_in row k =
    let n = get_or row k 0 in
    pick (ltb k first_number) (named n (get_or row (k + 1) 0)) (pick (eqb n no_number) absent (given n))

-- the message that its numbers make
unfoldable pub numbers_say : List ℕ → Outcome
numbers_say row =
    let kind = get_or row 0 0 in
    reads kind (get_or row 1 0) (eqb (get_or row 2 0) 1) (map (held_in row) (columns kind))

-- The message that a row stands for: the row has to be that of its kind and values, with nothing where the kind has nothing. Any other is no message, which is
-- to say a refusal. Whether there is such a kind, and whether some packet reads to these values, is the writer's to say.
unfoldable pub message_in : List ℕ → Outcome
message_in row = pick (same (message_row (numbers_say row)) row) (numbers_say row) (refused 5 0)
