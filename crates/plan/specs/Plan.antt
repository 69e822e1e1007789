-- The packet that a message is written as, part by part, before an octet of it is put (document 01, "Packet": "fields, in the order
-- written"), or why there is none ("Refusals": 12, then 5). Assumes nothing.
use Rattle.std.specs.Prelude.{ℕ, ◌+◌, ◌*◌, Bool, true, List, [], ◌∷◌, ◌++◌, take, drop, map, sum_by, Result as Answer, Ok, Err}
use Rattle.std.proofs.Math.Option.{Option, none, some}
use Rattle.octets.specs.Choice.{pick, every}
use Rattle.octets.specs.Big.{big_at, big_of}
use Rattle.octets.specs.Buffer.{padded}
use Rattle.sheet.specs.declared.Refusal.{Refusal}
use Rattle.sheet.specs.declared.Sheet.{Sheet}
use Rattle.sheet.specs.Refusal.{refusal_number, refusal_line}
use Rattle.sheet.specs.Value.{sheet_from}
use Rattle.fields.specs.Walk.{to_word}
use Rattle.fields.specs.Layout.{Content, laid}
use Rattle.packet.specs.declared.Name.{Name}
use Rattle.kinds.specs.declared.kind.Form.{Form}
use Rattle.kinds.specs.declared.kind.Form.TheVariants.{UserId, Number, Cause, Result, MessageType, Barred}
use Rattle.kinds.specs.Kind.{Row, Kind, kinds, numbers_of}
use Rattle.kinds.specs.Judge.{Held, absent, given, named}
use Rattle.kinds.specs.Reading.{Outcome, reads, refused}
use Rattle.packet.specs.Message.{name_said}
use Rattle.packet.specs.Claims.{name_right}
use Rattle.plan.specs.declared.Part.{Part}
use Rattle.plan.specs.declared.Part.TheVariants.{Absent, Word, Named}
use Rattle.plan.specs.declared.Plan.{Plan}
use Rattle.packet.specs.Meaning.{meaning}
use Rattle.plan.specs.Packet.{kind_with, first_octet, with_header, packet_for, fitting}

-- ---- what an answer says

-- The first octet, the letters as one number, the SSRC, and three fields, each of them absent, the number that its word is, or a User ID's
-- place in the octets lent; or a refusal's number and line.
pub data Said : Type 0 where
  plans : ℕ → ℕ → ℕ → List Held → Said
  refuses : ℕ → ℕ → Said

abbrev pub part_said : Part → Held
part_said Absent = absent
part_said (Word w) = given w
part_said (Named n) = name_said n

abbrev pub plan_said : Plan → Said
plan_said p = plans p.start p.letters p.ssrc (map part_said p.parts)

abbrev pub planned_said : Answer Plan Refusal → Said
planned_said (Ok p) = plan_said p
planned_said (Err r) = refuses (refusal_number r) (refusal_line r)

-- ---- the plan of a message

-- the two octets of a number as one; of Message Type "a value octet, a zero octet"
abbrev pub pair_for : Form → ℕ → ℕ
pair_for UserId n = n
pair_for Number n = n
pair_for Cause n = n
pair_for Result n = n
pair_for MessageType n = n * 256
pair_for Barred n = n

-- A row's field for a value: a number is a word, of ID octet, length octet 2 and two octets.
abbrev pub field_for : Row → Held → Held
field_for r absent = absent
field_for r (given n) = given (r.id * 0x1000000 + 0x20000 + pair_for r.form n)
field_for r (named at len) = named at len

-- the fields, "in the order written"
abbrev pub fields_for : List Row → List Held → List Held
fields_for [] values = []
fields_for (r ∷ rows) [] = []
fields_for (r ∷ rows) (v ∷ values) = field_for r v ∷ fields_for rows values

-- of a message of this kind; none has more than three
unfoldable pub plan_as : Kind → ℕ → Bool → List Held → Said
plan_as k ssrc ack values = plans (first_octet ack k.number) (big_at 4 k.letters 0) ssrc (padded 3 absent (fields_for k.rows values))

-- of a message, set out as reading sets it out
unfoldable pub plan_by : Sheet → Outcome → Said
plan_by s (reads kind ssrc ack values) = by (kind_with kind (kinds (numbers_of s)))
  where
    by : Option Kind → Said
    by none = refuses 5 0
    by (some k) = plan_as k ssrc ack values
plan_by s (refused number at) = refuses 5 0

-- 5: "a message to write that no packet reads to"
abbrev pub where_packet : Option (List ℕ) → Said → Said
where_packet none plan = refuses 5 0
where_packet (some p) plan = plan

-- The plan of a message with the octets its names lie in, under a sheet's numbers. Whether a sheet has them is not asked; 12 is given for
-- numbers that go into no packet.
unfoldable pub plan_of : List ℕ → Outcome → List ℕ → Said
plan_of ns message names =
    pick (fitting ns) (where_packet (packet_for (sheet_from ns) (meaning names message)) (plan_by (sheet_from ns) message)) (refuses 12 0)

-- ---- its packet

-- a User ID's field, and the octets at a name's place
abbrev pub user_content : List ℕ → Content
user_content user = record { id = 6; value = user }

abbrev pub name_at : List ℕ → Name → List ℕ
name_at names n = take n.len (drop n.at names)

-- a field laid out
abbrev pub part_octets : List ℕ → Part → List ℕ
part_octets names Absent = []
part_octets names (Word w) = big_of 4 w
part_octets names (Named n) = laid (user_content (name_at names n))

-- all of them, one after another
abbrev pub parts_octets : List ℕ → List Part → List ℕ
parts_octets names [] = []
parts_octets names (part ∷ parts) = part_octets names part ++ parts_octets names parts

abbrev pub plan_octets : List ℕ → Plan → List ℕ
plan_octets names p = parts_octets names p.parts

-- behind their header
unfoldable pub plan_packet : List ℕ → Plan → List ℕ
plan_packet names p = with_header p.start p.ssrc (big_of 4 p.letters) (plan_octets names p)

-- a name's place lies in the octets, and a User ID stands there
abbrev pub part_right : List ℕ → Part → Bool
part_right names Absent = true
part_right names (Word w) = true
part_right names (Named n) = name_right names (name_said n)

abbrev pub plan_right : List ℕ → Plan → Bool
plan_right names p = every (part_right names) p.parts

-- ---- how many octets it takes

-- a field whose value is so long: ID octet, length octet, value, "then padding to the next word"
abbrev pub field_size : ℕ → ℕ
field_size len = to_word (2 + len)

abbrev pub part_size : Part → ℕ
part_size Absent = 0
part_size (Word w) = 4
part_size (Named n) = field_size n.len

abbrev pub plan_size : Plan → ℕ
plan_size p = sum_by part_size p.parts
