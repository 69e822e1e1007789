-- The seven messages and the fields of each, as a table (document 01, "Packet"; sources 002 and 004). Assumes nothing.
use Rattle.std.specs.Prelude.{ℕ, Bool, true, false, not, ◌&&◌, ◌||◌, List, [], ◌∷◌, map, eqb}
use Prim.Native.String.{String}
use Rattle.std.proofs.Math.Option.{Option}
use Rattle.octets.specs.Choice.{pick, same, first_by}
use Rattle.octets.specs.Text.{ascii}
use Rattle.sheet.specs.declared.Sheet.{Sheet}
use Rattle.fields.specs.Header.{letters_in, number_in}
use Rattle.kinds.specs.declared.Numbers.{Numbers}
use Rattle.kinds.specs.declared.kind.Form.{Form}
use Rattle.kinds.specs.declared.kind.Form.TheVariants.{UserId, Number, Cause, Result, MessageType, Barred}
use Rattle.kinds.specs.declared.kind.Slot.{Slot}

-- "Brackets: may be absent, never twice. All other fields must be there once"; and "Reject Cause exactly if Result is 0", which
-- is to say unless it is 1, the Result of a grant
pub data Need : Type 0 where
  always : Need
  maybe : Need
  unless_granted : Need

-- a field that a message has: its ID, the form of its value, and whether it must be there
pub record Row : Type 0 where
  pub id : ℕ
  pub form : Form
  pub need : Need

-- a kind of message: its number in document 01's table, the letters and the number that name it, and its fields, in the order written
pub record Kind : Type 0 where
  pub kind : ℕ
  pub letters : List ℕ
  pub number : ℕ
  pub rows : List Row

abbrev pub row : ℕ → Form → Need → Row
row id form need = record { id = id; form = form; need = need }

-- "User ID (6)"; the Source ID is coded alike (house)
abbrev pub user : Row
user = row 6 UserId always

-- "[Indicator]", "Indicator (13)"
abbrev pub indicator : Row
indicator = row 13 Number maybe

abbrev pub kind_row : ℕ → String → ℕ → List Row → Kind
kind_row kind letters number rows = record { kind = kind; letters = ascii letters; number = number; rows = rows }

-- document 01's table; the numbers and the Result's ID are the sheet's
unfoldable pub kinds : Numbers → List Kind
kinds n =
    kind_row 1 "MCV0" n.request (user ∷ user ∷ indicator ∷ [])
    ∷ kind_row 2 "MCV1" n.response (row n.resultid Result always ∷ row 2 Cause unless_granted ∷ indicator ∷ [])
    ∷ kind_row 3 "MCV2" n.endrequest (user ∷ indicator ∷ [])
    ∷ kind_row 4 "MCV2" n.endresponse (user ∷ [])
    ∷ kind_row 5 "MCV2" n.txend (row 2 Cause always ∷ indicator ∷ [])
    ∷ kind_row 6 "MCV2" n.txendresponse []
    ∷ kind_row 7 "MCV2" n.ack (row 10 Number always ∷ row 12 MessageType always ∷ [])
    ∷ []

-- the packet has this kind's letters and number
unfoldable pub has_kind : List ℕ → Kind → Bool
has_kind p k = same (letters_in p) k.letters && eqb (number_in p) k.number

-- the first of the kinds that the packet has
unfoldable pub kind_of : Numbers → List ℕ → Option Kind
kind_of n p = first_by (has_kind p) (kinds n)

-- A kind's slots for its fields, once it is known whether the packet's Result is 1: "beside Result 1 a Reject Cause is refused",
-- so that nothing fits there, and else it must be there.
unfoldable pub settled : Bool → Row → Slot
settled granted r = at r.need
  where
    at : Need → Slot
    at always = record { id = r.id; form = r.form; must = true }
    at maybe = record { id = r.id; form = r.form; must = false }
    at unless_granted = pick granted (record { id = r.id; form = Barred; must = false }) (record { id = r.id; form = r.form; must = true })

unfoldable pub slots_of : Bool → Kind → List Slot
slots_of granted k = map (settled granted) k.rows

-- ---- what a row allows, where the message's Result is 1 and where it is not

-- "may be absent"; "exactly if Result is 0"
unfoldable pub may_lack : Bool → Need → Bool
may_lack grant always = false
may_lack grant maybe = true
may_lack grant unless_granted = grant

unfoldable pub may_have : Bool → Need → Bool
may_have grant always = true
may_have grant maybe = true
may_have grant unless_granted = not grant

unfoldable pub is_result : Form → Bool
is_result UserId = false
is_result Number = false
is_result Cause = false
is_result Result = true
is_result MessageType = false
is_result Barred = false

-- the Result of a message with these values is 1; the test says which value is
unfoldable pub grants : {A : Type 0} → (A → Bool) → List Row → List A → Bool
grants one [] values = false
grants one (r ∷ rows) [] = false
grants one (r ∷ rows) (v ∷ values) = (is_result r.form && one v) || grants one rows values

-- what the reader looks at of a sheet
unfoldable pub numbers_of : Sheet → Numbers
numbers_of s =
    record {
      request = s.request;
      response = s.response;
      endrequest = s.endrequest;
      endresponse = s.endresponse;
      txend = s.txend;
      txendresponse = s.txendresponse;
      ack = s.ack;
      resultid = s.resultid;
    }
