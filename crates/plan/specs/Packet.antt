-- The packet of a meaning (document 01, "Packet": "fields, in the order written"; RFC 3550, 6.7; TS 24.581, 9.1.3 and 9.2), where it has
-- one. Assumes nothing.
use Rattle.std.specs.Prelude.{ℕ, ◌+◌, ◌-◌, ◌*◌, ◌/◌, ◌^◌, Bool, true, false, ◌&&◌, List, [], ◌∷◌, ◌++◌, length, leb, ltb, eqb}
use Rattle.std.proofs.Math.Option.{Option, none, some}
use Rattle.octets.specs.Choice.{pick, every, first_by}
use Rattle.octets.specs.Big.{big_of}
use Rattle.sheet.specs.declared.Sheet.{Sheet}
use Rattle.sheet.specs.Table.{number_lines, most_seats}
use Rattle.sheet.specs.Value.{sheet_from}
use Rattle.sheet.specs.Judge.{user_id}
use Rattle.fields.specs.Header.{first_field, word}
use Rattle.fields.specs.Layout.{Content, laid_all}
use Rattle.kinds.specs.declared.Numbers.{Numbers}
use Rattle.kinds.specs.declared.kind.Form.{Form}
use Rattle.kinds.specs.declared.kind.Form.TheVariants.{UserId, Number, Cause, Result, MessageType, Barred}
use Rattle.kinds.specs.Kind.{Row, Kind, kinds, may_lack, may_have, grants, numbers_of}
use Rattle.packet.specs.Meaning.{Value, nothing, numeral, spelt, nowhere, name_held, number_held, Meaning}

-- ---- which values a kind takes

-- a name of which the test holds; a number of which it does
abbrev pub is_name : (List ℕ → Bool) → Value → Bool
is_name test nothing = false
is_name test (numeral n) = false
is_name test (spelt xs) = test xs
is_name test nowhere = false

abbrev pub is_number : (ℕ → Bool) → Value → Bool
is_number test nothing = false
is_number test (numeral n) = test n
is_number test (spelt xs) = false
is_number test nowhere = false

-- a number that goes into so many octets
abbrev pub within : ℕ → ℕ → Bool
within octets n = ltb n (256 ^ octets)

-- "User ID (6): 1 to 60 octets, each 0x21 to 0x7E. Indicator (13), Source (10): length 2, any 16-bit number. Reject Cause (2): ..
-- a 16-bit cause .. Result (ID from the sheet): length 2, 16-bit, 0 or 1. Message Type (12): length 2, a value octet, a zero octet"
unfoldable pub holds : Form → Value → Bool
holds UserId v = is_name user_id v
holds Number v = is_number (within 2) v
holds Cause v = is_number (within 2) v
holds Result v = is_number (λ (n : ℕ). leb n 1) v
holds MessageType v = is_number (within 1) v
holds Barred v = false

-- the value of a field that is absent
unfoldable pub is_nothing : Value → Bool
is_nothing nothing = true
is_nothing (numeral n) = false
is_nothing (spelt xs) = false
is_nothing nowhere = false

-- "Brackets: may be absent .. All other fields must be there once"; "Reject Cause exactly if Result is 0"
unfoldable pub takes : Bool → Row → Value → Bool
takes grant r v = pick (is_nothing v) (may_lack grant r.need) (may_have grant r.need && holds r.form v)

-- row by row, in the order written
unfoldable pub takes_all : Bool → List Row → List Value → Bool
takes_all grant [] [] = true
takes_all grant [] (v ∷ values) = false
takes_all grant (r ∷ rows) [] = false
takes_all grant (r ∷ rows) (v ∷ values) = takes grant r v && takes_all grant rows values

-- a Result that is 1
unfoldable pub is_one : Value → Bool
is_one v = is_number (λ (n : ℕ). eqb n 1) v

-- a meaning of this kind that some packet reads to
unfoldable pub writable : Kind → Meaning → Bool
writable k m = within 4 m.ssrc && takes_all (grants is_one k.rows m.values) k.rows m.values

-- ---- its octets

-- "a 16-bit cause, then a phrase that is skipped; none is written"; "a value octet, a zero octet"
unfoldable pub octets_for : Form → Value → List ℕ
octets_for UserId v = name_held v
octets_for Number v = big_of 2 (number_held v)
octets_for Cause v = big_of 2 (number_held v)
octets_for Result v = big_of 2 (number_held v)
octets_for MessageType v = number_held v ∷ 0 ∷ []
octets_for Barred v = []

-- the fields, "in the order written", without those that are absent
unfoldable pub contents_for : List Row → List Value → List Content
contents_for [] values = []
contents_for (r ∷ rows) [] = []
contents_for (r ∷ rows) (v ∷ values) =
    pick (is_nothing v) (contents_for rows values) (record { id = r.id; value = octets_for r.form v } ∷ contents_for rows values)

-- "First octet: version 2 (two bits), padding bit 0, subtype (five bits)"; "The first bit of the subtype asks for an Ack; the other
-- four are the message's number from the sheet"
unfoldable pub first_octet : Bool → ℕ → ℕ
first_octet ack number = 2 * 64 + pick ack 16 0 + number

-- "Second: 204. Then a 16-bit length, words minus one .. Then the SSRC, then four ASCII letters"
unfoldable pub header : ℕ → ℕ → ℕ → List ℕ → List ℕ
header first size ssrc letters = (first ∷ 204 ∷ big_of 2 (size / word - 1)) ++ (big_of 4 ssrc ++ letters)

-- "Fields follow"
unfoldable pub with_header : ℕ → ℕ → List ℕ → List ℕ → List ℕ
with_header first ssrc letters fields = header first (first_field + length fields) ssrc letters ++ fields

-- the packet of a meaning of this kind
unfoldable pub packet_as : Kind → Meaning → List ℕ
packet_as k m = with_header (first_octet m.ack k.number) m.ssrc k.letters (laid_all (contents_for k.rows m.values))

-- ---- the kind that the meaning has

-- by its number in document 01's table
unfoldable pub kind_with : ℕ → List Kind → Option Kind
kind_with kind ks = first_by (λ (k : Kind). eqb k.kind kind) ks

-- the packet of a meaning, where it has one
unfoldable pub packet_of : Numbers → Meaning → Option (List ℕ)
packet_of n m = by (kind_with m.kind (kinds n))
  where
    by : Option Kind → Option (List ℕ)
    by none = none
    by (some k) = pick (writable k m) (some (packet_as k m)) none

-- the packet of a meaning under a sheet, where there is one
unfoldable pub packet_for : Sheet → Option Meaning → Option (List ℕ)
packet_for s none = none
packet_for s (some m) = packet_of (numbers_of s) m

-- ---- the numbers

-- The numbers go into their places in a packet: "the other four are the message's number", "An ID of 192 or more is refused".
unfoldable pub fits : Numbers → Bool
fits n = every (λ (k : Kind). ltb k.number 16 && every (λ (r : Row). ltb r.id 192) k.rows) (kinds n)

-- as many as a sheet has, and of these it holds
unfoldable pub fitting : List ℕ → Bool
fitting ns = eqb (length ns) (number_lines + most_seats) && fits (numbers_of (sheet_from ns))
