-- The stream record (document 01, "Stream record"): "A phase and a byte of receivers, bit r for seat r". The event
-- table makes, counts, compares and judges records by the definitions of this file alone; the derived `==` of the code is
-- `same_record` (`same-said` of proofs/Laws/Records). Assumes nothing.
use Rattle.std.specs.Prelude.{ℕ, ◌+◌, ◌-◌, ◌/◌, ◌%◌, ◌^◌, Bool, not, ◌&&◌, List, [], ◌∷◌, get_or, replicate, Result, Ok, Err, eqb, leb, ltb}
use Rattle.std.specs.Int.Count.{ones}
use Rattle.octets.specs.Choice.{pick}
use Rattle.sheet.specs.declared.Sheet.{Sheet}
use Rattle.sheet.specs.Table.{most_seats}
use Rattle.streams.specs.declared.Phase.{Phase}
use Rattle.streams.specs.declared.Phase.TheVariants.{Free, Idle, Watched, Ending}
use Rattle.streams.specs.declared.Record.{Record}
use Rattle.streams.specs.declared.stream.Rules.{Rules}

-- ---- what the rules look at on a sheet

abbrev pub rules_of : Sheet → Rules
rules_of s = record { limit = s.limit; seats = s.seats }

-- "Seats count from 0"
abbrev pub on_sheet : Rules → ℕ → Bool
on_sheet q r = ltb r q.seats

-- ---- the byte of receivers

-- bit r of a byte is set: seat r is watching
unfoldable pub watches : ℕ → ℕ → Bool
watches b r = eqb (b / 2 ^ r % 2) 1

-- "set the bit"
unfoldable pub set_bit : ℕ → ℕ → ℕ
set_bit b r = pick (watches b r) b (b + 2 ^ r)

-- "clear it"
unfoldable pub clear_bit : ℕ → ℕ → ℕ
clear_bit b r = pick (watches b r) (b - 2 ^ r) b

-- ---- one maker for each phase

abbrev pub free : Record
free = record { phase = Free; receivers = 0 }

abbrev pub idle : Record
idle = record { phase = Idle; receivers = 0 }

abbrev pub watched : ℕ → Record
watched b = record { phase = Watched; receivers = b }

abbrev pub ending : Record
ending = record { phase = Ending; receivers = 0 }

-- ---- counted

-- "C11, the count, is the number of ones"
unfoldable pub count : Record → ℕ
count x = ones x.receivers

-- ---- compared

abbrev pub phase_number : Phase → ℕ
phase_number Free = 0
phase_number Idle = 1
phase_number Watched = 2
phase_number Ending = 3

abbrev pub phase_of : ℕ → Result Phase Unit
phase_of n = get_or (Ok Free ∷ Ok Idle ∷ Ok Watched ∷ Ok Ending ∷ []) n (Err tt)

-- the record is in the phase
abbrev pub is : Phase → Record → Bool
is p x = eqb (phase_number x.phase) (phase_number p)

unfoldable pub same_record : Record → Record → Bool
same_record x y = is y.phase x && eqb x.receivers y.receivers

-- ---- judged

-- "a byte that is not 0, no own bit, no bit of a seat not on the sheet, at most limit bits"
unfoldable pub good_receivers : Rules → ℕ → Record → Bool
good_receivers q s x =
    let b = x.receivers in
    not (eqb b 0) && (not (watches b s) && (ltb b (2 ^ q.seats) && leb (count x) q.limit))

-- "Free, Idle and Ending have byte 0": each is the one record of its phase
unfoldable pub legal_in : Phase → Rules → ℕ → Record → Bool
legal_in Free q s x = same_record x free
legal_in Idle q s x = same_record x idle
legal_in Watched q s x = good_receivers q s x
legal_in Ending q s x = same_record x ending

-- a record that is legal for stream s
unfoldable pub legal : Rules → ℕ → Record → Bool
legal q s x = legal_in x.phase q s x

-- ---- the eight records

-- the record of stream s
abbrev pub own : List Record → ℕ → Record
own rs s = get_or rs s free

-- a seat on the sheet has a legal one, and every other is Free
abbrev pub legal_at : Rules → List Record → ℕ → Bool
legal_at q rs k = pick (on_sheet q k) (legal q k (own rs k)) (same_record (own rs k) free)

-- all streams free
abbrev pub all_free : List Record
all_free = replicate most_seats free
