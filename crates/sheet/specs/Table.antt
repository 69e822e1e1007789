-- The lines of a call sheet, as a table (document 01, "Call sheet"): "key=value lines in this order, each ended by one LF,
-- no spaces, decimal without leading zeros". A later line with a number is one row more, and a field of the struct. Assumes nothing.
use Rattle.std.specs.Prelude.{ℕ, ◌-◌, Bool, true, false, List, [], ◌∷◌, length, get_or}
use Prim.Native.String.{String}
use Rattle.octets.specs.Text.{ascii}

-- What a line begins with; the least and the greatest number on it; its family, of which no two lines have the same
-- number; whether a User ID follows the number.
pub record Row : Type 0 where
  pub key : List ℕ
  pub least : ℕ
  pub greatest : ℕ
  pub family : ℕ
  pub named : Bool

abbrev pub number_row : String → ℕ → ℕ → ℕ → Row
number_row key least greatest family =
    record { key = ascii key; least = least; greatest = greatest; family = family; named = false }

-- the lines with a number, in order; the five of MCV2 are one family ("the five of MCV2 all different")
unfoldable pub table : List Row
table =
    number_row "server=" 0 4294967295 0
    ∷ number_row "limit=" 1 8 1
    ∷ number_row "request=" 0 15 2
    ∷ number_row "response=" 0 15 3
    ∷ number_row "endrequest=" 0 15 4
    ∷ number_row "endresponse=" 0 15 4
    ∷ number_row "txend=" 0 15 4
    ∷ number_row "txendresponse=" 0 15 4
    ∷ number_row "ack=" 0 15 4
    ∷ number_row "resultid=" 15 191 5
    ∷ number_row "seats=" 1 8 6
    ∷ []

-- every line after those: "that many lines seat=SSRC,USERID (SSRC as server)"; "no two seats share an SSRC"
unfoldable pub seat_row : Row
seat_row = record { key = ascii "seat="; least = 0; greatest = 4294967295; family = 7; named = true }

-- how many lines have a number alone; the last of them says how many seats follow
unfoldable pub number_lines : ℕ
number_lines = length table

unfoldable pub seats_line : ℕ
seats_line = number_lines - 1

-- "seats (1 to 8)"
unfoldable pub most_seats : ℕ
most_seats = 8

-- the row of a line, counted from 0
unfoldable pub row_at : ℕ → Row
row_at k = get_or table k seat_row
