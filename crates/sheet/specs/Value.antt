-- The value of a call sheet: the struct and the User IDs beside it (document 01, "Call sheet": "Each user's identity is held
-- at fixed width, eight rows of 60 octets, unused octets zero, unused SSRCs 0"). Assumes nothing.
use Rattle.std.specs.Prelude.{ℕ, ◌+◌, Bool, true, false, not, ◌&&◌, List, [], ◌∷◌, ◌++◌, map, length, get_or, take, drop, eqb}
use Rattle.octets.specs.Choice.{pick, same, front}
use Rattle.octets.specs.Buffer.{padded}
use Rattle.sheet.specs.declared.Sheet.{Sheet}
use Rattle.sheet.specs.Table.{number_lines, most_seats}
use Rattle.sheet.specs.Judge.{Entry, numbers_in, names_in, good_number, longest_name, in_turn, valid, whole}

-- ---- the entries laid out as a value

-- the struct with number n k on line k
unfoldable pub sheet_by : (ℕ → ℕ) → List ℕ → Sheet
sheet_by n ssrcs =
    record {
      server = n 0;
      limit = n 1;
      request = n 2;
      response = n 3;
      endrequest = n 4;
      endresponse = n 5;
      txend = n 6;
      txendresponse = n 7;
      ack = n 8;
      resultid = n 9;
      seats = n 10;
      ssrcs = ssrcs;
    }

-- the numbers in the order of the lines, those of the seats the SSRCs
unfoldable pub sheet_from : List ℕ → Sheet
sheet_from ns = sheet_by (λ (k : ℕ). get_or ns k 0) (padded most_seats 0 (drop number_lines ns))

-- The same of numbers that are lent to a call: as many as a sheet has with eight seats. Any other count stands for no sheet, as zeros do.
unfoldable pub sheet_in : List ℕ → Sheet
sheet_in ns = sheet_from (pick (eqb (length ns) (number_lines + most_seats)) ns [])

unfoldable pub sheet_of : List Entry → Sheet
sheet_of es = sheet_from (numbers_in es)

-- a User ID at fixed width
unfoldable pub row_of : List ℕ → List ℕ
row_of name = padded longest_name 0 name

-- "eight rows of 60 octets, unused octets zero"
unfoldable pub users_of : List Entry → List (List ℕ)
users_of es = padded most_seats (row_of []) (map row_of (drop number_lines (names_in es)))

-- ---- the entries that a value stands for

-- the numbers in the order of the lines
unfoldable pub numbers_of : Sheet → List ℕ
numbers_of s =
    s.server
    ∷ s.limit
    ∷ s.request
    ∷ s.response
    ∷ s.endrequest
    ∷ s.endresponse
    ∷ s.txend
    ∷ s.txendresponse
    ∷ s.ack
    ∷ s.resultid
    ∷ s.seats
    ∷ []

-- the User ID in a row: what stands before its first zero
unfoldable pub name_of : List ℕ → List ℕ
name_of row = front (λ (c : ℕ). not (eqb c 0)) row

-- a line with a number alone
abbrev pub alone : ℕ → Entry
alone n = record { number = n; name = [] }

-- a seat for each SSRC and its row
unfoldable pub seat_entries : List ℕ → List (List ℕ) → List Entry
seat_entries [] users = []
seat_entries (n ∷ ns) [] = []
seat_entries (n ∷ ns) (row ∷ users) = record { number = n; name = name_of row } ∷ seat_entries ns users

unfoldable pub entries_of : Sheet → List (List ℕ) → List Entry
entries_of s users = map alone (numbers_of s) ++ seat_entries (take s.seats s.ssrcs) users

-- ---- which values are a sheet's

unfoldable pub same_rows : List (List ℕ) → List (List ℕ) → Bool
same_rows [] [] = true
same_rows [] (y ∷ ys) = false
same_rows (x ∷ xs) [] = false
same_rows (x ∷ xs) (y ∷ ys) = same x y && same_rows xs ys

-- the entries that it stands for are a sheet's, and laid out they are the value itself: nothing stands in unused places
unfoldable pub valid_with : Sheet → List (List ℕ) → Bool
valid_with s users =
    let es = entries_of s users in
    valid es && (same s.ssrcs (sheet_of es).ssrcs && same_rows users (users_of es))

-- the same of the numbers and the SSRCs, whatever the User IDs are
unfoldable pub valid_alone : Sheet → Bool
valid_alone s =
    let ns = numbers_of s ++ take s.seats s.ssrcs in
    in_turn good_number [] ns && (whole ns && same s.ssrcs (sheet_from ns).ssrcs)
