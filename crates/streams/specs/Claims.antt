-- What is claimed of records and of the event table beyond the functions. Each has its proof under proofs/. Assumes nothing.
use Rattle.std.specs.Prelude.{◌≡◌, ◌↔◌, ℕ, ◌^◌, ◌<◌, ◌≤◌, not, ◌&&◌, ◌||◌, T, eqb, ltb}
use Rattle.sheet.specs.Table.{most_seats}
use Rattle.streams.specs.declared.Record.{Record}
use Rattle.streams.specs.declared.What.{What}
use Rattle.streams.specs.declared.stream.Rules.{Rules}
use Rattle.streams.specs.Record.{watches, set_bit, clear_bit, same_record}
use Rattle.streams.specs.Answer.{granted, grant}
use Rattle.streams.specs.Table.{rule_for, sender_on, change_for}

-- ---- records

-- To set a bit sets that bit alone, and to clear one clears that one alone.
abbrev pub SetsOne : Type 0
SetsOne = (b r p : ℕ) → watches (set_bit b r) p ≡ (eqb p r || watches b p)

abbrev pub ClearsOne : Type 0
ClearsOne = (b r p : ℕ) → watches (clear_bit b r) p ≡ (watches b p && not (eqb p r))

-- "no bit of a seat not on the sheet": a byte is below 2 ^ n exactly if each seat that watches is one of n
abbrev pub OnSheetExactly : Type 0
OnSheetExactly = (n b : ℕ) → T (ltb b (2 ^ n)) ↔ ((r : ℕ) → T (watches b r) → r < n)

-- Two records are the same exactly if they are equal.
abbrev pub SameExactly : Type 0
SameExactly = (x y : Record) → T (same_record x y) ↔ (x ≡ y)

-- ---- the table

-- A grant is answered exactly where a granted response is sent.
abbrev pub GrantedExactly : Type 0
GrantedExactly = (q : Rules) (s : ℕ) (x : Record) (w : What) → ((rule_for q s x w).reply.done ≡ granted) ↔ ((rule_for q s x w).reply.sends ≡ grant)

-- What the code makes of an event whose sender is on a sheet, which has at most eight seats, is the table's row.
abbrev pub ChangesByTable : Type 0
ChangesByTable = (q : Rules) (s : ℕ) (x : Record) (w : What) → T (sender_on q w) → q.seats ≤ most_seats → change_for q s x w ≡ rule_for q s x w
