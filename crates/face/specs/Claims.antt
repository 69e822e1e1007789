-- What is claimed beyond the calls: a row stands for a sheet or a message exactly if it is its row, as rows claims it of the other values, so that what one call
-- gives another takes as the same; and where a store writes. Each has its proof under proofs/. Assumes nothing.
use Rattle.std.specs.Prelude.{◌≡◌, ◌↔◌, ℕ, ◌+◌, ◌*◌, true, List, get_or, set, drop}
use Rattle.std.proofs.Math.Option.{some}
use Rattle.sheet.specs.declared.Sheet.{Sheet}
use Rattle.sheet.specs.Value.{sheet_in, valid_with}
use Rattle.sheet_text.specs.declared.Reading.{Reading}
use Rattle.sheet_text.specs.Reading.{users_in}
use Rattle.kinds.specs.Reading.{Outcome}
use Rattle.packet.specs.Meaning.{meaning}
use Rattle.packet.specs.Row.{message_row, message_in}
use Rattle.plan.specs.Packet.{packet_for}
use Rattle.reception.specs.Steps.{gives}
use Rattle.rows.specs.Rows.{sheet_row}
use Rattle.face.specs.Calls.{Stored, sheet_says, store_says}

-- of a sheet that was read, the numbers are the sheet's and go with the User IDs
abbrev pub SheetsStand : Type 0
SheetsStand = (text : List ℕ) (x : Reading) → sheet_says text ≡ gives x → (sheet_in (sheet_row x) ≡ x.sheet) × (valid_with x.sheet (users_in text) ≡ true)

-- of a message that has a packet
abbrev pub MessagesStand : Type 0
MessagesStand = (s : Sheet) (names p : List ℕ) (o : Outcome) → packet_for s (meaning names o) ≡ some p → (row : List ℕ) → (message_in row ≡ o) ↔ (message_row o ≡ row)

-- A store that took answers with the last six numbers of the attempt, and leaves the wanted record in the stream's own two octets and every other octet as it was.
abbrev pub StoresInPlace : Type 0
StoresInPlace =
    (sheet attempt records : List ℕ) (s : Stored)
    → store_says sheet attempt records ≡ gives s
    → let at : ℕ → ℕ = λ k. get_or attempt k 0 in
    (s.answer ≡ drop 5 attempt) × (s.records ≡ set (set records (2 * at 0) (at 3)) (2 * at 0 + 1) (at 4))
