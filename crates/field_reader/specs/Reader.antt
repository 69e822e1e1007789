-- The reader that remembers its packet and its place (document 01, "Packet"): it "hands out one field at a time, made only after checks
-- 1 and 2; at the end it says so; at a bad field, or a place below 12, off a word or past the end, it refuses with 4 and stays". What a
-- step says is `step_of` of Walk. Assumes nothing.
use Rattle.std.specs.Prelude.{ℕ, List, Option, Some, None, Result, Ok, Err}
use Rattle.std.specs.Borrow.{Bor}
use Rattle.sheet.specs.declared.Refusal.{Refusal}
use Rattle.field_reader.specs.declared.FieldReader.{FieldReader}
use Rattle.field_reader.specs.declared.Made.{Made}
use Rattle.fields.specs.Header.{past_checks, checked}
use Rattle.fields.specs.Walk.{Stepped, field, end, refused, step_of}

abbrev pub reader_at : Bor (List ℕ) → ℕ → FieldReader
reader_at packet at = record { packet = packet; at = at }

-- ---- making one

-- 1 or 2, or none past both
abbrev pub refusal_in : Result Unit Refusal → Option Refusal
refusal_in (Ok u) = None
refusal_in (Err r) = Some r

-- A reader starts at the place asked for. Beside a refusal stands one at octet 0, which is below 12: it hands out nothing.
unfoldable pub start_of : List ℕ → ℕ → ℕ
start_of p at = past_checks (λ (number : ℕ). 0) p at

abbrev pub made_of : Bor (List ℕ) → ℕ → Made
made_of packet at =
    record { reader = reader_at packet (start_of packet.now at); refusal = refusal_in (checked packet.now) }

-- ---- a step

-- the field at its place, the end, or 4
abbrev pub step_by : FieldReader → Stepped
step_by r = step_of r.packet.now r.at

-- past the field that a step hands out; else it stays
abbrev pub moved_to : Stepped → ℕ → ℕ
moved_to (field f) at = f.next
moved_to end at = at
moved_to (refused number place) at = at

-- the same packet, and the place moved
abbrev pub reader_after : FieldReader → FieldReader
reader_after r = reader_at r.packet (moved_to (step_by r) r.at)

-- ---- both: a reader is made at a place and steps once

unfoldable pub field_in : List ℕ → ℕ → Stepped
field_in p at = past_checks (λ (number : ℕ). refused number 0) p (step_of p at)
