-- What each public function promises, one predicate a function, NAME≡: the equation that its answer meets, for every input.
-- Beside it, NAME-once: no second answer meets it. Assumes nothing.
use Rattle.std.specs.Prelude.{◌≡◌, ℕ, List, Option, Result}
use Rattle.std.proofs.Common.{ap₂}
use Rattle.std.specs.Borrow.{Bor}
use Rattle.octets.specs.Promises.{one_answer, one_value}
use Rattle.sheet.specs.declared.Refusal.{Refusal}
use Rattle.fields.specs.declared.field.Field.{Field}
use Rattle.fields.specs.Walk.{step_said}
use Rattle.fields.specs.Apart.{step_apart}
use Rattle.field_reader.specs.declared.FieldReader.{FieldReader}
use Rattle.field_reader.specs.declared.Made.{Made}
use Rattle.field_reader.specs.declared.Handed.{Handed}
use Rattle.field_reader.specs.Reader.{made_of, reader_after, step_by, field_in}

-- the reader at a place; or 1 or 2, beside one at octet 0
abbrev pub reader_at≡ : Bor (List ℕ) → ℕ → Made → Type 0
reader_at≡ packet at r = r ≡ made_of packet at

pub reader_at-once : (packet : Bor (List ℕ)) (at : ℕ) (x y : Made) → reader_at≡ packet at x → reader_at≡ packet at y → x ≡ y
reader_at-once packet at x y e f = one_value x y e f

-- the reader after a step, with its packet, and the field, the end, or 4
abbrev pub next_field≡ : FieldReader → Handed → Type 0
next_field≡ reader r = (r.reader ≡ reader_after reader) × (step_said r.said ≡ step_by reader)

pub next_field-once : (reader : FieldReader) (x y : Handed) → next_field≡ reader x → next_field≡ reader y → x ≡ y
next_field-once reader x y e f =
    let same : x.reader ≡ y.reader = one_value x.reader y.reader e.0 f.0 in
    let said : x.said ≡ y.said = one_answer step_said step_apart x.said y.said e.1 f.1 in
    ap₂ (λ (r : FieldReader) (s : Result (Option Field) Refusal). record { reader = r; said = s }) same said

-- one step of a reader at a place: the field, the end, or 1, 2 or 4
abbrev pub field_in≡ : List ℕ → ℕ → Result (Option Field) Refusal → Type 0
field_in≡ p at r = step_said r ≡ field_in p at

pub field_in-once : (p : List ℕ) (at : ℕ) (x y : Result (Option Field) Refusal) → field_in≡ p at x → field_in≡ p at y → x ≡ y
field_in-once p at x y e f = one_answer step_said step_apart x y e f
