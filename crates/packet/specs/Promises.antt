-- What each public function promises, one predicate a function, NAME≡: the equation that its answer meets, for every input.
-- Beside it, NAME-once: no second answer meets it. Assumes nothing.
use Rattle.std.specs.Prelude.{◌≡◌, ℕ, List, Option, Result}
use Rattle.octets.specs.Promises.{one_answer, one_value}
use Rattle.sheet.specs.declared.Refusal.{Refusal}
use Rattle.sheet.specs.declared.Sheet.{Sheet}
use Rattle.kinds.specs.declared.Numbers.{Numbers}
use Rattle.packet.specs.declared.Message.{Message}
use Rattle.packet.specs.declared.Asked.{Asked}
use Rattle.kinds.specs.Kind.{numbers_of}
use Rattle.kinds.specs.Reading.{read_by, read_of}
use Rattle.packet.specs.Message.{message_said, read_said}
use Rattle.packet.specs.Asked.{asks_of, asked_said}
use Rattle.packet.specs.Row.{row_for, message_in}
use Rattle.packet.specs.Apart.{reading_apart, asked_apart}

-- what the reader looks at of a sheet
abbrev pub numbers_of≡ : Sheet → Numbers → Type 0
numbers_of≡ sheet r = r ≡ numbers_of sheet

pub numbers_of-once : (sheet : Sheet) (x y : Numbers) → numbers_of≡ sheet x → numbers_of≡ sheet y → x ≡ y
numbers_of-once sheet x y e f = one_value x y e f

-- the message under these numbers, or the refusal
abbrev pub read_by≡ : Numbers → List ℕ → Result Message Refusal → Type 0
read_by≡ n p r = read_said r ≡ read_by n p

pub read_by-once : (n : Numbers) (p : List ℕ) (x y : Result Message Refusal) → read_by≡ n p x → read_by≡ n p y → x ≡ y
read_by-once n p x y e f = one_answer read_said reading_apart x y e f

-- the message, or the refusal
abbrev pub read≡ : Sheet → List ℕ → Result Message Refusal → Type 0
read≡ sheet p r = read_said r ≡ read_of sheet p

pub read-once : (sheet : Sheet) (p : List ℕ) (x y : Result Message Refusal) → read≡ sheet p x → read≡ sheet p y → x ≡ y
read-once sheet p x y e f = one_answer read_said reading_apart x y e f

-- what a packet asks under these numbers, or the refusal
abbrev pub asked≡ : Numbers → List ℕ → Result (Option Asked) Refusal → Type 0
asked≡ n p r = asked_said r ≡ asks_of (read_by n p)

pub asked-once : (n : Numbers) (p : List ℕ) (x y : Result (Option Asked) Refusal) → asked≡ n p x → asked≡ n p y → x ≡ y
asked-once n p x y e f = one_answer asked_said asked_apart x y e f

-- the row of a message, which stands for it
abbrev pub row_of≡ : Message → List ℕ → Type 0
row_of≡ m r = (r ≡ row_for m) × (message_in r ≡ message_said m)

pub row_of-once : (m : Message) (x y : List ℕ) → row_of≡ m x → row_of≡ m y → x ≡ y
row_of-once m x y e f = one_value x y e.0 f.0
