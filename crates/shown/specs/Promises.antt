-- What each public function promises, one predicate a function, NAME≡: the equations that its answer and its lent buffer afterwards
-- meet, for every input. Beside it, NAME-once: no second answer and no second buffer meet it. Assumes nothing.
use Rattle.std.specs.Prelude.{◌≡◌, ℕ, ◌+◌, List, [], length, leb, Result}
use Rattle.octets.specs.Buffer.{put_at}
use Rattle.octets.specs.Promises.{one_value}
use Rattle.sheet.specs.declared.Refusal.{Refusal}
use Rattle.kinds.specs.declared.Numbers.{Numbers}
use Rattle.packet.specs.declared.Message.{Message}
use Rattle.packet.specs.Message.{message_said}
use Rattle.kinds.specs.Reading.{refused}
use Rattle.shown.specs.Printing.{Prints, prints-once}
use Rattle.shown.specs.Line.{text_of, line_by, sheet_line, line_room, fitting}

-- ---- text put into the front of a buffer

-- the text whole, or 11 and nothing
abbrev pub Whole : List ℕ → List ℕ → Result ℕ Refusal → List ℕ → Type 0
Whole text out r now = Prints (leb (length text) (length out)) text out r now

whole-once : (text out : List ℕ) (x y : Result ℕ Refusal) (now other : List ℕ) → Whole text out x now → Whole text out y other → (x ≡ y) × (now ≡ other)
whole-once text out = prints-once (leb (length text) (length out)) text out

-- the ten values of a message
abbrev pub message≡ : Message → List ℕ → List ℕ → Result ℕ Refusal → List ℕ → Type 0
message≡ m p out r now = Whole (text_of p (message_said m)) out r now

pub message-once : (m : Message) (p out : List ℕ) (x y : Result ℕ Refusal) (now other : List ℕ)
    → message≡ m p out x now → message≡ m p out y other → (x ≡ y) × (now ≡ other)
message-once m p out x y now other e f = whole-once (text_of p (message_said m)) out x y now other e f

-- a refusal by its number
abbrev pub refusal≡ : ℕ → List ℕ → Result ℕ Refusal → List ℕ → Type 0
refusal≡ number out r now = Whole (text_of [] (refused number 0)) out r now

pub refusal-once : (number : ℕ) (out : List ℕ) (x y : Result ℕ Refusal) (now other : List ℕ)
    → refusal≡ number out x now → refusal≡ number out y other → (x ≡ y) × (now ≡ other)
refusal-once number out x y now other e f = whole-once (text_of [] (refused number 0)) out x y now other e f

-- what is printed for a line
abbrev pub line≡ : Numbers → List ℕ → List ℕ → Result ℕ Refusal → List ℕ → Type 0
line≡ n line out r now = Whole (line_by n line) out r now

pub line-once : (n : Numbers) (line out : List ℕ) (x y : Result ℕ Refusal) (now other : List ℕ)
    → line≡ n line out x now → line≡ n line out y other → (x ≡ y) × (now ≡ other)
line-once n line out x y now other e f = whole-once (line_by n line) out x y now other e f

-- ---- text put at a place of a buffer

-- the text, and the place past it
abbrev pub Put : List ℕ → List ℕ → ℕ → ℕ → List ℕ → Type 0
Put text out at r now = (now ≡ put_at out at text) × (r ≡ at + length text)

pub one_put : (text out : List ℕ) (at : ℕ) (x y : ℕ) (now other : List ℕ) → Put text out at x now → Put text out at y other → (x ≡ y) × (now ≡ other)
one_put text out at x y now other e f = (one_value x y e.1 f.1, one_value now other e.0 f.0)

-- what is printed for a line
abbrev pub put≡ : Numbers → List ℕ → List ℕ → ℕ → ℕ → List ℕ → Type 0
put≡ n line out at r now = Put (fitting (line_room line) (length out) at (line_by n line)) out at r now

pub put-once : (n : Numbers) (line out : List ℕ) (at : ℕ) (x y : ℕ) (now other : List ℕ)
    → put≡ n line out at x now → put≡ n line out at y other → (x ≡ y) × (now ≡ other)
put-once n line out at x y now other e f = one_put (fitting (line_room line) (length out) at (line_by n line)) out at x y now other e f

-- what is printed for a refused sheet
abbrev pub put_sheet≡ : ℕ → List ℕ → ℕ → ℕ → List ℕ → Type 0
put_sheet≡ line out at r now = Put (fitting (length (sheet_line line)) (length out) at (sheet_line line)) out at r now

pub put_sheet-once : (line : ℕ) (out : List ℕ) (at : ℕ) (x y : ℕ) (now other : List ℕ)
    → put_sheet≡ line out at x now → put_sheet≡ line out at y other → (x ≡ y) × (now ≡ other)
put_sheet-once line out at x y now other e f = one_put (fitting (length (sheet_line line)) (length out) at (sheet_line line)) out at x y now other e f
