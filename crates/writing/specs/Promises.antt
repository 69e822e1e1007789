-- What each public function promises, one predicate a function, NAME≡: the equations that its answer and its lent buffer
-- afterwards meet, for every input. Beside it, NAME-once: no second answer and no second buffer meet it. Assumes nothing.
use Rattle.std.specs.Prelude.{◌≡◌, refl, ℕ, List, length, Result, Ok, Err}
use Rattle.std.proofs.Common.{sym, ap, ◌∙◌}
use Rattle.octets.specs.Promises.{one_answer, one_value}
use Rattle.sheet.specs.declared.Refusal.{Refusal}
use Rattle.sheet.specs.declared.Sheet.{Sheet}
use Rattle.sheet.specs.Refusal.{refusal_by, refusal_back}
use Rattle.packet.specs.declared.Message.{Message}
use Rattle.packet.specs.Message.{message_said}
use Rattle.packet.specs.Row.{message_in}
use Rattle.writing.specs.Writing.{Made, Said, wrote, refused_with, write_of, write_by, writing_said, Answered}

-- ---- answers that say the same are the same: from what is said the answer is got back

abbrev writing_back : Said → Result ℕ Refusal
writing_back (wrote octets) = Ok octets
writing_back (refused_with number line) = Err (refusal_by number line)

writing_back_lem : (w : Result ℕ Refusal) → writing_back (writing_said w) ≡ w
writing_back_lem (Ok octets) = refl
writing_back_lem (Err r) = rw (refusal_back r)

pub writing_apart : (x y : Result ℕ Refusal) → writing_said x ≡ writing_said y → x ≡ y
writing_apart x y e = sym (writing_back_lem x) ∙ ap writing_back e ∙ writing_back_lem y

-- of what was made there is one answer, and one buffer afterwards
pub answered-once : (w : Made) (out : List ℕ) (x y : Result ℕ Refusal) (now other : List ℕ)
    → Answered w out x now → Answered w out y other → (x ≡ y) × (now ≡ other)
answered-once w out x y now other e f =
    (one_answer writing_said writing_apart x y e.0 f.0, one_value now other e.1 f.1)

-- ---- write_by

-- the number of octets written of the message that a row stands for, under these numbers, or the refusal, and the buffer
abbrev pub write_by≡ : List ℕ → List ℕ → List ℕ → List ℕ → Result ℕ Refusal → List ℕ → Type 0
write_by≡ numbers message names out r now = Answered (write_by numbers (message_in message) names (length out)) out r now

pub write_by-once : (numbers message names out : List ℕ) (x y : Result ℕ Refusal) (now other : List ℕ)
    → write_by≡ numbers message names out x now → write_by≡ numbers message names out y other → (x ≡ y) × (now ≡ other)
write_by-once numbers message names out x y now other e f =
    answered-once (write_by numbers (message_in message) names (length out)) out x y now other e f

-- ---- write_lent

-- the same under a sheet
abbrev pub write_lent≡ : Sheet → List ℕ → List ℕ → List ℕ → Result ℕ Refusal → List ℕ → Type 0
write_lent≡ sheet message names out r now = Answered (write_of sheet (message_in message) names (length out)) out r now

pub write_lent-once : (sheet : Sheet) (message names out : List ℕ) (x y : Result ℕ Refusal) (now other : List ℕ)
    → write_lent≡ sheet message names out x now → write_lent≡ sheet message names out y other → (x ≡ y) × (now ≡ other)
write_lent-once sheet message names out x y now other e f =
    answered-once (write_of sheet (message_in message) names (length out)) out x y now other e f

-- ---- write

-- the same of a message
abbrev pub write≡ : Sheet → Message → List ℕ → List ℕ → Result ℕ Refusal → List ℕ → Type 0
write≡ sheet m names out r now = Answered (write_of sheet (message_said m) names (length out)) out r now

pub write-once : (sheet : Sheet) (m : Message) (names out : List ℕ) (x y : Result ℕ Refusal) (now other : List ℕ)
    → write≡ sheet m names out x now → write≡ sheet m names out y other → (x ≡ y) × (now ≡ other)
write-once sheet m names out x y now other e f =
    answered-once (write_of sheet (message_said m) names (length out)) out x y now other e f
