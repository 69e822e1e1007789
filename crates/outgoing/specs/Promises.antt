-- What each public function promises, one predicate a function, NAME≡: the equations that its answer and its lent buffer afterwards
-- meet, for every input. Beside it, NAME-once: no second answer and no second buffer meet it. Assumes nothing.
use Rattle.std.specs.Prelude.{◌≡◌, ℕ, List, Result, length}
use Rattle.sheet.specs.declared.Refusal.{Refusal}
use Rattle.sheet.specs.declared.Sheet.{Sheet}
use Rattle.writing.specs.Writing.{Answered}
use Rattle.writing.specs.Promises.{answered-once}
use Rattle.streams.specs.declared.Answer.{Answer}
use Rattle.streams.specs.Answer.{message_of}
use Rattle.rows.specs.Rows.{answer_in}
use Rattle.outgoing.specs.Sending.{sending_of, sending_in, octets_out}

-- ---- packet_lent

-- how many octets were written of what the answer of a row sends, or the refusal; and the buffer
abbrev pub packet_lent≡ : Sheet → List (List ℕ) → ℕ → List ℕ → List ℕ → Result ℕ Refusal → List ℕ → Type 0
packet_lent≡ sheet users stream row out r now = Answered (octets_out (sending_in sheet users stream (answer_in row) (length out))) out r now

pub packet_lent-once : (sheet : Sheet) (users : List (List ℕ)) (stream : ℕ) (row out : List ℕ) (x y : Result ℕ Refusal) (now other : List ℕ)
    → packet_lent≡ sheet users stream row out x now → packet_lent≡ sheet users stream row out y other → (x ≡ y) × (now ≡ other)
packet_lent-once sheet users stream row out = answered-once (octets_out (sending_in sheet users stream (answer_in row) (length out))) out

-- ---- packet_of

-- the same of an answer
abbrev pub packet_of≡ : Sheet → List (List ℕ) → ℕ → Answer → List ℕ → Result ℕ Refusal → List ℕ → Type 0
packet_of≡ sheet users stream a out r now = Answered (octets_out (sending_of sheet users stream (message_of a) (length out))) out r now

pub packet_of-once : (sheet : Sheet) (users : List (List ℕ)) (stream : ℕ) (a : Answer) (out : List ℕ) (x y : Result ℕ Refusal) (now other : List ℕ)
    → packet_of≡ sheet users stream a out x now → packet_of≡ sheet users stream a out y other → (x ≡ y) × (now ≡ other)
packet_of-once sheet users stream a out = answered-once (octets_out (sending_of sheet users stream (message_of a) (length out))) out
