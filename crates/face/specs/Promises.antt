-- What each call of the face promises, one predicate a function, NAME≡: what it returns, and each slice that it is lent to change, for every input. Beside it,
-- NAME-once: no second answer and no second slices meet it. Assumes nothing.
use Rattle.std.specs.Prelude.{◌≡◌, ℕ, ◌&&◌, List, [], ◌∷◌, length, leb}
use Rattle.octets.specs.Promises.{one_value}
use Rattle.sheet_text.specs.declared.Reading.{Reading}
use Rattle.sheet_text.specs.Reading.{users_in}
use Rattle.reception.specs.Steps.{Said, gives, refuses}
use Rattle.rows.specs.Rows.{sheet_row}
use Rattle.rows.specs.Lent.{code, put, roomy}
use Rattle.rows.specs.Promises.{Rowed, rowed-once}
use Rattle.face.specs.Calls.{sheet_says, read_says, write_says, field_says, event_says, seen_says, count_says, work_says, Stored, store_says, packet_says}

-- ---- calls that give one row

-- the message of a packet
abbrev pub mcv_read≡ : List ℕ → List ℕ → List ℕ → ℕ → List ℕ → Type 0
mcv_read≡ sheet packet message r now = Rowed (read_says sheet packet) message r now

pub mcv_read-once : (sheet packet message : List ℕ) (x y : ℕ) (now other : List ℕ)
    → mcv_read≡ sheet packet message x now → mcv_read≡ sheet packet message y other → (x ≡ y) × (now ≡ other)
mcv_read-once sheet packet = rowed-once (read_says sheet packet)

-- the field at a place
abbrev pub mcv_field≡ : List ℕ → ℕ → List ℕ → ℕ → List ℕ → Type 0
mcv_field≡ packet place field r now = Rowed (field_says packet place) field r now

pub mcv_field-once : (packet : List ℕ) (place : ℕ) (field : List ℕ) (x y : ℕ) (now other : List ℕ)
    → mcv_field≡ packet place field x now → mcv_field≡ packet place field y other → (x ≡ y) × (now ≡ other)
mcv_field-once packet place = rowed-once (field_says packet place)

-- the event that a packet makes
abbrev pub mcv_event≡ : List ℕ → List (List ℕ) → List ℕ → List ℕ → ℕ → List ℕ → Type 0
mcv_event≡ sheet users packet event r now = Rowed (event_says sheet users packet) event r now

pub mcv_event-once : (sheet : List ℕ) (users : List (List ℕ)) (packet event : List ℕ) (x y : ℕ) (now other : List ℕ)
    → mcv_event≡ sheet users packet event x now → mcv_event≡ sheet users packet event y other → (x ≡ y) × (now ≡ other)
mcv_event-once sheet users packet = rowed-once (event_says sheet users packet)

-- the record of a stream
abbrev pub mcv_seen≡ : List ℕ → List ℕ → ℕ → List ℕ → ℕ → List ℕ → Type 0
mcv_seen≡ sheet records stream seen r now = Rowed (seen_says sheet records stream) seen r now

pub mcv_seen-once : (sheet records : List ℕ) (stream : ℕ) (seen : List ℕ) (x y : ℕ) (now other : List ℕ)
    → mcv_seen≡ sheet records stream seen x now → mcv_seen≡ sheet records stream seen y other → (x ≡ y) × (now ≡ other)
mcv_seen-once sheet records stream = rowed-once (seen_says sheet records stream)

-- the count of a stream
abbrev pub mcv_count≡ : List ℕ → List ℕ → ℕ → List ℕ → ℕ → List ℕ → Type 0
mcv_count≡ sheet records stream count r now = Rowed (count_says sheet records stream) count r now

pub mcv_count-once : (sheet records : List ℕ) (stream : ℕ) (count : List ℕ) (x y : ℕ) (now other : List ℕ)
    → mcv_count≡ sheet records stream count x now → mcv_count≡ sheet records stream count y other → (x ≡ y) × (now ≡ other)
mcv_count-once sheet records stream = rowed-once (count_says sheet records stream)

-- what an event makes of a record
abbrev pub mcv_work_out≡ : List ℕ → List ℕ → List ℕ → List ℕ → ℕ → List ℕ → Type 0
mcv_work_out≡ sheet seen event attempt r now = Rowed (work_says sheet seen event) attempt r now

pub mcv_work_out-once : (sheet seen event attempt : List ℕ) (x y : ℕ) (now other : List ℕ)
    → mcv_work_out≡ sheet seen event attempt x now → mcv_work_out≡ sheet seen event attempt y other → (x ≡ y) × (now ≡ other)
mcv_work_out-once sheet seen event = rowed-once (work_says sheet seen event)

-- ---- calls that write a packet

-- the packet into the front of `out` and its length into `written`, or the refusal
abbrev pub Wrote : Said (List ℕ) → List ℕ → List ℕ → ℕ → List ℕ → List ℕ → Type 0
Wrote said out written r now count =
    let w = roomy (λ (p : List ℕ). leb 1 (length written)) said in
    (r ≡ code w) × (now ≡ put (λ (p : List ℕ). p) w out) × (count ≡ put (λ (p : List ℕ). length p ∷ []) w written)

pub wrote-once : (said : Said (List ℕ)) (out written : List ℕ) (x y : ℕ) (now other count another : List ℕ)
    → Wrote said out written x now count → Wrote said out written y other another → (x ≡ y) × (now ≡ other) × (count ≡ another)
wrote-once said out written x y now other count another e f =
    (one_value x y e.0 f.0, one_value now other e.1 f.1, one_value count another e.2 f.2)

-- a message as a packet
abbrev pub mcv_write≡ : List ℕ → List ℕ → List ℕ → List ℕ → List ℕ → ℕ → List ℕ → List ℕ → Type 0
mcv_write≡ sheet message names out written r now count = Wrote (write_says sheet message names (length out)) out written r now count

pub mcv_write-once : (sheet message names out written : List ℕ) (x y : ℕ) (now other count another : List ℕ)
    → mcv_write≡ sheet message names out written x now count → mcv_write≡ sheet message names out written y other another
    → (x ≡ y) × (now ≡ other) × (count ≡ another)
mcv_write-once sheet message names out = wrote-once (write_says sheet message names (length out)) out

-- an answer as a packet
abbrev pub mcv_packet≡ : List ℕ → List (List ℕ) → ℕ → List ℕ → List ℕ → List ℕ → ℕ → List ℕ → List ℕ → Type 0
mcv_packet≡ sheet users stream answer out written r now count = Wrote (packet_says sheet users stream answer (length out)) out written r now count

pub mcv_packet-once : (sheet : List ℕ) (users : List (List ℕ)) (stream : ℕ) (answer out written : List ℕ) (x y : ℕ) (now other count another : List ℕ)
    → mcv_packet≡ sheet users stream answer out written x now count → mcv_packet≡ sheet users stream answer out written y other another
    → (x ≡ y) × (now ≡ other) × (count ≡ another)
mcv_packet-once sheet users stream answer out = wrote-once (packet_says sheet users stream answer (length out)) out

-- ---- a store

-- the records, changed in place, and the answer, or the refusal
abbrev pub Keeps : Said Stored → List ℕ → List ℕ → ℕ → List ℕ → List ℕ → Type 0
Keeps said records answer r now given =
    let w = roomy (λ (s : Stored). leb (length s.answer) (length answer)) said in
    (r ≡ code w) × (now ≡ put (λ (s : Stored). s.records) w records) × (given ≡ put (λ (s : Stored). s.answer) w answer)

abbrev pub mcv_store≡ : List ℕ → List ℕ → List ℕ → List ℕ → ℕ → List ℕ → List ℕ → Type 0
mcv_store≡ sheet attempt records answer r now given = Keeps (store_says sheet attempt records) records answer r now given

pub mcv_store-once : (sheet attempt records answer : List ℕ) (x y : ℕ) (now other given another : List ℕ)
    → mcv_store≡ sheet attempt records answer x now given → mcv_store≡ sheet attempt records answer y other another
    → (x ≡ y) × (now ≡ other) × (given ≡ another)
mcv_store-once sheet attempt records answer x y now other given another e f =
    (one_value x y e.0 f.0, one_value now other e.1 f.1, one_value given another e.2 f.2)

-- ---- a sheet

-- the User IDs, eight rows in one slice of a fixed size
unfoldable pub users_after : List ℕ → Said Reading → List (List ℕ) → List (List ℕ)
users_after text (gives x) users = users_in text
users_after text (refuses number line) users = users

-- the numbers, the User IDs and how many octets were used
abbrev pub mcv_sheet≡ : List ℕ → List ℕ → List (List ℕ) → List ℕ → ℕ → List ℕ → List (List ℕ) → List ℕ → Type 0
mcv_sheet≡ text sheet users used r now rows count =
    let w = roomy (λ (x : Reading). leb (length (sheet_row x)) (length sheet) && leb 1 (length used)) (sheet_says text) in
    (r ≡ code w)
    × (now ≡ put sheet_row w sheet)
    × (rows ≡ users_after text w users)
    × (count ≡ put (λ (x : Reading). x.used ∷ []) w used)

pub mcv_sheet-once : (text sheet : List ℕ) (users : List (List ℕ)) (used : List ℕ) (x y : ℕ) (now other : List ℕ) (rows others : List (List ℕ)) (count another : List ℕ)
    → mcv_sheet≡ text sheet users used x now rows count → mcv_sheet≡ text sheet users used y other others another
    → (x ≡ y) × (now ≡ other) × (rows ≡ others) × (count ≡ another)
mcv_sheet-once text sheet users used x y now other rows others count another e f =
    (one_value x y e.0 f.0, one_value now other e.1 f.1, one_value rows others e.2 f.2, one_value count another e.3 f.3)
