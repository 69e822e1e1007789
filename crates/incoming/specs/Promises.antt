-- What each public function promises, one predicate a function, NAME≡: the equation that its answer meets, for every input. Beside it, NAME-once: no second
-- answer meets it. Assumes nothing.
use Rattle.std.specs.Prelude.{◌≡◌, refl, ℕ, List, Result}
use Rattle.octets.specs.Promises.{one_answer}
use Rattle.sheet.specs.declared.Refusal.{Refusal}
use Rattle.sheet.specs.declared.Sheet.{Sheet}
use Rattle.streams.specs.declared.Event.{Event}
use Rattle.reception.specs.Promises.{said_apart}
use Rattle.incoming.specs.Event.{event_of, offered_said}

-- answers that say the same are the same
pub offered_apart : (x y : Result Event Refusal) → offered_said x ≡ offered_said y → x ≡ y
offered_apart = said_apart (λ (e : Event). e) (λ (e : Event). e) (λ (e : Event). refl)

-- ---- event_of, event_lent

-- the event, or the refusal
abbrev pub event_of≡ : Sheet → List (List ℕ) → List ℕ → Result Event Refusal → Type 0
event_of≡ sheet users p r = offered_said r ≡ event_of sheet users p

pub event_of-once : (sheet : Sheet) (users : List (List ℕ)) (p : List ℕ) (x y : Result Event Refusal)
    → event_of≡ sheet users p x → event_of≡ sheet users p y → x ≡ y
event_of-once sheet users p x y e f = one_answer offered_said offered_apart x y e f
