-- What each public function promises, one predicate a function, NAME≡: the equation that its answer meets, for every input.
-- Beside it, NAME-once: no second answer meets it. Assumes nothing.
use Rattle.std.specs.Prelude.{◌≡◌, ℕ, ◌+◌, List, Option, Result}
use Rattle.octets.specs.Promises.{one_answer, one_value}
use Rattle.sheet.specs.declared.Refusal.{Refusal}
use Rattle.fields.specs.declared.field.Field.{Field}
use Rattle.fields.specs.Header.{checked}
use Rattle.fields.specs.Walk.{to_word, stop_from, step_of, step_said}
use Rattle.fields.specs.Apart.{step_apart}

-- checks 1 and 2: the refusal of the one that a packet fails first
abbrev pub check≡ : List ℕ → Result Unit Refusal → Type 0
check≡ p r = r ≡ checked p

pub check-once : (p : List ℕ) (x y : Result Unit Refusal) → check≡ p x → check≡ p y → x ≡ y
check-once p x y e f = one_value x y e f

-- how many octets a field takes whose value has this length
abbrev pub size_of≡ : ℕ → ℕ → Type 0
size_of≡ len r = r ≡ to_word (2 + len)

pub size_of-once : (len x y : ℕ) → size_of≡ len x → size_of≡ len y → x ≡ y
size_of-once len x y e f = one_value x y e f

-- where the walk from a place on stops
abbrev pub walk≡ : List ℕ → ℕ → ℕ → Type 0
walk≡ p from r = r ≡ stop_from p from

pub walk-once : (p : List ℕ) (from x y : ℕ) → walk≡ p from x → walk≡ p from y → x ≡ y
walk-once p from x y e f = one_value x y e f

-- the field at a place, the end, or 4
abbrev pub field_at≡ : List ℕ → ℕ → Result (Option Field) Refusal → Type 0
field_at≡ p at r = step_said r ≡ step_of p at

pub field_at-once : (p : List ℕ) (at : ℕ) (x y : Result (Option Field) Refusal) → field_at≡ p at x → field_at≡ p at y → x ≡ y
field_at-once p at x y e f = one_answer step_said step_apart x y e f
