-- What each public function promises, one predicate a function, NAME≡: the equations that its answer and its lent buffer afterwards
-- meet, for every input. Beside it, NAME-once: no second answer and no second buffer meet it. Assumes nothing.
use Rattle.std.specs.Prelude.{◌≡◌, ℕ, Bool, List, [], length, leb, Result}
use Rattle.octets.specs.Promises.{one_value}
use Rattle.sheet.specs.declared.Refusal.{Refusal}
use Rattle.shown.specs.Printing.{Prints, prints-once}
use Rattle.look.specs.declared.Look.{Look}
use Rattle.look.specs.declared.Stepped.{Stepped}
use Rattle.look.specs.Steps.{in_sheet, state_of, look_as, is_refused, end_of, room_asked, stepped_of, after_step}

-- ---- the input piece by piece

-- what is kept before the first piece
abbrev pub start≡ : Look → Type 0
start≡ r = r ≡ look_as (in_sheet [])

pub start-once : (x y : Look) → start≡ x → start≡ y → x ≡ y
start-once x y p q = one_value x y p q

-- a piece
abbrev pub step≡ : Look → List ℕ → List ℕ → Result Stepped Refusal → List ℕ → Type 0
step≡ look piece out r now = (r ≡ stepped_of look piece out) × (now ≡ after_step look piece out)

pub step-once : (look : Look) (piece out : List ℕ) (x y : Result Stepped Refusal) (now other : List ℕ)
    → step≡ look piece out x now → step≡ look piece out y other → (x ≡ y) × (now ≡ other)
step-once look piece out x y now other e f = (one_value x y e.0 f.0, one_value now other e.1 f.1)

-- the end of the input
abbrev pub end≡ : Look → List ℕ → Result ℕ Refusal → List ℕ → Type 0
end≡ look out r now = Prints (leb (room_asked 0) (length out)) (end_of (state_of look)) out r now

pub end-once : (look : Look) (out : List ℕ) (x y : Result ℕ Refusal) (now other : List ℕ)
    → end≡ look out x now → end≡ look out y other → (x ≡ y) × (now ≡ other)
end-once look out = prints-once (leb (room_asked 0) (length out)) (end_of (state_of look)) out

-- whether nothing more is printed
abbrev pub is_refused≡ : Look → Bool → Type 0
is_refused≡ look r = r ≡ is_refused (state_of look)

pub is_refused-once : (look : Look) (x y : Bool) → is_refused≡ look x → is_refused≡ look y → x ≡ y
is_refused-once look x y p q = one_value x y p q
