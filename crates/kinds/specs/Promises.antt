-- What the public function promises: the equation that its answer meets, for every input, and that no second answer meets it.
-- Assumes nothing.
use Rattle.std.specs.Prelude.{◌≡◌, ℕ, List, Result}
use Rattle.octets.specs.Promises.{one_value}
use Rattle.sheet.specs.declared.Refusal.{Refusal}
use Rattle.kinds.specs.declared.Numbers.{Numbers}
use Rattle.kinds.specs.declared.Found.{Found}
use Rattle.kinds.specs.Reading.{read_by}
use Rattle.kinds.specs.Inner.{FoundIs}

-- what the packet reads to under these numbers, by its kind and the places of its fields, which tell its values
abbrev pub found_by≡ : Numbers → List ℕ → Result Found Refusal → Type 0
found_by≡ n p r = FoundIs n p (read_by n p) r

pub found_by-once : (n : Numbers) (p : List ℕ) (x y : Result Found Refusal) → found_by≡ n p x → found_by≡ n p y → x ≡ y
found_by-once n p x y e f = one_value x y e.is f.is
