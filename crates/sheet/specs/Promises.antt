-- What each public function promises, one predicate a function, NAME≡: the equation that its answer meets, for every input.
-- Beside it, NAME-once: no second answer meets it. Assumes nothing.
use Rattle.std.specs.Prelude.{◌≡◌, ℕ, Bool, List, ◌++◌}
use Rattle.octets.specs.Promises.{one_value}
use Rattle.sheet.specs.declared.Sheet.{Sheet}
use Rattle.sheet.specs.declared.Refusal.{Refusal}
use Rattle.sheet.specs.Refusal.{refusal_number, refusal_line}
use Rattle.sheet.specs.Judge.{good_number}
use Rattle.sheet.specs.Value.{numbers_of, sheet_in, valid_alone}

-- some sheet reads to this struct
abbrev pub valid≡ : Sheet → Bool → Type 0
valid≡ sheet r = r ≡ valid_alone sheet

pub valid-once : (sheet : Sheet) (x y : Bool) → valid≡ sheet x → valid≡ sheet y → x ≡ y
valid-once sheet x y p q = one_value x y p q

-- a struct's numbers in the order of the lines, and the SSRCs behind them
abbrev pub numbers_of≡ : Sheet → List ℕ → Type 0
numbers_of≡ sheet r = r ≡ numbers_of sheet ++ sheet.ssrcs

pub numbers_of-once : (sheet : Sheet) (x y : List ℕ) → numbers_of≡ sheet x → numbers_of≡ sheet y → x ≡ y
numbers_of-once sheet x y p q = one_value x y p q

-- some sheet reads to the struct with these numbers
abbrev pub are_valid≡ : List ℕ → Bool → Type 0
are_valid≡ numbers r = r ≡ valid_alone (sheet_in numbers)

pub are_valid-once : (numbers : List ℕ) (x y : Bool) → are_valid≡ numbers x → are_valid≡ numbers y → x ≡ y
are_valid-once numbers x y p q = one_value x y p q

-- a number may stand on the line behind these
abbrev pub is_good_number≡ : List ℕ → ℕ → Bool → Type 0
is_good_number≡ earlier n r = r ≡ good_number earlier n

pub is_good_number-once : (earlier : List ℕ) (n : ℕ) (x y : Bool) → is_good_number≡ earlier n x → is_good_number≡ earlier n y → x ≡ y
is_good_number-once earlier n x y p q = one_value x y p q

-- a refusal's number
abbrev pub number≡ : Refusal → ℕ → Type 0
number≡ refusal r = r ≡ refusal_number refusal

pub number-once : (refusal : Refusal) (x y : ℕ) → number≡ refusal x → number≡ refusal y → x ≡ y
number-once refusal x y p q = one_value x y p q

-- the line beside it
abbrev pub line≡ : Refusal → ℕ → Type 0
line≡ refusal r = r ≡ refusal_line refusal

pub line-once : (refusal : Refusal) (x y : ℕ) → line≡ refusal x → line≡ refusal y → x ≡ y
line-once refusal x y p q = one_value x y p q
