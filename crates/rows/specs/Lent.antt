-- What is returned, and what a lent slice holds afterwards, by what is said. Assumes nothing.
use Rattle.std.specs.Prelude.{ℕ, ◌+◌, ◌*◌, Bool, List, Result, Ok, Err}
use Rattle.octets.specs.Buffer.{over}
use Rattle.sheet.specs.declared.Refusal.{Refusal}
use Rattle.sheet.specs.Refusal.{refusal_number, refusal_line}
use Rattle.reception.specs.Steps.{Said, gives, refuses, check}

-- 0, or a refusal's number plus 256 times its line
unfoldable pub code : {A : Type 0} → Said A → ℕ
code (gives x) = 0
code (refuses number line) = number + 256 * line

-- what a function returns that may be refused, and the same of it
abbrev pub Returned : Type 0
Returned = Result (Unit {0}) Refusal

abbrev pub told : Returned → ℕ
told (Ok x) = 0
told (Err r) = refusal_number r + 256 * refusal_line r

-- what is given goes into the front of the slice, and what is behind it stays as it was; a refusal "changes no lent octet"
unfoldable pub put : {A : Type 0} → (A → List ℕ) → Said A → List ℕ → List ℕ
put row (gives x) out = over (row x) out
put row (refuses number line) out = out

-- 11 where there is not room enough for what would be given
unfoldable pub roomy : {A : Type 0} → (A → Bool) → Said A → Said A
roomy enough (gives x) = check (enough x) 11 (gives x)
roomy enough (refuses number line) = refuses number line
