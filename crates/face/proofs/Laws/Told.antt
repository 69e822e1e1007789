-- What a call returns and leaves in the slices it is lent, by what is said. Assumes nothing.
use mathlib.Core.Path.{◌≡◌, refl, ap}
use Prim.Native.Nat.{ℕ, ◌+◌, ◌*◌, ◌<◌}
use mathlib.Core.Bool.{Bool, true, false}
use mathlib.Core.List.{List}
use mathlib.Core.Option.{Option, none, some}
use native.Mathlib.Omega.{arith}
use Rattle.std.specs.Prelude.{Err}
use Rattle.octets.specs.Choice.{pick}
use Rattle.sheet.specs.declared.Sheet.{Sheet}
use Rattle.sheet.specs.declared.Refusal.{Refusal}
use Rattle.sheet.specs.declared.Refusal.TheVariants.{NotLegal, Sheet as NoSheet}
use Rattle.sheet.specs.Refusal.{refusal_number, refusal_line}
use Rattle.sheet.specs.Value.{valid_alone}
use Rattle.reception.specs.Steps.{Said, gives, refuses, check}
use Rattle.rows.specs.Lent.{code, Returned, told, put, roomy}
use Rattle.rows.specs.Promises.{Rowed, Put}
use Rattle.face.specs.Calls.{of_given, standing, Stored}
use Rattle.face.specs.Promises.{Keeps}
use Rattle.face.specs.Inner.{misfit_of}

-- ---- a refusal is told by its code, and leaves what was lent

pub rowed-refuses : (number line : ℕ) (out : List ℕ) (r : ℕ) → r ≡ number + 256 * line → Rowed (refuses number line) out r out
unfolding roomy code put
rowed-refuses number line out r e = (e, refl)

pub put-refused : (said : Said (List ℕ)) (out : List ℕ) (r : Returned) (x : Refusal)
    → r ≡ Err x → said ≡ refuses (refusal_number x) (refusal_line x) → Put said out r out
put-refused said out r x e f = rw (e, f) (rowed-refuses (refusal_number x) (refusal_line x) out (told (Err x)) refl)

pub keeps-refused : (said : Said Stored) (records answer : List ℕ) (r : Returned) (x : Refusal)
    → r ≡ Err x → said ≡ refuses (refusal_number x) (refusal_line x) → Keeps said records answer (told r) records answer
unfolding roomy code put
keeps-refused said records answer r x e f = rw (e, f) (refl, refl, refl)

-- and what is given is put
pub put-given : (said : Said (List ℕ)) (row out : List ℕ) (r : Returned) (now : List ℕ) → said ≡ gives row → Put (gives row) out r now → Put said out r now
put-given said row out r now e h = rw e h

-- ---- checks

-- what is checked twice is checked once
pub check-twice : {A : Type 0} (b : Bool) (number : ℕ) (x : Said A) → check b number (check b number x) ≡ check b number x
check-twice true number x = refl
check-twice false number x = refl

-- what no value stands for, where 12 comes before it
abbrev pub misfit_said : {A : Type 0} → Sheet → Said A
misfit_said s = refuses (refusal_number (misfit_of s)) (refusal_line (misfit_of s))

pub misfit-is : {A : Type 0} (s : Sheet) → ◌≡◌ {A = Said A} (check (valid_alone s) 12 (refuses 9 0)) (misfit_said s)
misfit-is {A} s = by (valid_alone s)
  where
    by : (b : Bool)
        → ◌≡◌ {A = Said A} (check b 12 (refuses 9 0)) (refuses (refusal_number (pick b NotLegal (NoSheet 0))) (refusal_line (pick b NotLegal (NoSheet 0))))
    by true = refl
    by false = refl

pub put-misfit : (s : Sheet) (said : Said (List ℕ)) (out : List ℕ) (x : Refusal) → x ≡ misfit_of s → said ≡ misfit_said s → Put said out (Err x) out
put-misfit s said out x e f = put-refused said out (Err x) (misfit_of s) (ap (λ (y : Refusal). Err y) e) f

pub keeps-misfit : (s : Sheet) (said : Said Stored) (records answer : List ℕ) (x : Refusal)
    → x ≡ misfit_of s → said ≡ misfit_said s → Keeps said records answer (told (Err x)) records answer
keeps-misfit s said records answer x e f = keeps-refused said records answer (Err x) (misfit_of s) (ap (λ (y : Refusal). Err y) e) f

-- ---- refusals whose number and line go into the code

abbrev pub Plain : {A : Type 0} → Said A → Type 0
Plain (gives x) = Unit {0}
Plain (refuses number line) = (number < 256) × (line < 256)

pub plain-check : {A : Type 0} (b : Bool) (number : ℕ) (x : Said A) → number < 256 → Plain x → Plain (check b number x)
plain-check true number x h t = t
plain-check false number x h t = (h, omega arith)

pub plain-given : {A B : Type 0} (f : A → B) (x : Said A) → Plain x → Plain (of_given f x)
unfolding of_given
plain-given f (gives x) t = tt
plain-given f (refuses number line) t = t

pub plain-standing : {A B : Type 0} (number : ℕ) (o : Option A) (next : A → Said B)
    → number < 256 → ((x : A) → Plain (next x)) → Plain (standing number o next)
unfolding standing
plain-standing number none next h t = (h, omega arith)
plain-standing number (some x) next h t = t x

-- what is told of them is a number of 16 bits
pub plain-code : {A : Type 0} (enough : A → Bool) (x : Said A) → Plain x → code (roomy enough x) < 65536
unfolding code roomy
plain-code enough (gives x) t = short (enough x)
  where
    short : (b : Bool) → code (check b 11 (gives x)) < 65536
    short true = omega arith
    short false = omega arith
plain-code enough (refuses number line) t = omega (arith, t)

pub plain-roomy : {A : Type 0} (enough : A → Bool) (x : Said A) → Plain x → Plain (roomy enough x)
unfolding roomy
plain-roomy enough (gives x) t = plain-check (enough x) 11 (gives x) (omega arith) tt
plain-roomy enough (refuses number line) t = t

pub told-plain : {A : Type 0} (enough : A → Bool) (x : Said A) (n : ℕ) → Plain x → n ≡ code (roomy enough x) → n < 65536
told-plain enough x n t e = omega (arith, plain-code enough x t)
