-- Laws of checks 1 and 2, by the refusal of the first that fails. Assumes nothing.
use mathlib.Core.Path.{◌≡◌}
use mathlib.Core.Bool.{Bool, true, false, ◌&&◌}
use mathlib.Core.List.{List}
use Prim.Native.Nat.{ℕ, ◌/◌, ◌%◌}
use native.Mathlib.Omega.{arith}
use borrow.Author.Tests.{eq-eqb}
use lib.ListN.{get_or}
use lib.Dec.{T, eqb, eqb→eq}
use Rattle.std.specs.Prelude.{Result, Ok, Err}
use Rattle.octets.specs.Choice.{pick}
use Rattle.octets.proofs.Choice.{T_true, true-T, test-eq, T_and, T-and-left, T-and-right}
use Rattle.sheet.specs.declared.Refusal.{Refusal}
use Rattle.sheet.specs.declared.Refusal.TheVariants.{Size, Header}
use Rattle.sheet.specs.Refusal.{refusal_number, refusal_line}
use Rattle.fields.specs.Header.{size_right, version_right, head_right, past_checks, checked}
use Rattle.fields.specs.Claims.{Headed}

-- version 2 and a clear padding bit are the three bits 100
pub version_bits : (p : List ℕ) → version_right p ≡ eqb (get_or p 0 0 / 32) 4
unfolding version_right
version_bits p = bits (get_or p 0 0)
  where
    bits : (x : ℕ) → (eqb (x / 64) 2 && eqb (x / 32 % 2) 0) ≡ eqb (x / 32) 4
    bits x =
        let version = eqb (x / 64) 2 in
        let padding = eqb (x / 32 % 2) 0 in
        test-eq (version && padding) (eqb (x / 32) 4)
        (λ t. true-T (eqb (x / 32) 4) (eq-eqb (x / 32) 4
        (omega (arith, eqb→eq (x / 64) 2 (T-and-left version padding t), eqb→eq (x / 32 % 2) 0 (T-and-right version padding t)))))
        (λ t.
        let e = eqb→eq (x / 32) 4 t in
        T_and version padding (true-T version (eq-eqb (x / 64) 2 (omega arith))) (true-T padding (eq-eqb (x / 32 % 2) 0 (omega arith))))

-- past both, what follows
pub past_checks-headed {ℓ} : {A : Type ℓ} (refuse : ℕ → A) (p : List ℕ) (next : A) → Headed p → past_checks refuse p next ≡ next
past_checks-headed refuse p next h = rw (T_true (size_right p) h.0, T_true (head_right p) h.1)

-- nothing is refused: the packet is past both
pub checked_ok : (p : List ℕ) → Ok tt ≡ checked p → Headed p
unfolding checked
checked_ok p = by-each (size_right p) (head_right p)
  where
    by-each : (size head : Bool) → ◌≡◌ {A = Result Unit Refusal} (Ok tt) (pick size (pick head (Ok tt) (Err Header)) (Err Size)) → T size × T head
    by-each true true e = (tt, tt)
    by-each true false e = cc
    by-each false head e = cc

-- one is refused: by its number ..
pub checked-number {ℓ} : {A : Type ℓ} (refuse : ℕ → A) (p : List ℕ) (next : A) (r : Refusal) → Err r ≡ checked p
    → past_checks refuse p next ≡ refuse (refusal_number r)
unfolding checked
checked-number {A} refuse p next r = by-each (size_right p) (head_right p)
  where
    by-each : (size head : Bool) → ◌≡◌ {A = Result Unit Refusal} (Err r) (pick size (pick head (Ok tt) (Err Header)) (Err Size))
        → pick size (pick head next (refuse 2)) (refuse 1) ≡ refuse (refusal_number r)
    by-each true true e = cc
    by-each true false e = let is : r ≡ Header = cc in rw is
    by-each false head e = let is : r ≡ Size = cc in rw is

-- .. alone
pub checked-line : (p : List ℕ) (r : Refusal) → Err r ≡ checked p → refusal_line r ≡ 0
unfolding checked
checked-line p r = by-each (size_right p) (head_right p)
  where
    by-each : (size head : Bool) → ◌≡◌ {A = Result Unit Refusal} (Err r) (pick size (pick head (Ok tt) (Err Header)) (Err Size)) → refusal_line r ≡ 0
    by-each true true e = cc
    by-each true false e = let is : r ≡ Header = cc in rw is
    by-each false head e = let is : r ≡ Size = cc in rw is
