-- Laws of reading, by what checks 1 and 2 say. Assumes nothing.
use mathlib.Core.Path.{◌≡◌}
use mathlib.Core.List.{List}
use Prim.Native.Nat.{ℕ}
use Rattle.std.specs.Prelude.{Err}
use Rattle.sheet.specs.declared.Refusal.{Refusal}
use Rattle.sheet.specs.Refusal.{refusal_number, refusal_line}
use Rattle.fields.specs.Header.{checked}
use Rattle.fields.specs.Claims.{Headed}
use Rattle.fields.proofs.Laws.Checks.{past_checks-headed, checked-number, checked-line}
use Rattle.kinds.specs.declared.Numbers.{Numbers}
use Rattle.kinds.specs.Kind.{kind_of}
use Rattle.kinds.specs.Reading.{refused, read_as, read_by}

-- past both, the kind decides
pub read_by-past : (n : Numbers) (p : List ℕ) → Headed p → read_by n p ≡ read_as n p (kind_of n p)
unfolding read_by
read_by-past n p h = past_checks-headed (λ (number : ℕ). refused number 0) p (read_as n p (kind_of n p)) h

-- else the refusal of the one that fails
pub read_by-failed : (n : Numbers) (p : List ℕ) (r : Refusal) → Err r ≡ checked p → read_by n p ≡ refused (refusal_number r) (refusal_line r)
unfolding read_by
read_by-failed n p r e = rw (checked-line p r e, checked-number (λ (number : ℕ). refused number 0) p (read_as n p (kind_of n p)) r e)
