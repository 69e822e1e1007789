-- Laws of the fields of a packet, whatever its kind: where each lies, what it says of itself, and that none has an ID of 192 or more.
-- Assumes nothing.
use mathlib.Core.Path.{◌≡◌}
use mathlib.Core.Bool.{Bool, false, ◌&&◌}
use mathlib.Core.List.{List}
use Prim.Native.Nat.{ℕ, ◌+◌, ◌≤◌, ◌<◌}
use native.Mathlib.Omega.{arith}
use lib.ListN.{length, get_or}
use lib.Dec.{T, ltb, leb, eqb, ltb→lt, lt→ltb, le→leb, eqb→eq, eqb_refl}
use borrow.Author.Tests.{ne_eqb}
use Rattle.octets.specs.Choice.{every, some_of}
use Rattle.octets.proofs.Choice.{T_and, T-and-left, T-and-right}
use Rattle.fields.specs.declared.field.Field.{Field}
use Rattle.fields.specs.Header.{first_field}
use Rattle.fields.specs.Walk.{field_at, fields_from, fields_of}
use Rattle.fields.proofs.Laws.Walk.{right-inside, every-field, right-id, fields_from-right, fields_from-wrong, walk_ind}

-- a field does not stand at the packet's front, a word stands at its place, its length is the octet behind its ID, and its value
-- ends in the packet
abbrev pub coded : List ℕ → Field → Bool
coded p f =
    ltb 0 f.at && (leb (f.at + 4) (length p) && (eqb f.len (get_or p (f.at + 1) 0) && leb (f.at + 2 + f.len) (length p)))

-- what that says
pub record Coded (p : List ℕ) (f : Field) : Type 0 where
  pub above : 0 < f.at
  pub word : T (leb (f.at + 4) (length p))
  pub len : f.len ≡ get_or p (f.at + 1) 0
  pub inside : T (leb (f.at + 2 + f.len) (length p))

pub coded_says : (p : List ℕ) (f : Field) → T (coded p f) → Coded p f
coded_says p f t =
    let above = ltb 0 f.at in
    let word = leb (f.at + 4) (length p) in
    let len = eqb f.len (get_or p (f.at + 1) 0) in
    let inside = leb (f.at + 2 + f.len) (length p) in
    let u = T-and-right above (word && (len && inside)) t in
    let v = T-and-right word (len && inside) u in
    record {
      above = ltb→lt 0 f.at (T-and-left above (word && (len && inside)) t);
      word = T-and-left word (len && inside) u;
      len = eqb→eq f.len (get_or p (f.at + 1) 0) (T-and-left len inside v);
      inside = T-and-right len inside v;
    }

-- each that the walk meets is so
pub every-coded : (p : List ℕ) → T (every (coded p) (fields_of p))
unfolding field_at
every-coded p =
    every-field p (coded p)
    (λ at h t.
    let n = get_or p (at + 1) 0 in
    let word = leb (at + 4) (length p) in
    let inside = leb (at + 2 + n) (length p) in
    T_and (ltb 0 at) (word && (eqb n n && inside)) (lt→ltb 0 at (omega arith))
    (T_and word (eqb n n && inside) (le→leb (at + 4) (length p) (right-inside p at t).0)
    (T_and (eqb n n) inside (eqb_refl n) (le→leb (at + 2 + n) (length p) (right-inside p at t).1))))

-- none has an ID of 192 or more
pub fields_of-high : (p : List ℕ) (id : ℕ) → 192 ≤ id → some_of (λ (f : Field). eqb f.id id) (fields_of p) ≡ false
unfolding fields_of field_at
fields_of-high p id h =
    walk_ind p (λ at. some_of (λ (f : Field). eqb f.id id) (fields_from p at) ≡ false)
    (λ at e. rw (fields_from-wrong p at e))
    (λ at t ih. rw (fields_from-right p at t, ne_eqb (get_or p at 0) id (λ e. omega (arith, right-id p at t))) ih)
    first_field
