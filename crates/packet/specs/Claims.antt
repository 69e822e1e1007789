-- What is claimed of reading beyond the functions, said without the reader's judging. Each has its proof under proofs/. Assumes nothing.
use Rattle.std.specs.Prelude.{◌≡◌, ◌↔◌, ℕ, ◌+◌, Bool, true, false, ◌&&◌, List, [], ◌∷◌, length, take, drop, T, leb, eqb}
use Rattle.std.proofs.Math.Option.{Option, none, some}
use Rattle.octets.specs.Choice.{every, keep, some_of}
use Rattle.sheet.specs.declared.Sheet.{Sheet}
use Rattle.sheet.specs.Judge.{user_id}
use Rattle.fields.specs.declared.field.Field.{Field}
use Rattle.fields.specs.Header.{ack_asked, ssrc_in}
use Rattle.fields.specs.Walk.{fields_of, whole}
use Rattle.fields.specs.Claims.{Headed}
use Rattle.kinds.specs.declared.Numbers.{Numbers}
use Rattle.kinds.specs.Kind.{Row, Kind, kind_of, may_lack, may_have, grants}
use Rattle.kinds.specs.Judge.{Held, absent, given, named, fields_with, fits, held_in}
use Rattle.kinds.specs.Reading.{reads, read_by, read_of}

-- ---- names

-- its place lies in the packet, 1 to 60 octets, each 0x21 to 0x7E
unfoldable pub name_right : List ℕ → Held → Bool
name_right p absent = true
name_right p (given n) = true
name_right p (named at len) = leb (at + len) (length p) && user_id (take len (drop at p))

abbrev pub NamesRight : Type 0
NamesRight =
    (s : Sheet) (p : List ℕ) (kind ssrc : ℕ) (ack : Bool) (values : List Held)
    → read_of s p ≡ reads kind ssrc ack values → T (every (name_right p) values)

-- ---- accepting

-- the fields, less those the kind has no use for
unfoldable pub useful : List Row → List Field → List Field
useful rows fs = keep (λ (f : Field). some_of (λ (r : Row). eqb r.id f.id) rows) fs

-- the same fields in whatever order, but that those with one ID keep theirs: "Order is free, except that in message 1 the first ID 6
-- is the User ID and the second is the Source ID"
abbrev pub Arranged : List Field → List Field → Type 0
Arranged xs ys = (id : ℕ) → fields_with id xs ≡ fields_with id ys

unfoldable pub present : List (Option Field) → List Field
present [] = []
present (none ∷ os) = present os
present (some f ∷ os) = f ∷ present os

-- what a row of the table allows: a field of its ID and form with its value, or none
abbrev pub Allows : List ℕ → Bool → Row → Option Field → Held → Type 0
Allows p grant r none v = T (may_lack grant r.need) × (v ≡ absent)
Allows p grant r (some f) v = T (may_have grant r.need) × (f.id ≡ r.id) × T (fits r.form p f) × (v ≡ held_in r.form p f)

-- row by row: the fields in the order written, and the values
abbrev pub AllowsAll : List ℕ → Bool → List Row → List (Option Field) → List Held → Type 0
AllowsAll p grant [] [] [] = Unit {0}
AllowsAll p grant [] [] (v ∷ values) = ⊥
AllowsAll p grant [] (o ∷ os) values = ⊥
AllowsAll p grant (r ∷ rows) [] values = ⊥
AllowsAll p grant (r ∷ rows) (o ∷ os) [] = ⊥
AllowsAll p grant (r ∷ rows) (o ∷ os) (v ∷ values) = Allows p grant r o v × AllowsAll p grant rows os values

-- the value of a Result that is 1
unfoldable pub is_one : Held → Bool
is_one absent = false
is_one (given n) = eqb n 1
is_one (named at len) = false

-- A packet past checks 1 to 4 reads to a message exactly if its fields, less those the kind has no use for, are an arrangement
-- that the table allows, with those values.
abbrev pub AcceptsExactly : Type 0
AcceptsExactly =
    (n : Numbers) (p : List ℕ) (k : Kind) (values : List Held)
    → Headed p → kind_of n p ≡ some k → T (whole p)
    → (read_by n p ≡ reads k.kind (ssrc_in p) (ack_asked p) values)
    ↔ ((chosen : List (Option Field)) × AllowsAll p (grants is_one k.rows values) k.rows chosen values
    × Arranged (useful k.rows (fields_of p)) (present chosen))
