-- What a packet was found to be: a refusal says that it is refused, and places of fields say its message. Assumes nothing.
use mathlib.Core.Path.{◌≡◌, sym}
use mathlib.Core.List.{List}
use Prim.Native.Nat.{ℕ}
use lib.Dec.{T}
use Rattle.std.specs.Prelude.{Ok, Err}
use Rattle.sheet.specs.declared.Refusal.{Refusal}
use Rattle.sheet.specs.declared.Refusal.TheVariants.{Fields}
use Rattle.sheet.specs.Refusal.{refusal_number, refusal_line, refusal_back}
use Rattle.fields.specs.Walk.{whole}
use Rattle.kinds.specs.declared.Numbers.{Numbers}
use Rattle.kinds.specs.declared.kind.Kind.{Kind}
use Rattle.kinds.specs.Reading.{Outcome, refused, read_as}
use Rattle.kinds.specs.Found.{kind_number, kind_back, kind_numbered}
use Rattle.kinds.specs.Inner.{JudgedIs, Sorted, FoundIs}
use Rattle.kinds.proofs.Laws.Values.{handed, read_as-faulty, read_as-right}

pub none_found : (n : Numbers) (p : List ℕ) (r : Refusal) {o : Outcome} → o ≡ refused (refusal_number r) (refusal_line r) → FoundIs n p o (Err r)
none_found n p r e = record { is = rw (e, refusal_back r); told = sym e; sorted = tt }

-- a packet of a kind whose walk is whole, judged
module _ (n : Numbers) (p : List ℕ) (kind : Kind) (right : T (whole p)) where
  -- a field is at fault or missing
  pub faulty_found : (r : Refusal) → JudgedIs p (handed n p kind) (Err r) → FoundIs n p (read_as n p (kind_numbered n (kind_number kind))) (Err r)
  faulty_found r j = rw j.1 (none_found n p Fields (read_as-faulty n p kind right j.0.0 j.0.1))

  -- none is
  pub right_found : (places : List ℕ) → JudgedIs p (handed n p kind) (Ok places) → Sorted p (record { kind = kind; places = places })
      → FoundIs n p (read_as n p (kind_numbered n (kind_number kind))) (Ok (record { kind = kind; places = places }))
  right_found places j s =
      let reads = read_as-right n p kind right j.0 in
      record { is = rw (reads, kind_back kind, j.1); told = rw j.1 (sym reads); sorted = s }
