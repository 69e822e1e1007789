-- What check 1 says of a packet's size. Assumes nothing.
use mathlib.Core.Path.{◌≡◌}
use mathlib.Core.Bool.{true, ◌&&◌}
use mathlib.Core.List.{List}
use Prim.Native.Nat.{ℕ, ◌%◌, ◌≤◌}
use lib.ListN.{length}
use lib.Dec.{T, leb, eqb, leb→le, eqb→eq}
use Rattle.octets.proofs.Choice.{true-T, T-and-left, T-and-right}
use Rattle.fields.specs.Header.{first_field, word, size_right}

pub record Sized (p : List ℕ) : Type 0 where
  pub least : first_field ≤ length p
  pub most : length p ≤ 256
  pub words : length p % word ≡ 0

pub sized : (p : List ℕ) → T (size_right p) → Sized p
unfolding size_right
sized p t =
    let a = leb first_field (length p) in
    let b = leb (length p) 256 in
    let c = eqb (length p % word) 0 in
    let u = T-and-right a (b && c) t in
    record {
      least = leb→le first_field (length p) (T-and-left a (b && c) t);
      most = leb→le (length p) 256 (T-and-left b c u);
      words = eqb→eq (length p % word) 0 (T-and-right b c u);
    }

-- it has the header's octets
pub long : (p : List ℕ) → size_right p ≡ true → first_field ≤ length p
long p e = (sized p (true-T (size_right p) e)).least
