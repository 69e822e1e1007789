-- Octets in chunks of two, as an iterator gives them: they are records where each chunk is one. Assumes nothing.
use mathlib.Core.Path.{◌≡◌, refl, ap}
use mathlib.Core.Bool.{and-true}
use mathlib.Core.List.{List, [], ◌∷◌, ◌++◌}
use Prim.Native.Nat.{ℕ}
use native.Mathlib.Omega.{arith}
use lib.ListN.{length}
use denote.Ref.{Bor}
use Rattle.std.specs.Prelude.{Some, None}
use Rattle.std.specs.Prelude.{Option as Given}
use Rattle.std.specs.Prelude.{is_some as has}
use Rattle.std.specs.List.{list_all}
use Rattle.std.specs.Iterator.{AlwaysYields}
use Rattle.std.specs.Slice.Iter.{chunks_rest, chunks_size, chunks_steps}
use Rattle.std.specs.declared.slice.Chunks.{Chunks}
use Rattle.std.proofs.lemmas.Iterator.{YieldsList}
use Rattle.streams.specs.declared.Record.{Record}
use Rattle.rows.specs.Rows.{is_some, phase_in, records_from, records_in}
use Rattle.rows.specs.Held.{recording_said}
use Rattle.rows.proofs.Laws.Records.{records-counted, records_other, from_cons}

-- the chunks
abbrev pub pairs : List ℕ → List (List ℕ)
pairs [] = []
pairs (p ∷ []) = (p ∷ []) ∷ []
pairs (p ∷ b ∷ octets) = (p ∷ b ∷ []) ∷ pairs octets

-- the first chunk and what is behind it
first-pair : (x y : List ℕ) (p b : ℕ) (octets : List ℕ) → p ∷ b ∷ octets ≡ x ++ y → length x ≡ 2 → (x ≡ p ∷ b ∷ []) × (y ≡ octets)
first-pair [] y p b octets e n = absurd (omega arith)
first-pair (q ∷ []) y p b octets e n = absurd (omega arith)
first-pair (q ∷ r ∷ []) y p b octets e n = (cc, cc)
first-pair (q ∷ r ∷ t ∷ x) y p b octets e n = absurd (omega arith)

last-one : (x y : List ℕ) (p : ℕ) → p ∷ [] ≡ x ++ y → length x ≡ 1 → (x ≡ p ∷ []) × (y ≡ [])
last-one [] y p e n = absurd (omega arith)
last-one (q ∷ []) y p e n = (cc, cc)
last-one (q ∷ r ∷ x) y p e n = absurd (omega arith)

always : (octets : List ℕ) (s : Chunks ℕ) → chunks_rest s ≡ octets → chunks_size s ≡ 2
    → AlwaysYields (chunks_steps {A = ℕ}) (λ (x : Bor (List ℕ)). x.now) s (pairs octets)
always [] s e n = λ x j h. absurd (omega (arith, ap length e, h.1.2))
always (p ∷ []) s e n = (
  λ j h. absurd (omega (arith, ap length e, h.1.0)),
  λ x j h. let first = last-one x.now (chunks_rest j) p (rw e at h.1.0) (omega (arith, ap length e, h.1.1)) in (first.0, always [] j first.1 (omega (arith, h.0))),
)
always (p ∷ b ∷ octets) s e n = (
  λ j h. absurd (omega (arith, ap length e, h.1.0)),
  λ x j h.
      let first = first-pair x.now (chunks_rest j) p b octets (rw e at h.1.0) (omega (arith, ap length e, h.1.1)) in
      (first.0, always octets j first.1 (omega (arith, h.0))),
)

pub yields-pairs : (octets : List ℕ) (s : Chunks ℕ) → chunks_rest s ≡ octets → chunks_size s ≡ 2
    → YieldsList (chunks_steps {A = ℕ}) (λ (x : Bor (List ℕ)). x.now) s (pairs octets)
yields-pairs octets s e n = record { runs = always octets s e n }

-- what the code tells of a chunk
pub told-some : (own : List ℕ) (r : Given Record) → recording_said r ≡ records_in 1 own → has r ≡ is_some (records_in 1 own)
told-some own None e = rw (← e)
told-some own (Some x) e = rw (← e)

-- all of them are records, or not
pub all-pairs : (octets : List ℕ) → list_all (λ own. is_some (records_in 1 own)) (pairs octets) ≡ is_some (records_from octets)
unfolding records_from
all-pairs [] = refl
all-pairs (p ∷ []) = rw (records_other 1 (p ∷ []) (λ e. omega arith))
all-pairs (p ∷ b ∷ octets) =
    rw (records-counted 1 (p ∷ b ∷ []) refl, from_cons p b [], and-true (is_some (phase_in p)), all-pairs octets, from_cons p b octets)
