-- What is claimed of writing and reading together. Each has its proof under proofs/. Assumes nothing.
use Rattle.std.specs.Prelude.{◌≡◌, ◌↔◌, ℕ, ◌≤◌, Bool, List, length, T, ltb}
use Rattle.std.proofs.Math.Option.{some}
use Rattle.octets.specs.Choice.{every}
use Rattle.sheet.specs.declared.Sheet.{Sheet}
use Rattle.sheet.specs.Value.{valid_alone}
use Rattle.kinds.specs.Kind.{numbers_of}
use Rattle.kinds.specs.Reading.{Outcome, read_of}
use Rattle.packet.specs.Meaning.{Meaning, meaning}
use Rattle.writing.specs.Writing.{made, refused, write_of}
use Rattle.writing.specs.Canonical.{canonical}

-- each is an octet
unfoldable pub are_octets : List ℕ → Bool
are_octets p = every (λ (x : ℕ). ltb x 256) p

-- a packet reads to a meaning
abbrev pub ReadsTo : Sheet → List ℕ → Meaning → Type 0
ReadsTo s p m = T (are_octets p) × (meaning p (read_of s p) ≡ some m)

-- ---- what is written reads back

-- What is written is made of octets, reads back as the same message, and is canonical.
abbrev pub ReadsBack : Type 0
ReadsBack =
    (s : Sheet) (message : Outcome) (names : List ℕ) (room : ℕ) (p : List ℕ) → write_of s message names room ≡ made p
    → T (are_octets p) × (meaning p (read_of s p) ≡ meaning names message) × T (canonical (numbers_of s) p)

-- ---- what is writable

-- A message with its names is written, where the room suffices, exactly if some packet reads to its meaning ..
abbrev pub WritableExactly : Type 0
WritableExactly =
    (s : Sheet) → T (valid_alone s) → (message : Outcome) (names : List ℕ) (m : Meaning) → meaning names message ≡ some m
    → ((p : List ℕ) × ((room : ℕ) → length p ≤ room → write_of s message names room ≡ made p)) ↔ ((p : List ℕ) × ReadsTo s p m)

-- .. and 5 is given exactly if none does, whatever the room.
abbrev pub FiveExactly : Type 0
FiveExactly =
    (s : Sheet) → T (valid_alone s) → (message : Outcome) (names : List ℕ) (room : ℕ) (m : Meaning) → meaning names message ≡ some m
    → (write_of s message names room ≡ refused 5) ↔ ((p : List ℕ) → ReadsTo s p m → ⊥)

-- ---- the canonical packet

-- A packet that reads well and is written again gives a canonical packet of the same meaning, and the same octets exactly if it
-- was canonical.
pub record Again (s : Sheet) (p q : List ℕ) (m : Meaning) : Type 0 where
  pub written : (room : ℕ) → length q ≤ room → write_of s (read_of s p) p room ≡ made q
  pub reads : ReadsTo s q m
  pub is_canonical : T (canonical (numbers_of s) q)
  pub same_exactly : (q ≡ p) ↔ T (canonical (numbers_of s) p)

abbrev pub WrittenAgain : Type 0
WrittenAgain = (s : Sheet) (p : List ℕ) (m : Meaning) → ReadsTo s p m → (q : List ℕ) × Again s p q m

-- It is the only canonical packet of that meaning.
abbrev pub CanonicalOnce : Type 0
CanonicalOnce =
    (s : Sheet) (p q : List ℕ) (m : Meaning) → ReadsTo s p m → ReadsTo s q m
    → T (canonical (numbers_of s) p) → T (canonical (numbers_of s) q) → p ≡ q

-- Read and written once more, it is itself: twice does nothing more.
abbrev pub Twice : Type 0
Twice =
    (s : Sheet) (p q : List ℕ) (m : Meaning) → Again s p q m
    → (room : ℕ) → length q ≤ room → write_of s (read_of s q) q room ≡ made q
