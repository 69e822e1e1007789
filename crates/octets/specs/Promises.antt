-- What each public function promises, one predicate a function, NAME≡: the equation that its answer, or its lent buffer
-- afterwards, meets. Beside it, NAME-once: no second answer meets it. Assumes nothing.
use Rattle.std.specs.Prelude.{◌≡◌, ℕ, List, [], ◌∷◌}
use Rattle.std.proofs.Common.{sym, ◌∙◌}
use Rattle.octets.specs.Big.{big_at, big_of}
use Rattle.octets.specs.Buffer.{put_at}

-- two answers that a definition gives, each set out by a definition that tells answers apart, are one answer
pub one_answer {ℓ κ} : {A : Type ℓ} {B : Type κ} (said : A → B) → ((x y : A) → said x ≡ said y → x ≡ y)
    → {b : B} (x y : A) → said x ≡ b → said y ≡ b → x ≡ y
one_answer said apart x y p q = apart x y (p ∙ sym q)

-- the same where the answer is set out as it is
pub one_value {ℓ} : {A : Type ℓ} {a : A} (x y : A) → x ≡ a → y ≡ a → x ≡ y
one_value x y p q = p ∙ sym q

-- the 16-bit number of two octets
abbrev pub u16_of≡ : ℕ → ℕ → ℕ → Type 0
u16_of≡ high low r = r ≡ big_at 2 (high ∷ low ∷ []) 0

pub u16_of-once : (high low x y : ℕ) → u16_of≡ high low x → u16_of≡ high low y → x ≡ y
u16_of-once high low x y p q = one_value x y p q

-- the 16-bit number at a place
abbrev pub u16_at≡ : List ℕ → ℕ → ℕ → Type 0
u16_at≡ s at r = r ≡ big_at 2 s at

pub u16_at-once : (s : List ℕ) (at x y : ℕ) → u16_at≡ s at x → u16_at≡ s at y → x ≡ y
u16_at-once s at x y p q = one_value x y p q

-- the 32-bit number at a place
abbrev pub u32_at≡ : List ℕ → ℕ → ℕ → Type 0
u32_at≡ s at r = r ≡ big_at 4 s at

pub u32_at-once : (s : List ℕ) (at x y : ℕ) → u32_at≡ s at x → u32_at≡ s at y → x ≡ y
u32_at-once s at x y p q = one_value x y p q

-- a 16-bit number put at a place
abbrev pub put_u16≡ : List ℕ → ℕ → ℕ → List ℕ → Type 0
put_u16≡ s at n after = after ≡ put_at s at (big_of 2 n)

pub put_u16-once : (s : List ℕ) (at n : ℕ) (x y : List ℕ) → put_u16≡ s at n x → put_u16≡ s at n y → x ≡ y
put_u16-once s at n x y p q = one_value x y p q

-- a 32-bit number put at a place
abbrev pub put_u32≡ : List ℕ → ℕ → ℕ → List ℕ → Type 0
put_u32≡ s at n after = after ≡ put_at s at (big_of 4 n)

pub put_u32-once : (s : List ℕ) (at n : ℕ) (x y : List ℕ) → put_u32≡ s at n x → put_u32≡ s at n y → x ≡ y
put_u32-once s at n x y p q = one_value x y p q

-- octets put at a place
abbrev pub put_octets≡ : List ℕ → ℕ → List ℕ → List ℕ → Type 0
put_octets≡ s at octets after = after ≡ put_at s at octets

pub put_octets-once : (s : List ℕ) (at : ℕ) (octets x y : List ℕ) → put_octets≡ s at octets x → put_octets≡ s at octets y → x ≡ y
put_octets-once s at octets x y p q = one_value x y p q
