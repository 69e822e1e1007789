-- What a lent buffer holds after octets were put into it (document 01, "Packet": "leaves octets past the packet's end alone").
-- Assumes nothing.
use Rattle.std.specs.Prelude.{ℕ, ◌+◌, ◌-◌, Bool, List, ◌++◌, length, take, drop, replicate, leb, eqb}
use Rattle.octets.specs.Choice.{pick, every}

-- a buffer overwritten from its front: the octets, then what stood there before
unfoldable pub over : List ℕ → List ℕ → List ℕ
over xs s = xs ++ drop (length xs) s

-- a buffer with octets put at a place, whole or, where they do not fit, not at all
unfoldable pub put_at : List ℕ → ℕ → List ℕ → List ℕ
put_at s at xs = pick (leb (at + length xs) (length s)) (take at s ++ over xs (drop at s)) s

-- every octet from the place on is zero
unfoldable pub zeros_from : List ℕ → ℕ → Bool
zeros_from s at = every (λ (x : ℕ). eqb x 0) (drop at s)

-- a list filled up to n elements
unfoldable pub padded {ℓ} : {A : Type ℓ} → ℕ → A → List A → List A
padded n a xs = xs ++ replicate (n - length xs) a
