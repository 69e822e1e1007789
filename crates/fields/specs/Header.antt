-- The header of a packet (document 01, "Packet"; RFC 3550, 6.7, the APP packet). Stricter than RFC 3550: one packet fills the
-- lent slice, and the padding bit is clear. Assumes nothing.
use Rattle.std.specs.Prelude.{ℕ, ◌+◌, ◌*◌, ◌/◌, ◌%◌, Bool, ◌&&◌, List, length, get_or, take, drop, leb, eqb, Result, Ok, Err}
use Rattle.octets.specs.Choice.{pick}
use Rattle.octets.specs.Big.{big_at}
use Rattle.sheet.specs.declared.Refusal.{Refusal}
use Rattle.sheet.specs.Refusal.{refusal_by}

-- the fields follow the header's twelve octets
abbrev pub first_field : ℕ
first_field = 12

abbrev pub word : ℕ
word = 4

-- "12 to 256 octets, a multiple of 4"
unfoldable pub size_right : List ℕ → Bool
size_right p = leb first_field (length p) && (leb (length p) 256 && eqb (length p % word) 0)

-- "version 2 (two bits), padding bit 0, subtype (five bits)"
unfoldable pub version_right : List ℕ → Bool
version_right p = eqb (get_or p 0 0 / 64) 2 && eqb (get_or p 0 0 / 32 % 2) 0

-- "Second: 204. Then a 16-bit length, words minus one, equal to the lent slice"
unfoldable pub head_right : List ℕ → Bool
head_right p = version_right p && (eqb (get_or p 1 0) 204 && eqb ((big_at 2 p 2 + 1) * word) (length p))

-- checks 1 and 2, "Checked in that order": what follows past both, or the refusal of the first that fails
abbrev pub past_checks {ℓ} : {A : Type ℓ} → (ℕ → A) → List ℕ → A → A
past_checks refuse p next = pick (size_right p) (pick (head_right p) next (refuse 2)) (refuse 1)

-- the refusal of the one that fails, which "returns its number only"
unfoldable pub checked : List ℕ → Result Unit Refusal
checked p = past_checks (λ (number : ℕ). Err (refusal_by number 0)) p (Ok tt)

-- "The first bit of the subtype asks for an Ack; the other four are the message's number from the sheet"
unfoldable pub ack_asked : List ℕ → Bool
ack_asked p = eqb (get_or p 0 0 / 16 % 2) 1

unfoldable pub number_in : List ℕ → ℕ
number_in p = get_or p 0 0 % 16

-- "Then the SSRC, then four ASCII letters"
unfoldable pub ssrc_in : List ℕ → ℕ
ssrc_in p = big_at 4 p 4

unfoldable pub letters_in : List ℕ → List ℕ
letters_in p = take 4 (drop 8 p)
