-- Text printed into the front of a buffer: whole where there is room for it, else 11, "output shorter", and a refusal "changes no lent octet" (document 01,
-- "Refusals"). Assumes nothing.
use Rattle.std.specs.Prelude.{◌≡◌, ℕ, Bool, List, length, Result, Ok, Err}
use Rattle.octets.specs.Choice.{pick}
use Rattle.octets.specs.Buffer.{over}
use Rattle.octets.specs.Promises.{one_value}
use Rattle.sheet.specs.declared.Refusal.{Refusal}
use Rattle.sheet.specs.declared.Refusal.TheVariants.{NoRoom}

-- what is answered of a text, by whether there is room, and what the buffer, which held `out`, holds then
abbrev pub Prints : Bool → List ℕ → List ℕ → Result ℕ Refusal → List ℕ → Type 0
Prints room text out r now = (r ≡ pick room (Ok (length text)) (Err NoRoom)) × (now ≡ pick room (over text out) out)

pub prints-once : (room : Bool) (text out : List ℕ) (x y : Result ℕ Refusal) (now other : List ℕ)
    → Prints room text out x now → Prints room text out y other → (x ≡ y) × (now ≡ other)
prints-once room text out x y now other e f = (one_value x y e.0 f.0, one_value now other e.1 f.1)
