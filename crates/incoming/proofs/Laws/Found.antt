-- A law of the sender's seat. Assumes nothing.
use mathlib.Core.Path.{◌≡◌, sym}
use mathlib.Core.List.{List}
use mathlib.Core.Option.{some}
use Prim.Native.Nat.{ℕ, ◌<◌}
use native.Mathlib.Omega.{arith}
use lib.ListN.{length, take, length-take}
use lib.Dec.{eqb}
use Rattle.std.specs.Prelude.{Option, Some, None, Result, IfOk, ok_or}
use Rattle.octets.proofs.Choice.{some-first-place}
use Rattle.sheet.specs.declared.Refusal.{Refusal}
use Rattle.sheet.specs.declared.Refusal.TheVariants.{Sender}
use Rattle.sheet.specs.Find.{seat_of_ssrc}
use Rattle.seats.specs.declared.Senders.{Senders}
use Rattle.seats.specs.Promises.{by_ssrc≡}

-- a seat that has the SSRC is one of those with an SSRC
seat-below : (seats : ℕ) (ssrcs : List ℕ) (ssrc s : ℕ) → seat_of_ssrc seats ssrcs ssrc ≡ some s → s < length ssrcs
unfolding seat_of_ssrc
seat-below seats ssrcs ssrc s e =
    omega (arith, rw length-take at (some-first-place (λ (x : ℕ). eqb x ssrc) (take seats ssrcs) 0 s e).inside)

-- so is the one that is given where it was found
pub found-below : (q : Senders) (ssrc : ℕ) (o : Option ℕ) (r : Result ℕ Refusal) → length q.ssrcs ≡ 8 → by_ssrc≡ q ssrc o → r ≡ ok_or o Sender
    → IfOk r (λ s. s < 8)
found-below q ssrc (Some s) r eight e h = rw h (omega (arith, seat-below q.seats q.ssrcs ssrc s (sym e)))
found-below q ssrc None r eight e h = rw h tt
