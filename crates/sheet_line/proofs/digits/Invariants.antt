-- `sheet_line::digits` meets its contract: the number is the digits' so far, as far as CAP; with those still ahead it makes the whole.
use mathlib.Core.Path.{◌≡◌}
use Prim.Native.Nat.{ℕ, ◌+◌, min}
use lib.ListN.{length, drop}
use Rattle.octets.specs.Choice.{front}
use Rattle.octets.specs.Text.{digit, value_from, value_of}
use Rattle.sheet.specs.Inner.{cap}
use Rattle.sheet_line.proofs.digits.Given as goal

abbrev pub invariant-loop-i : goal.invariant-loop-i
invariant-loop-i l =
    (l.i + length (front digit (drop l.i l.text)) ≡ l.at + length (front digit (drop l.at l.text)))
    × (v : ℕ)
    × (l.number ≡ min v cap)
    × (value_from v (front digit (drop l.i l.text)) ≡ value_of (front digit (drop l.at l.text)))
