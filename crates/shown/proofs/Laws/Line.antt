-- Laws of what is printed for a line under a sheet. Assumes nothing.
use mathlib.Core.Path.{◌≡◌, refl}
use Prim.Native.Nat.{ℕ}
use mathlib.Core.List.{List}
use mathlib.Core.Option.{Option, none, some}
use Rattle.octets.proofs.Choice.{T_true}
use Rattle.sheet.specs.Value.{valid_alone}
use Rattle.kinds.specs.Kind.{numbers_of}
use Rattle.kinds.specs.Reading.{Outcome, read_of, read_by}
use Rattle.hex_line.specs.Line.{packet_in}
use Rattle.shown.specs.Line.{line_as, line_of, line_by}
use Rattle.shown.specs.Claims.{UnderASheet}

-- packets that are read alike are printed alike
line_as-alike : (f g : List ℕ → Outcome) → ((p : List ℕ) → f p ≡ g p) → (o : Option (List ℕ)) → line_as f o ≡ line_as g o
unfolding line_as
line_as-alike f g h none = refl
line_as-alike f g h (some p) = rw (h p)

-- under a valid sheet packets are read as under its numbers
pub under_a_sheet : UnderASheet
unfolding line_of line_by read_of
under_a_sheet s line v =
    line_as-alike (read_of s) (read_by (numbers_of s)) (λ p. rw (T_true (valid_alone s) v)) (packet_in line)
