-- Laws of the packet on a line: what is printed for the line is the text of its packet, and a refusal where it is no packet's. Assumes nothing.
use mathlib.Core.Path.{◌≡◌, refl, ◌∙◌}
use Prim.Native.Nat.{ℕ}
use mathlib.Core.List.{List, []}
use mathlib.Core.Option.{Option, none, some}
use Rattle.std.specs.Prelude as code
use Rattle.octets.proofs.Buffer.{take-padded}
use Rattle.kinds.specs.declared.Numbers.{Numbers}
use Rattle.kinds.specs.Reading.{refused, read_by}
use Rattle.hex_line.specs.declared.Packet.{Packet}
use Rattle.hex_line.specs.Line.{packet_in, packet_of, packet_as, most_octets}
use Rattle.hex_line.specs.Promises.{as_slice≡}
use Rattle.shown.specs.Line.{text_of, line_as, line_by}

-- the octets of a packet are what its struct holds
held_octets : (p : List ℕ) (r : Packet) (octets : List ℕ) → r ≡ packet_of p → as_slice≡ r octets → octets ≡ p
held_octets p r octets e s = s ∙ rw e (take-padded most_octets 0 p)

module _ (n : Numbers) where
  line_as-none : (o : Option (List ℕ)) → code.None ≡ packet_as o → line_as (read_by n) o ≡ text_of [] (refused 1 0)
  unfolding packet_as line_as
  line_as-none none e = refl
  line_as-none (some p) e = cc

  line_as-some : (o : Option (List ℕ)) (r : Packet) → code.Some r ≡ packet_as o → (octets : List ℕ) → as_slice≡ r octets
      → line_as (read_by n) o ≡ text_of octets (read_by n octets)
  unfolding packet_as line_as
  line_as-some none r e octets s = cc
  line_as-some (some p) r e octets s =
      let is : r ≡ packet_of p = cc in
      rw (held_octets p r octets is s)

  -- a line that is no packet's
  pub line_by-none : (line : List ℕ) → code.None ≡ packet_as (packet_in line) → line_by n line ≡ text_of [] (refused 1 0)
  unfolding line_by
  line_by-none line e = line_as-none (packet_in line) e

  -- a packet's line
  pub line_by-some : (line : List ℕ) (r : Packet) → code.Some r ≡ packet_as (packet_in line) → (octets : List ℕ) → as_slice≡ r octets
      → line_by n line ≡ text_of octets (read_by n octets)
  unfolding line_by
  line_by-some line r e octets s = line_as-some (packet_in line) r e octets s
