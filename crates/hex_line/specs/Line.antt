-- The packet on a line of hex (document 01, "Bench program": "A line not hex, odd, empty, or above 512 digits prints refused=1"). Assumes nothing.
use Rattle.std.specs.Prelude.{ℕ, Bool, ◌&&◌, List, length, leb}
use Rattle.std.specs.Prelude as code
use Rattle.std.proofs.Math.Option.{Option, none, some}
use Rattle.octets.specs.Choice.{pick}
use Rattle.octets.specs.Buffer.{padded}
use Rattle.octets.specs.Hex.{is_hex, hex_octets}
use Rattle.hex_line.specs.declared.Packet.{Packet}

-- "above 512 digits"
abbrev pub most_digits : ℕ
most_digits = 512

-- a line that is not "not hex, odd, empty, or above 512 digits"
unfoldable pub line_right : List ℕ → Bool
line_right line = leb 1 (length line) && (leb (length line) most_digits && is_hex line)

unfoldable pub packet_in : List ℕ → Option (List ℕ)
packet_in line = pick (line_right line) (some (hex_octets line)) none

-- the struct that holds it
abbrev pub most_octets : ℕ
most_octets = 256

abbrev pub packet_of : List ℕ → Packet
packet_of p = record { octets = padded most_octets 0 p; len = length p }

unfoldable pub packet_as : Option (List ℕ) → code.Option Packet
packet_as none = code.None
packet_as (some p) = code.Some (packet_of p)
