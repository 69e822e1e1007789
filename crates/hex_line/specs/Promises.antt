-- What each public function promises, one predicate a function, NAME≡: the equation that its answer meets, for every input. Beside it, NAME-once: no
-- second answer meets it. Assumes nothing.
use Rattle.std.specs.Prelude.{◌≡◌, ℕ, List, take, Option}
use Rattle.octets.specs.Promises.{one_value}
use Rattle.hex_line.specs.declared.Packet.{Packet}
use Rattle.hex_line.specs.Line.{packet_in, packet_as}

-- the packet on a line, or none
abbrev pub packet_in≡ : List ℕ → Option Packet → Type 0
packet_in≡ line r = r ≡ packet_as (packet_in line)

pub packet_in-once : (line : List ℕ) (x y : Option Packet) → packet_in≡ line x → packet_in≡ line y → x ≡ y
packet_in-once line x y p q = one_value x y p q

-- the octets of the packet that a struct holds
abbrev pub as_slice≡ : Packet → List ℕ → Type 0
as_slice≡ packet r = r ≡ take packet.len packet.octets

pub as_slice-once : (packet : Packet) (x y : List ℕ) → as_slice≡ packet x → as_slice≡ packet y → x ≡ y
as_slice-once packet x y p q = one_value x y p q
