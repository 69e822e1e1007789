-- What is claimed of a plan. Each has its proof under proofs/. Assumes nothing.
use Rattle.std.specs.Prelude.{◌≡◌, ℕ, List, length, T}
use Rattle.std.proofs.Math.Option.{some}
use Rattle.sheet.specs.Value.{sheet_from}
use Rattle.packet.specs.Row.{message_in}
use Rattle.plan.specs.declared.Plan.{Plan}
use Rattle.packet.specs.Meaning.{meaning}
use Rattle.plan.specs.Packet.{packet_for, fitting}
use Rattle.plan.specs.Plan.{plan_said, plan_of, plan_right, plan_octets, plan_packet, plan_size}

-- Where the message of a row has a plan, the numbers fit, each name is right, and the plan laid out is the packet of the message's meaning.
abbrev pub PlansThePacket : Type 0
PlansThePacket =
    (ns message names : List ℕ) (plan : Plan) → plan_said plan ≡ plan_of ns (message_in message) names
    → T (fitting ns) × T (plan_right names plan) × (packet_for (sheet_from ns) (meaning names (message_in message)) ≡ some (plan_packet names plan))

-- Where its names are right, a plan's fields take as many octets as its size says.
abbrev pub TakesItsSize : Type 0
TakesItsSize = (names : List ℕ) (plan : Plan) → T (plan_right names plan) → length (plan_octets names plan) ≡ plan_size plan
