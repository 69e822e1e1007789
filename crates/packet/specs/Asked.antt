-- What a packet asks of the controller, as far as an event goes by it (document 01, "Stream record": "A packet makes an event only so: kinds 1 and 3 by
-- sender's seat, stream found from Source ID or User ID; kind 6 on the sender's own stream"). Assumes nothing.
use Rattle.std.specs.Prelude.{ℕ, Bool, get_or, eqb, Option, Some, None, Result, Ok, Err}
use Rattle.octets.specs.Choice.{pick}
use Rattle.sheet.specs.declared.Refusal.{Refusal}
use Rattle.sheet.specs.Refusal.{refusal_number, refusal_line}
use Rattle.packet.specs.declared.Asked.{Asked}
use Rattle.packet.specs.declared.Asked.TheVariants.{Request, End, EndResponse}
use Rattle.kinds.specs.Judge.{Held, absent}
use Rattle.kinds.specs.Reading.{Outcome, reads, refused}
use Rattle.packet.specs.Message.{name_said}

-- of kind 1 the SSRC, the User ID and the Source ID; of kind 3 the SSRC and the User ID of the transmitter; of kind 6 the SSRC, and whether an Ack is
-- asked; of another kind nothing
pub data Asks : Type 0 where
  request : ℕ → Held → Held → Asks
  end : ℕ → Held → Asks
  end_response : ℕ → Bool → Asks
  nothing : Asks
  refusal : ℕ → ℕ → Asks

unfoldable pub asks_of : Outcome → Asks
asks_of (reads kind ssrc ack values) =
    pick (eqb kind 1) (request ssrc (get_or values 0 absent) (get_or values 1 absent))
    (pick (eqb kind 3) (end ssrc (get_or values 0 absent))
    (pick (eqb kind 6) (end_response ssrc ack) nothing))
asks_of (refused number at) = refusal number at

abbrev pub asks_said : Option Asked → Asks
asks_said None = nothing
asks_said (Some (Request ssrc user source)) = request ssrc (name_said user) (name_said source)
asks_said (Some (End ssrc transmitter)) = end ssrc (name_said transmitter)
asks_said (Some (EndResponse h)) = end_response h.ssrc h.ack

abbrev pub asked_said : Result (Option Asked) Refusal → Asks
asked_said (Ok a) = asks_said a
asked_said (Err r) = refusal (refusal_number r) (refusal_line r)
