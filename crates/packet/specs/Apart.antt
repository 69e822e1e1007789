-- Answers that say the same are the same (document 01: "a definition sets out this paper's number and values for each of its
-- cases"): from what is said the answer is got back. Assumes nothing.
use Rattle.std.specs.Prelude.{◌≡◌, refl, ℕ, [], ◌∷◌, get_or, Option, Some, None, Result, Ok, Err}
use Rattle.std.proofs.Common.{sym, ap, ◌∙◌}
use Rattle.sheet.specs.declared.Refusal.{Refusal}
use Rattle.sheet.specs.Refusal.{refusal_by, refusal_back}
use Rattle.packet.specs.declared.Name.{Name}
use Rattle.packet.specs.declared.Head.{Head}
use Rattle.packet.specs.declared.Verdict.{Verdict}
use Rattle.packet.specs.declared.Verdict.TheVariants.{Granted, Rejected}
use Rattle.packet.specs.declared.Message.{Message}
use Rattle.packet.specs.declared.Message.TheVariants.{ReceiveRequest, ReceiveResponse, EndRequest, EndResponse, TransmissionEnd, TransmissionEndResponse, Ack}
use Rattle.packet.specs.declared.Asked.{Asked}
use Rattle.packet.specs.declared.Asked.TheVariants.{Request, End, EndResponse}
use Rattle.kinds.specs.Judge.{Held, absent, given, named}
use Rattle.kinds.specs.Reading.{Outcome, reads, refused}
use Rattle.packet.specs.Message.{message_said, read_said}
use Rattle.packet.specs.Asked.{Asks, request, end, end_response, nothing, refusal, asked_said}

-- ---- a value got back

abbrev name_back : Held → Name
name_back absent = record { at = 0; len = 0 }
name_back (given n) = record { at = 0; len = 0 }
name_back (named at len) = record { at = at; len = len }

abbrev indicator_back : Held → Option ℕ
indicator_back absent = None
indicator_back (given n) = Some n
indicator_back (named at len) = None

abbrev verdict_back : Held → Verdict
verdict_back absent = Granted
verdict_back (given cause) = Rejected cause
verdict_back (named at len) = Granted

abbrev number_back : Held → ℕ
number_back absent = 0
number_back (given n) = n
number_back (named at len) = 0

-- ---- an answer got back

-- the message of a kind with three values
abbrev message_back : ℕ → Head → Held → Held → Held → Message
message_back kind h a b c =
    get_or
    (TransmissionEndResponse h
    ∷ ReceiveRequest h (name_back a) (name_back b) (indicator_back c)
    ∷ ReceiveResponse h (verdict_back b) (indicator_back c)
    ∷ EndRequest h (name_back a) (indicator_back b)
    ∷ EndResponse h (name_back a)
    ∷ TransmissionEnd h (number_back a) (indicator_back b)
    ∷ TransmissionEndResponse h
    ∷ Ack h (number_back a) (number_back b)
    ∷ [])
    kind
    (TransmissionEndResponse h)

abbrev read_back : Outcome → Result Message Refusal
read_back (reads kind ssrc ack values) =
    Ok (message_back kind (record { ssrc = ssrc; ack = ack }) (get_or values 0 absent) (get_or values 1 absent) (get_or values 2 absent))
read_back (refused number at) = Err (refusal_by number at)

message_back_lem : (m : Message) → read_back (message_said m) ≡ Ok m
message_back_lem (ReceiveRequest h user source None) = refl
message_back_lem (ReceiveRequest h user source (Some n)) = refl
message_back_lem (ReceiveResponse h Granted None) = refl
message_back_lem (ReceiveResponse h Granted (Some n)) = refl
message_back_lem (ReceiveResponse h (Rejected cause) None) = refl
message_back_lem (ReceiveResponse h (Rejected cause) (Some n)) = refl
message_back_lem (EndRequest h transmitter None) = refl
message_back_lem (EndRequest h transmitter (Some n)) = refl
message_back_lem (EndResponse h transmitter) = refl
message_back_lem (TransmissionEnd h cause None) = refl
message_back_lem (TransmissionEnd h cause (Some n)) = refl
message_back_lem (TransmissionEndResponse h) = refl
message_back_lem (Ack h source about) = refl

abbrev asked_back : Asks → Result (Option Asked) Refusal
asked_back (request ssrc user source) = Ok (Some (Request ssrc (name_back user) (name_back source)))
asked_back (end ssrc transmitter) = Ok (Some (End ssrc (name_back transmitter)))
asked_back (end_response ssrc ack) = Ok (Some (EndResponse (record { ssrc = ssrc; ack = ack })))
asked_back nothing = Ok None
asked_back (refusal number at) = Err (refusal_by number at)

asked_back_lem : (x : Result (Option Asked) Refusal) → asked_back (asked_said x) ≡ x
asked_back_lem (Ok None) = refl
asked_back_lem (Ok (Some (Request ssrc user source))) = refl
asked_back_lem (Ok (Some (End ssrc transmitter))) = refl
asked_back_lem (Ok (Some (EndResponse h))) = refl
asked_back_lem (Err r) = rw (refusal_back r)

read_back_lem : (r : Result Message Refusal) → read_back (read_said r) ≡ r
read_back_lem (Ok m) = message_back_lem m
read_back_lem (Err r) = rw (refusal_back r)

-- ---- so no two say the same

-- of messages: the definition that sets out their values tells them apart
pub message_apart : (x y : Message) → message_said x ≡ message_said y → x ≡ y
message_apart x y e = inside (sym (message_back_lem x) ∙ ap read_back e ∙ message_back_lem y)
  where
    inside : {a b : Message} → ◌≡◌ {A = Result Message Refusal} (Ok a) (Ok b) → a ≡ b
    inside q = cc

-- of answers to a packet
pub reading_apart : (x y : Result Message Refusal) → read_said x ≡ read_said y → x ≡ y
reading_apart x y e = sym (read_back_lem x) ∙ ap read_back e ∙ read_back_lem y

-- of what packets ask
pub asked_apart : (x y : Result (Option Asked) Refusal) → asked_said x ≡ asked_said y → x ≡ y
asked_apart x y e = sym (asked_back_lem x) ∙ ap asked_back e ∙ asked_back_lem y
