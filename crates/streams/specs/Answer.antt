-- What an event is answered with (document 01, "Stream record"): what was done, the message that goes out, and, apart from that, the
-- timers. Assumes nothing.
use Rattle.std.specs.Prelude.{ℕ, Bool, List, [], ◌∷◌, eqb}
use Rattle.std.proofs.Math.Option.{Option, none, some}
use Rattle.streams.specs.declared.Answer.{Answer}
use Rattle.streams.specs.declared.Answer.TheVariants.{GrantedFirst, Granted, GrantedAgain, Rejected, Ended, EndedLast, Opened, EndRequested, Freed, FreedWithAck, ReleasedIdle, ReleasedWatched, ReleasedEnding, Discarded}

-- ---- the parts of an answer

-- what was done: message and timers alone do not tell an end response that frees from a release, nor a release from a discarded event
pub data Done : Type 0 where
  granted : Done
  rejected : Done
  ended : Done
  end_requested : Done
  freed : Done
  opened : Done
  released : Done
  discarded : Done

-- by its number, which tells one from another
abbrev pub done_number : Done → ℕ
done_number granted = 1
done_number rejected = 2
done_number ended = 3
done_number end_requested = 4
done_number freed = 5
done_number opened = 6
done_number released = 7
done_number discarded = 8

-- this was done
abbrev pub was : Done → Done → Bool
was d done = eqb (done_number done) (done_number d)

-- a message that goes out: its kind, and Result and cause where it has them
pub record Sent : Type 0 where
  pub kind : ℕ
  pub result : Option ℕ
  pub cause : Option ℕ

pub data Timer : Type 0 where
  T3 : Timer
  T5 : Timer
  T6 : Timer
  T11 : Timer

-- "All unmentioned timers are untouched"
pub record Timers : Type 0 where
  pub stops : List Timer
  pub starts : List Timer

pub record Reply : Type 0 where
  pub done : Done
  pub sends : Option Sent
  pub timers : Timers

abbrev pub reply : Done → Option Sent → Timers → Reply
reply done sends timers = record { done = done; sends = sends; timers = timers }

-- ---- messages, by their kinds

-- kind 2, a Receive media response
abbrev pub grant : Option Sent
grant = some (record { kind = 2; result = some 1; cause = none })

abbrev pub rejection : ℕ → Option Sent
rejection c = some (record { kind = 2; result = some 0; cause = some c })

-- kind 4, a Media reception end response
abbrev pub end_response : Option Sent
end_response = some (record { kind = 4; result = none; cause = none })

-- kind 5, a Transmission end request
abbrev pub end_request : ℕ → Option Sent
end_request c = some (record { kind = 5; result = none; cause = some c })

-- kind 7, a Transmission control Ack; its Source and Message Type are the controller's to write
abbrev pub ack : Option Sent
ack = some (record { kind = 7; result = none; cause = none })

-- ---- timers

abbrev pub timers : List Timer → List Timer → Timers
timers stops starts = record { stops = stops; starts = starts }

abbrev pub untouched : Timers
untouched = timers [] []

-- ---- each answer set out

abbrev pub done_by : Answer → Done
done_by GrantedFirst = granted
done_by Granted = granted
done_by GrantedAgain = granted
done_by (Rejected c) = rejected
done_by Ended = ended
done_by EndedLast = ended
done_by Opened = opened
done_by (EndRequested c) = end_requested
done_by Freed = freed
done_by FreedWithAck = freed
done_by ReleasedIdle = released
done_by ReleasedWatched = released
done_by ReleasedEnding = released
done_by Discarded = discarded

-- the message that it sends
abbrev pub message_of : Answer → Option Sent
message_of GrantedFirst = grant
message_of Granted = grant
message_of GrantedAgain = grant
message_of (Rejected c) = rejection c
message_of Ended = end_response
message_of EndedLast = end_response
message_of Opened = none
message_of (EndRequested c) = end_request c
message_of Freed = none
message_of FreedWithAck = ack
message_of ReleasedIdle = none
message_of ReleasedWatched = none
message_of ReleasedEnding = none
message_of Discarded = none

-- the timers that it stops, and those that it starts
abbrev pub timers_of : Answer → Timers
timers_of GrantedFirst = timers (T5 ∷ T11 ∷ []) (T6 ∷ [])
timers_of Granted = timers (T5 ∷ []) (T6 ∷ [])
timers_of GrantedAgain = untouched
timers_of (Rejected c) = untouched
timers_of Ended = untouched
timers_of EndedLast = timers [] (T11 ∷ [])
timers_of Opened = timers [] (T11 ∷ [])
timers_of (EndRequested c) = timers [] (T3 ∷ [])
timers_of Freed = timers (T3 ∷ []) []
timers_of FreedWithAck = timers (T3 ∷ []) []
timers_of ReleasedIdle = timers (T11 ∷ []) []
timers_of ReleasedWatched = untouched
timers_of ReleasedEnding = timers (T3 ∷ []) []
timers_of Discarded = untouched

abbrev pub answer_said : Answer → Reply
answer_said a = reply (done_by a) (message_of a) (timers_of a)
