-- The event table (document 01, "Stream record"), a definition for each row, in its order and words. Its sources: document 002, 6.3.6.3.6 and
-- 6.3.6.4.3 (request), 6.3.6.4.4 (end), 6.3.6.3.3 and 6.3.6.4.10 (open), 6.3.6.3.9 and 6.3.6.4.12 (T11), 6.3.4.4.13 (cause 8), 6.3.5.6.8 (end
-- response), 6.3.6.3.8 and 6.3.6.4.11 (release); document 004 (causes 0 and 1). House: the repeated request that is not counted twice.
-- T4 and T6 differ from 002: docs/DECISIONS.md, 48. Behind the table, what one event with its answer says of a seat, which the history of a stream
-- goes by. Assumes nothing.
use Rattle.std.specs.Prelude.{ℕ, Bool, true, false, ◌&&◌, ◌||◌, [], ◌∷◌, eqb, leb, ltb}
use Rattle.std.proofs.Math.Option.{Option, none}
use Rattle.octets.specs.Choice.{pick}
use Rattle.sheet.specs.Table.{most_seats}
use Rattle.streams.specs.declared.Phase.TheVariants.{Free, Idle, Ending}
use Rattle.streams.specs.declared.Record.{Record}
use Rattle.streams.specs.declared.Event.{Event}
use Rattle.streams.specs.declared.What.{What}
use Rattle.streams.specs.declared.What.TheVariants.{Request, End, Open, T11 as T11Expired, EndResponse, Release}
use Rattle.streams.specs.declared.stream.Rules.{Rules}
use Rattle.streams.specs.declared.table.Change.{Change}
use Rattle.streams.specs.Record.{on_sheet, watches, set_bit, clear_bit, free, idle, watched, ending, count, is}
use Rattle.streams.specs.Answer.{Done, was, granted, rejected, ended, opened, end_requested, freed, released, discarded, Sent, T3, T5, T6, T11, Timers, Reply, reply, answer_said, grant, rejection, end_response, end_request, ack, timers, untouched}

-- ---- what a row says

-- the causes, by the sources' names
abbrev pub insufficient_downlink_bandwidth : ℕ
insufficient_downlink_bandwidth = 0

abbrev pub no_permission_to_receive : ℕ
no_permission_to_receive = 1

abbrev pub no_receiving_participant : ℕ
no_receiving_participant = 8

-- what becomes of a stream's record, and the answer
pub record Ruling : Type 0 where
  pub becomes : Record
  pub reply : Reply

abbrev pub ruling : Record → Done → Option Sent → Timers → Ruling
ruling x done sends timers = record { becomes = x; reply = reply done sends timers }

-- "Discarded: record kept, no message, no timer"
abbrev pub discard : Record → Ruling
discard x = ruling x discarded none untouched

abbrev pub reject : Record → ℕ → Ruling
reject x cause = ruling x rejected (rejection cause) untouched

-- ---- the rows

-- "bit set, grant, no change; limit reached, reject cause 0; else set the bit, Watched" and this answer
unfoldable pub joined : Rules → Record → ℕ → Reply → Ruling
joined q x r answer =
    let b = x.receivers in
    pick (watches b r) (ruling x granted grant untouched)
    (pick (leb q.limit (count x)) (reject x insufficient_downlink_bandwidth) (record { becomes = watched (set_bit b r); reply = answer }))

-- "request by r": "first that holds: r is s, reject cause 1; Free or Ending, reject cause 1", then the above; the answer is "grant, stop T5,
-- stop T11 if it was Idle, start T6"
unfoldable pub on_request : Rules → ℕ → Record → ℕ → Ruling
on_request q s x r =
    pick (eqb r s) (reject x no_permission_to_receive)
    (pick (is Free x || is Ending x) (reject x no_permission_to_receive)
    (joined q x r (reply granted grant (timers (T5 ∷ pick (is Idle x) (T11 ∷ []) []) (T6 ∷ [])))))

-- what a cleared bit leaves: "if then none is left, Idle and start T11"
unfoldable pub after_clearing : ℕ → Ruling
after_clearing b = pick (eqb b 0) (ruling idle ended end_response (timers [] (T11 ∷ []))) (ruling (watched b) ended end_response untouched)

-- "end by r": "always an end response; if the bit is set, clear it, and if then none is left, Idle and start T11; if it is not set, nothing
-- more"
unfoldable pub on_end : Record → ℕ → Ruling
on_end x r =
    let b = x.receivers in
    pick (watches b r) (after_clearing (clear_bit b r)) (ruling x ended end_response untouched)

-- "open": "Free: Idle, start T11; else discarded"
unfoldable pub on_open : Record → Ruling
on_open x = pick (is Free x) (ruling idle opened none (timers [] (T11 ∷ []))) (discard x)

-- "T11 expired": "Idle: Ending, Transmission end request with cause 8, start T3; else discarded"
unfoldable pub on_t11 : Record → Ruling
on_t11 x = pick (is Idle x) (ruling ending end_requested (end_request no_receiving_participant) (timers [] (T3 ∷ []))) (discard x)

-- "end response from s": "Ending: Free, stop T3, and an Ack (Source 2, Message Type 1) if asked; else discarded, no Ack"
unfoldable pub on_end_response : Record → Bool → Ruling
on_end_response x asked = pick (is Ending x) (ruling free freed (pick asked ack none) (timers (T3 ∷ []) [])) (discard x)

-- "release": "not Free: Free, stop T11 if Idle, T3 if Ending; Free: discarded"
unfoldable pub on_release : Record → Ruling
on_release x =
    pick (is Free x) (discard x)
    (ruling free released none (timers (pick (is Idle x) (T11 ∷ []) (pick (is Ending x) (T3 ∷ []) [])) []))

-- ---- the table

-- an event on stream s
unfoldable pub rule_for : Rules → ℕ → Record → What → Ruling
rule_for q s x (Request r) = on_request q s x r
rule_for q s x (End r) = on_end x r
rule_for q s x Open = on_open x
rule_for q s x T11Expired = on_t11 x
rule_for q s x (EndResponse asked) = on_end_response x asked
rule_for q s x Release = on_release x

-- the seat that an event comes from, if it names one, is on the sheet
abbrev pub sender_on : Rules → What → Bool
sender_on q (Request r) = on_sheet q r
sender_on q (End r) = on_sheet q r
sender_on q Open = true
sender_on q T11Expired = true
sender_on q (EndResponse asked) = true
sender_on q Release = true

-- ---- the table for every event, whatever seat it names

-- the seat that asks, if one does, has a bit in the byte of receivers
abbrev pub asker_fits : What → Bool
asker_fits (Request r) = ltb r most_seats
asker_fits (End r) = true
asker_fits Open = true
asker_fits T11Expired = true
asker_fits (EndResponse asked) = true
asker_fits Release = true

-- a request by a seat that has none, and so is on no sheet, is discarded
unfoldable pub change_for : Rules → ℕ → Record → What → Ruling
change_for q s x w = pick (asker_fits w) (rule_for q s x w) (discard x)

-- the code's change set out
abbrev pub change_said : Change → Ruling
change_said c = record { becomes = c.becomes; reply = answer_said c.answer }

-- ---- what one event with its answer says of a seat

-- an event with its answer
pub record Answered : Type 0 where
  pub event : Event
  pub reply : Reply

-- seat r asked and was granted
abbrev pub grants : ℕ → What → Done → Bool
grants r (Request by) done = eqb by r && was granted done
grants r (End by) done = false
grants r Open done = false
grants r T11Expired done = false
grants r (EndResponse asked) done = false
grants r Release done = false

-- an end by it, a release, or an opening that opened
abbrev pub undoes : ℕ → What → Done → Bool
undoes r (Request by) done = false
undoes r (End by) done = eqb by r
undoes r Open done = was opened done
undoes r T11Expired done = false
undoes r (EndResponse asked) done = false
undoes r Release done = true

abbrev pub grants_at : ℕ → Answered → Bool
grants_at r t = grants r t.event.what t.reply.done

abbrev pub undoes_at : ℕ → Answered → Bool
undoes_at r t = undoes r t.event.what t.reply.done
