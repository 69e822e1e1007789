-- What the inner functions say. The public promises rest on these, and nobody need believe them: each is only a step of a proof. Assumes nothing.
use Rattle.std.specs.Prelude.{ℕ, Bool, List, [], ◌∷◌, get_or, eqb, ltb}
use Rattle.std.proofs.Math.Option.{Option, none}
use Rattle.octets.specs.Choice.{pick}
use Rattle.streams.specs.declared.What.{What}
use Rattle.streams.specs.declared.What.TheVariants.{Request, End, Open, T11, EndResponse, Release}
use Rattle.streams.specs.declared.Answer.{Answer}
use Rattle.streams.specs.declared.Answer.TheVariants.{GrantedFirst, Granted as GrantedMore, GrantedAgain, Rejected as AnswerRejected, Ended, EndedLast, Opened, EndRequested, Freed, FreedWithAck, ReleasedIdle, ReleasedWatched, ReleasedEnding, Discarded}
use Rattle.streams.specs.declared.Record.{Record}
use Rattle.rows.specs.Rows.{record_in}

-- ---- events

-- by its number, which counts from 0 here
abbrev pub likely_whats : ℕ → Bool → List What
likely_whats by ack = Release ∷ Request by ∷ End by ∷ Open ∷ T11 ∷ EndResponse ack ∷ []

abbrev pub likely_what : ℕ → ℕ → Bool → What
likely_what number by ack = get_or (likely_whats by ack) number Release

-- ---- answers

abbrev pub likely_grant : ℕ → Answer
likely_grant stops = pick (eqb stops 10) GrantedFirst (pick (eqb stops 2) GrantedMore GrantedAgain)

abbrev pub likely_end : ℕ → Answer
likely_end starts = pick (eqb starts 0) Ended EndedLast

abbrev pub likely_freed : ℕ → Answer
likely_freed kind = pick (eqb kind 0) Freed FreedWithAck

abbrev pub likely_release : ℕ → Answer
likely_release stops = pick (eqb stops 8) ReleasedIdle (pick (eqb stops 1) ReleasedEnding ReleasedWatched)

-- by its number, which counts from 0 here
abbrev pub likely_answers : ℕ → ℕ → ℕ → ℕ → List Answer
likely_answers kind cause stops starts =
    Discarded
    ∷ likely_grant stops
    ∷ AnswerRejected cause
    ∷ likely_end starts
    ∷ EndRequested cause
    ∷ likely_freed kind
    ∷ Opened
    ∷ likely_release stops
    ∷ []

abbrev pub likely_answer : ℕ → ℕ → ℕ → ℕ → ℕ → Answer
likely_answer done kind cause stops starts = get_or (likely_answers kind cause stops starts) done Discarded

-- ---- records

-- the record of two numbers, the second of which fits an octet
abbrev pub record_held : ℕ → ℕ → Option Record
record_held p b = pick (ltb b 256) (record_in p b) none
