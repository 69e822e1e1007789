-- What the inner functions say. The public promises rest on these, and nobody need believe them: each is only a step of a proof. Assumes nothing.
use Rattle.std.specs.Prelude.{◌≡◌, ℕ, ◌≤◌, false, ◌&&◌, List, ltb, Result, Ok, Err}
use Rattle.std.proofs.Math.Option.{Option, none, some}
use Rattle.octets.specs.Choice.{pick}
use Rattle.sheet.specs.declared.Sheet.{Sheet}
use Rattle.sheet.specs.declared.Refusal.{Refusal}
use Rattle.sheet.specs.declared.Refusal.TheVariants.{NotLegal, Sheet as NoSheet}
use Rattle.sheet.specs.Value.{sheet_in, valid_alone}
use Rattle.streams.specs.declared.Event.{Event}
use Rattle.streams.specs.declared.stream.Rules.{Rules}
use Rattle.streams.specs.Record.{on_sheet, legal}
use Rattle.streams.specs.Table.{sender_on}
use Rattle.reception.specs.Steps.{Try}
use Rattle.rows.specs.Rows.{is_some, records_in, event_in, try_in}

-- 12 line 0 before 9
abbrev pub misfit_of : Sheet → Refusal
misfit_of s = pick (valid_alone s) NotLegal (NoSheet 0)

-- the stream's number where there are eight records and it fits an octet, else that
abbrev pub StreamIn : List ℕ → List ℕ → ℕ → Result ℕ Refusal → Type 0
StreamIn sheet records stream r =
    r ≡ pick (is_some (records_in 8 records) && ltb stream 256) (Ok stream) (Err (misfit_of (sheet_in sheet)))

-- ---- events

-- no sheet has its stream and its sender
abbrev pub Nowhere : Event → Type 0
Nowhere e = (q : Rules) → q.seats ≤ 8 → (on_sheet q e.stream && sender_on q e.what) ≡ false

abbrev pub EventingIs : List ℕ → Option Event → Type 0
EventingIs row (some e) = event_in row ≡ some e
EventingIs row none = (e : Event) → event_in row ≡ some e → Nowhere e

-- ---- attempts

-- no sheet has its stream with two such records
abbrev pub NeverLegal : Try → Type 0
NeverLegal a =
    (q : Rules) → q.seats ≤ 8 → (on_sheet q a.stream && (legal q a.stream a.seen && legal q a.stream a.wanted)) ≡ false

abbrev pub TryingIs : List ℕ → Option Try → Type 0
TryingIs row (some a) = try_in row ≡ some a
TryingIs row none = (a : Try) → try_in row ≡ some a → NeverLegal a
