-- `incoming::event_lent` meets its contract: past the check of the sheet, which shows that there are nineteen numbers (`long`), the event goes by
-- what the packet asks (`asked_event`), whose names lie in the packet (`asked_right`). Assumes nothing.
use mathlib.Core.Bool.{true}
use mathlib.Core.List.{List}
use mathlib.Core.Path.{◌≡◌, sym, ap, ◌∙◌}
use native.Mathlib.Omega.{arith}
use Prim.Native.Nat.{ℕ}
use lib.ListN.{length}
use Rattle.std.proofs.lemmas.Result.{err_from_is_err_and}
use Rattle.octets.proofs.Choice.{true-T}
use Rattle.sheet.specs.Value.{sheet_in, valid_with}
use Rattle.sheet.proofs.Laws.Values.{valid-counted}
use Rattle.sheet.proofs.Laws.Seats.{valid-alone}
use Rattle.packet.specs.Asked.{asks_said}
use Rattle.incoming.proofs.Laws.Heard.{event-invalid, asked_right, asked_event}
use Rattle.incoming.proofs.event_lent.Goals as goal

pub returns-then-not-are_valid_with : goal.returns-then-not-are_valid_with
returns-then-not-are_valid_with c = rw (event-invalid _ _ _ (sym c.are_valid_with.ensures ∙ c.if-not-are_valid_with.true))

pub returns-in_err-asked : goal.returns-in_err-asked
returns-in_err-asked c =
    let passed = sym c.are_valid_with.ensures ∙ c.if-not-are_valid_with.false in
    let p = err_from_is_err_and c.from_residual.result c.from_residual.ensures.1 in
    rw (p.1, p.2, asked_event _ _ _ passed _ c.in_err-asked.ensures)

pub returns-in_default : goal.returns-in_default
returns-in_default c =
    let passed = sym c.are_valid_with.ensures ∙ c.if-not-are_valid_with.false in
    rw (asked_event _ _ _ passed _ c.in_ok-asked.ensures) (grind arith)

-- numbers that are a sheet's, User IDs and all, are nineteen
long : (ns : List ℕ) (users : List (List ℕ)) → valid_with (sheet_in ns) users ≡ true → length ns ≡ 19
long ns users passed = valid-counted ns (valid-alone _ _ (true-T _ passed))

pub senders_in-requires : goal.senders_in-requires
senders_in-requires c = long _ _ (sym c.are_valid_with.ensures ∙ c.if-not-are_valid_with.false)

pub event-requires : goal.event-requires
event-requires c = asked_right _ _ _ (ap asks_said (sym c.in-Some.is) ∙ c.in_ok-asked.ensures)

pub returns : goal.returns
returns c =
    let passed = sym c.are_valid_with.ensures ∙ c.if-not-are_valid_with.false in
    rw (asked_event _ _ _ passed _ (ap asks_said (sym c.in-Some.is) ∙ c.in_ok-asked.ensures)) (rw c.senders_in.ensures at c.event.ensures)
