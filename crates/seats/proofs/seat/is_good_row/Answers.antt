-- `seats::seat::is_good_row` meets its contract: as many of the row's first octets as are not zero are a User ID, and no row before it
-- is the same; where no seat is, none are. Assumes nothing.
use mathlib.Core.Path.{◌≡◌, sym, ◌∙◌}
use mathlib.Core.List.{List, []}
use Prim.Native.Nat.{ℕ}
use lib.ListN.{get_or, take}
use borrow.Author.Rules.{rules}
use borrow.Author.Tests.{tests}
use Rattle.std.proofs.lemmas.Iterator.{YieldsList-from_slice}
use Rattle.std.proofs.lemmas.Iterator.Search.{any_from_yields_List}
use Rattle.octets.specs.Choice.{same}
use Rattle.octets.proofs.Choice.{true-T}
use Rattle.sheet.specs.Judge.{user_id}
use Rattle.seats.specs.Inner.{filled}
use Rattle.seats.proofs.Laws.Filled.{unused-filled, used-bad, used-new}
use Rattle.seats.proofs.seat.is_good_row.Goals as goal

pub returns-then-seats-s : goal.returns-then-seats-s
returns-then-seats-s c =
    let a = c.args in
    rw c.filled-n.ensures.0 (sym (unused-filled a.seats a.users.now a.s c.filled-n.ensures.2 c.if-seats-s.true))

pub returns-then-is_user_id : goal.returns-then-is_user_id
returns-then-is_user_id c =
    let a = c.args in
    let row : List ℕ = get_or a.users.now a.s [] in
    let named : c.is_user_id.result ≡ user_id (take (filled row) row) = c.is_user_id.ensures ∙ rw c.filled-n.ensures.0 in
    let taken = any_from_yields_List (λ (other : List ℕ). same other row) _ _ c.any.result c.any.ensures.ran (YieldsList-from_slice (take a.s a.users.now) cc)
    (λ x b q k. search (rules, tests)) in
    used-new a.seats a.users.now a.s c.filled-n.ensures.2 c.if-seats-s.false (true-T _ (sym named ∙ c.if-is_user_id.true)) c.requires.1 _ taken

pub returns-else-is_user_id : goal.returns-else-is_user_id
returns-else-is_user_id c =
    let a = c.args in
    let row : List ℕ = get_or a.users.now a.s [] in
    let named : c.is_user_id.result ≡ user_id (take (filled row) row) = c.is_user_id.ensures ∙ rw c.filled-n.ensures.0 in
    c.if-is_user_id.false ∙ sym (used-bad a.seats a.users.now a.s c.filled-n.ensures.2 c.if-seats-s.false (sym named ∙ c.if-is_user_id.false))
