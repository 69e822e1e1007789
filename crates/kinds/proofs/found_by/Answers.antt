-- `kinds::found_by` meets its contract: the checks in their order, each with the refusal that `read_by` gives there.
-- Assumes nothing.
use mathlib.Core.Path.{◌≡◌, refl, sym, ◌∙◌}
use mathlib.Core.List.{List}
use Prim.Native.Nat.{ℕ, ◌≤◌, ◌<◌}
use native.Mathlib.Nat.{le_antisymm}
use native.Mathlib.Omega.{arith}
use borrow.Author.Tests.{ne_eqb}
use lib.ListN.{length}
use Rattle.std.specs.Prelude.{Option, Some, None, ok_or, Ok, Err}
use Rattle.std.proofs.lemmas.Result.{err_from_is_err_and}
use Rattle.sheet.specs.declared.Refusal.{Refusal}
use Rattle.sheet.specs.declared.Refusal.TheVariants.{Kind as NoKind, Layout}
use Rattle.fields.specs.Header.{first_field, checked}
use Rattle.fields.specs.Walk.{stop_from, whole}
use Rattle.fields.proofs.Laws.Sized.{sized}
use Rattle.fields.proofs.Laws.Checks.{checked_ok}
use Rattle.fields.proofs.Laws.Walk.{stop_from-le}
use Rattle.kinds.specs.declared.kind.Kind.{Kind}
use Rattle.kinds.specs.declared.Numbers.{Numbers}
use Rattle.kinds.specs.Kind.{kind_of}
use Rattle.kinds.specs.Reading.{read_as, read_by}
use Rattle.kinds.specs.Inner.{row_found}
use Rattle.kinds.proofs.Laws.Found.{none_found}
use Rattle.kinds.proofs.Laws.Reading.{read_by-past, read_by-failed}
use Rattle.kinds.proofs.Laws.Values.{read_as-cut}
use Rattle.kinds.proofs.found_by.Goals as goal

-- no kind was found, ..
no_kind : (o : Option Kind) (r : Refusal) → ok_or o NoKind ≡ Err r → (o ≡ None) × (r ≡ NoKind)
no_kind (Some k) r e = cc
no_kind None r e = (refl, cc)

-- .. or this one
one_kind : (o : Option Kind) (kind : Kind) → ok_or o NoKind ≡ Ok kind → o ≡ Some kind
one_kind (Some k) kind e = cc
one_kind None kind e = cc

-- past the checks the kind decides
past_head : (n : Numbers) (p : List ℕ) → Ok tt ≡ checked p → (o found : Option Kind) → kind_of n p ≡ row_found n o → o ≡ found
    → read_by n p ≡ read_as n p (row_found n found)
past_head n p h o found e f = rw (read_by-past n p (checked_ok p h), e, f)

pub returns-in_err-check : goal.returns-in_err-check
returns-in_err-check c =
    let a = c.args in
    let is = err_from_is_err_and c.from_residual.result c.from_residual.ensures.1 in
    rw (is.1, is.2) (none_found a.numbers a.packet.now _ (read_by-failed a.numbers a.packet.now _ c.in_err-check.ensures))

pub kind_of-requires : goal.kind_of-requires
kind_of-requires c =
    let p = c.args.packet.now in
    (sized p (checked_ok p c.in_ok-check.ensures).0).least

pub returns-in_err-kind : goal.returns-in_err-kind
unfolding read_as
returns-in_err-kind c =
    let a = c.args in
    let is = err_from_is_err_and c.from_residual-in_err-kind.result c.from_residual-in_err-kind.ensures.1 in
    let none = no_kind c.kind_of.result _ (sym c.in_err-kind.ensures.value) in
    rw (is.1, is.2, none.1)
    (none_found a.numbers a.packet.now NoKind (past_head a.numbers a.packet.now c.in_ok-check.ensures _ _ c.kind_of.ensures none.0))

pub returns-then-walk-packet : goal.returns-then-walk-packet
unfolding whole
returns-then-walk-packet c =
    let a = c.args in
    let p = a.packet.now in
    let short : stop_from p first_field < length p = rw c.walk.ensures at c.if-walk-packet.true in
    let kind = one_kind c.kind_of.result _ (sym c.in_ok-kind.ensures.value) in
    none_found a.numbers p Layout
    (past_head a.numbers a.packet.now c.in_ok-check.ensures _ _ c.kind_of.ensures kind ∙ read_as-cut a.numbers p c.in_ok-kind.kind (ne_eqb (stop_from p first_field) (length p) (λ e. omega arith)))

pub invariant_of-sorted : goal.invariant_of-sorted
invariant_of-sorted c =
    let p = c.args.packet.now in
    let size = sized p (checked_ok p c.in_ok-check.ensures).0 in
    let whole : length p ≤ stop_from p first_field = rw c.walk.ensures at c.if-walk-packet.false in
    record {
      walked = record {
        least = size.least;
        most = size.most;
        whole = le_antisymm (stop_from-le p first_field size.least) whole;
      };
    }

pub returns : goal.returns
returns c =
    let a = c.args in
    let kind = one_kind c.kind_of.result _ (sym c.in_ok-kind.ensures.value) in
    rw (past_head a.numbers a.packet.now c.in_ok-check.ensures _ _ c.kind_of.ensures kind) c.sorted.ensures
