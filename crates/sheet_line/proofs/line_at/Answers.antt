-- `sheet_line::line_at` meets its contract: the key, digits without leading zeros and what follows them are the row's line.
-- Assumes nothing.
use mathlib.Core.Path.{◌≡◌, refl, sym, ap, ◌∙◌}
use mathlib.Core.List.{List}
use Prim.Native.Nat.{ℕ, ◌+◌}
use borrow.Author.Rules.{rules}
use lib.ListN.{length}
use Rattle.std.specs.Prelude.{Option, Some, None}
use Rattle.sheet.specs.Table.{row_at}
use Rattle.sheet_line.specs.declared.Line.{Line}
use Rattle.sheet_line.specs.Inner.{LineIs}
use Rattle.sheet_line.specs.Promises.{line_at≡}
use Rattle.sheet_line.proofs.Laws.LineAt.{key-found, line-no-key, line-not-plain, line-bad-tail, line-good, line-past, line_is}
use Rattle.sheet_line.proofs.line_at.Goals as goal

-- what the row's laws say of an answer is the answer
said : (t : List ℕ) (at k : ℕ) (x : Option Line) → LineIs t at (row_at k) x → line_at≡ t at k x
said t at k x h = (line_is t at (row_at k) x h, h)

-- the digits start behind the row's key
starts : (at k : ℕ) (key : List ℕ) → key ≡ (row_at k).key → at + length key ≡ at + length (row_at k).key
starts at k key told = ap (λ (octets : List ℕ). at + length octets) told

pub returns-in_err-get : goal.returns-in_err-get
returns-in_err-get c =
    let a = c.args in
    rw c.from_residual.ensures (said _ _ _ None (line-past a.text.now a.at (row_at a.k) (search rules)))

pub returns-then-not-starts_with : goal.returns-then-not-starts_with
returns-then-not-starts_with c =
    let a = c.args in
    let found = key-found a.text.now a.at (row_at a.k) _ _ _ c.in_ok-get.ensures.lookup.0.2 c.key_of-key.ensures c.starts_with.ensures.value in
    said _ _ _ None (line-no-key a.text.now a.at _ _ (row_at a.k) refl refl (sym found ∙ c.if-not-starts_with.true))

pub returns-then-not-is_plain : goal.returns-then-not-is_plain
returns-then-not-is_plain c =
    let a = c.args in
    said _ _ _ None
    (line-not-plain a.text.now a.at _ _ (row_at a.k) (starts a.at a.k _ c.key_of-key.ensures) c.digits-found.ensures.1
    (sym c.is_plain.ensures ∙ c.if-not-is_plain.true))

pub returns-in_err-rest : goal.returns-in_err-rest
returns-in_err-rest c =
    let a = c.args in
    rw c.from_residual-in_err-rest.ensures
    (said _ _ _ None
    (line-bad-tail a.text.now a.at _ _ (row_at a.k) (starts a.at a.k _ c.key_of-key.ensures) c.digits-found.ensures.1 c.in_err-rest.ensures))

pub returns : goal.returns
returns c =
    let a = c.args in
    let found = key-found a.text.now a.at (row_at a.k) _ _ _ c.in_ok-get.ensures.lookup.0.2 c.key_of-key.ensures c.starts_with.ensures.value in
    said _ _ _ (Some _)
    (line-good a.text.now a.at _ _ (row_at a.k) (starts a.at a.k _ c.key_of-key.ensures) c.digits-found.ensures.1 c.digits-found.result.number c.in_ok-rest.rest
    (sym found ∙ c.if-not-starts_with.false)
    c.digits-found.ensures.2
    (sym c.is_plain.ensures ∙ c.if-not-is_plain.false)
    c.in_ok-rest.ensures)
