-- `outgoing::packet_lent` meets its contract: past the checks the numbers are those of a valid sheet, the row lent is an answer's, and
-- the row beside it is that of the stream's user. Assumes nothing.
use mathlib.Core.Bool.{true, false}
use mathlib.Core.List.{List}
use mathlib.Core.Option.{some}
use mathlib.Core.Path.{◌≡◌, refl, sym, ap, ◌∙◌}
use Prim.Native.Nat.{ℕ, ◌≤◌, ◌<◌}
use native.Mathlib.Omega.{arith}
use lib.Dec.{T}
use lib.ListN.{length, get_or}
use Rattle.octets.proofs.Choice.{true-T}
use Rattle.sheet.specs.declared.Sheet.{Sheet}
use Rattle.sheet.specs.Table.{most_seats}
use Rattle.sheet.specs.Value.{sheet_by, sheet_from, sheet_in, valid_alone, valid_with}
use Rattle.sheet.proofs.Laws.Values.{sheet_in-counted, valid-counted, few_seats}
use Rattle.plan.proofs.Laws.Fitting.{valid-fitting}
use Rattle.streams.specs.declared.Answer.{Answer}
use Rattle.writing.specs.Writing.{told, after}
use Rattle.rows.specs.Rows.{is_some, answer_in}
use Rattle.rows.proofs.Laws.Answers.{answer_uncounted}
use Rattle.outgoing.proofs.Laws.Answers.{is-some, in-invalid, in-off, in-none, in_on}
use Rattle.sheet.proofs.Laws.Seats.{valid-alone}
use Rattle.outgoing.proofs.packet_lent.Goals as goal

-- what numbers that pass the first check are
module _ (ns : List ℕ) (users : List (List ℕ)) (passed : valid_with (sheet_in ns) users ≡ true) where
  -- they are a sheet's that is valid by itself
  alone : T (valid_alone (sheet_in ns))
  alone = valid-alone _ _ (true-T _ passed)

  -- there are nineteen of them
  long : length ns ≡ 19
  long = valid-counted _ alone

  -- the struct is the one with them
  own : sheet_in ns ≡ sheet_from ns
  own = sheet_in-counted _ long

  -- so its seats are on their line
  seats : (sheet_in ns).seats ≡ get_or ns 10 0
  unfolding sheet_from sheet_by
  seats = ap (λ (s : Sheet). s.seats) own

  -- which says eight at most
  few : (sheet_in ns).seats ≤ 8
  unfolding most_seats
  few = few_seats (sheet_in ns) alone

-- a row of another length stands for none
miscounted : (row : List ℕ) → (length row ≡ 6 → ⊥) → is_some (answer_in row) ≡ false
miscounted row n = ap is_some (answer_uncounted row n)

-- a row that passes the third check stands for an answer
given : (row : List ℕ) → is_some (answer_in row) ≡ true → (a : Answer) × (answer_in row ≡ some a)
given row e = is-some (answer_in row) e

pub returns-then-not-are_valid_with : goal.returns-then-not-are_valid_with
unfolding told after
returns-then-not-are_valid_with c =
    let a = c.args in
    rw (in-invalid (sheet_in a.numbers.now) a.users.now a.stream (length a.out.now) (answer_in a.answer.now)
    (sym c.are_valid_with.ensures ∙ c.if-not-are_valid_with.true))
    (refl, refl)

pub bounds-numbers-10 : goal.bounds-numbers-10
bounds-numbers-10 c =
    let passed = sym c.are_valid_with.ensures ∙ c.if-not-are_valid_with.false in
    omega (arith, long c.args.numbers.now c.args.users.now passed)

pub returns-then-numbers-stream : goal.returns-then-numbers-stream
unfolding told after
returns-then-numbers-stream c =
    let a = c.args in
    let passed = sym c.are_valid_with.ensures ∙ c.if-not-are_valid_with.false in
    rw (in-off (sheet_in a.numbers.now) a.users.now a.stream (length a.out.now) (answer_in a.answer.now) passed
    (omega (arith, seats a.numbers.now a.users.now passed, c.if-numbers-stream.true)))
    (refl, refl)

pub bounds-users-stream : goal.bounds-users-stream
bounds-users-stream c =
    let ns = c.args.numbers.now in
    let passed = sym c.are_valid_with.ensures ∙ c.if-not-are_valid_with.false in
    omega (arith, seats ns c.args.users.now passed, few ns c.args.users.now passed, c.if-numbers-stream.false)

pub returns-in_default : goal.returns-in_default
unfolding told after
returns-in_default c =
    let a = c.args in
    let passed = sym c.are_valid_with.ensures ∙ c.if-not-are_valid_with.false in
    rw (in-none (sheet_in a.numbers.now) a.users.now a.stream (length a.out.now) (answer_in a.answer.now) passed
    (miscounted a.answer.now c.in_default.ensures.1))
    (refl, refl)

pub returns-then-not-is_answer : goal.returns-then-not-is_answer
unfolding told after
returns-then-not-is_answer c =
    let a = c.args in
    let passed = sym c.are_valid_with.ensures ∙ c.if-not-are_valid_with.false in
    rw (in-none (sheet_in a.numbers.now) a.users.now a.stream (length a.out.now) (answer_in a.answer.now) passed
    (ap (λ (row : List ℕ). is_some (answer_in row)) (sym c.in-Ok.ensures.1.same) ∙ sym c.is_answer.ensures ∙ c.if-not-is_answer.true))
    (refl, refl)

pub send-requires : goal.send-requires
send-requires c =
    let passed = sym c.are_valid_with.ensures ∙ c.if-not-are_valid_with.false in
    valid-fitting _ (alone c.args.numbers.now c.args.users.now passed)

pub returns : goal.returns
returns c =
    let a = c.args in
    let ns = a.numbers.now in
    let passed = sym c.are_valid_with.ensures ∙ c.if-not-are_valid_with.false in
    let on : a.stream < (sheet_in ns).seats = omega (arith, seats ns a.users.now passed, c.if-numbers-stream.false) in
    let same : c.in-Ok.answer.now ≡ a.answer.now = c.in-Ok.ensures.1.same in
    let answer = given c.in-Ok.answer.now (sym c.is_answer.ensures ∙ c.if-not-is_answer.false) in
    rw (
      in_on (sheet_in a.numbers.now) a.users.now a.stream (length a.out.now) (answer_in a.answer.now) answer.0 (ap answer_in (sym same) ∙ answer.1) passed on,
      own ns a.users.now passed,
    )
    (c.send.ensures answer.0 answer.1)
