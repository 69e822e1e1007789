-- Laws of the three steps: what is known where a step gave what was asked for. Assumes nothing.
use mathlib.Core.Path.{◌≡◌}
use mathlib.Core.Bool.{Bool, true, false, ◌&&◌}
use Prim.Native.Nat.{ℕ, ◌<◌, ◌≤◌}
use native.Mathlib.Omega.{arith}
use lib.Dec.{T}
use Rattle.octets.proofs.Choice.{T-and-left, T-and-right}
use Rattle.sheet.specs.declared.Sheet.{Sheet}
use Rattle.sheet.specs.Table.{most_seats}
use Rattle.sheet.specs.Value.{valid_alone}
use Rattle.sheet.proofs.Laws.Values.{few_seats}
use Rattle.streams.specs.declared.Record.{Record}
use Rattle.streams.specs.declared.Event.{Event}
use Rattle.streams.specs.Record.{rules_of, on_sheet, same_record, legal}
use Rattle.streams.specs.Answer.{Reply}
use Rattle.streams.specs.Table.{sender_on}
use Rattle.streams.proofs.Laws.Records.{on_below, same-equal}
use Rattle.reception.specs.Steps.{Said, gives, check, Try, try_of, seen_of, attempt_of, reply_of}

-- ---- seats

-- a valid sheet has at most eight seats
pub seats-le-8 : (s : Sheet) → T (valid_alone s) → (rules_of s).seats ≤ 8
unfolding most_seats
seats-le-8 s v = few_seats s v

-- a seat on one has a bit in the byte
pub on-sheet-below : (s : Sheet) (r : ℕ) → T (valid_alone s) → T (on_sheet (rules_of s) r) → r < 8
on-sheet-below s r v t = on_below (rules_of s) r t (seats-le-8 s v)

-- ---- a check that gave something

-- it held, and what comes after it gave the same
pub check-gives : {A : Type 0} (b : Bool) (number : ℕ) (next : Said A) (y : A) → check b number next ≡ gives y → T b × (next ≡ gives y)
check-gives true number next y e = (tt, e)
check-gives false number next y e = let z : ◌≡◌ {A = ℕ} 0 1 = cc in absurd (omega arith)

-- what is given is one
pub gives_same : {A : Type 0} {x y : A} → gives x ≡ gives y → x ≡ y
gives_same e = cc

-- ---- a read that gave a record

pub record SeenRight (s : Sheet) (stream : ℕ) (x y : Record) : Type 0 where
  pub valid : T (valid_alone s)
  pub on : T (on_sheet (rules_of s) stream)
  pub is-legal : T (legal (rules_of s) stream x)
  pub same : x ≡ y

pub seen-gives : (s : Sheet) (stream : ℕ) (x y : Record) → seen_of s stream x ≡ gives y → SeenRight s stream x y
unfolding seen_of
seen-gives s stream x y e =
    let q = rules_of s in
    let right = on_sheet q stream && legal q stream x in
    let sheet = check-gives (valid_alone s) 12 (check right 9 (gives x)) y e in
    let rest = check-gives right 9 (gives x) y sheet.1 in
    search (T-and-left, T-and-right, gives_same)

-- ---- a working-out that gave an attempt

pub record WorkRight (s : Sheet) (x : Record) (e : Event) (a : Try) : Type 0 where
  pub valid : T (valid_alone s)
  pub on : T (on_sheet (rules_of s) e.stream)
  pub sender : T (sender_on (rules_of s) e.what)
  pub is-legal : T (legal (rules_of s) e.stream x)
  pub same : try_of (rules_of s) x e ≡ a

pub attempt-gives : (s : Sheet) (x : Record) (e : Event) (a : Try) → attempt_of s x e ≡ gives a → WorkRight s x e a
unfolding attempt_of
attempt-gives s x e a p =
    let q = rules_of s in
    let right = on_sheet q e.stream && (sender_on q e.what && legal q e.stream x) in
    let sheet = check-gives (valid_alone s) 12 (check right 9 (gives (try_of (rules_of s) x e))) a p in
    let rest = check-gives right 9 (gives (try_of (rules_of s) x e)) a sheet.1 in
    search (T-and-left, T-and-right, gives_same)

-- ---- a store that took

pub record TakeRight (s : Sheet) (a : Try) (x : Record) (reply : Reply) : Type 0 where
  pub valid : T (valid_alone s)
  pub on : T (on_sheet (rules_of s) a.stream)
  pub own_legal : T (legal (rules_of s) a.stream x)
  pub seen_legal : T (legal (rules_of s) a.stream a.seen)
  pub wanted_legal : T (legal (rules_of s) a.stream a.wanted)
  pub seen : x ≡ a.seen
  pub same : a.reply ≡ reply

pub reply-gives : (s : Sheet) (a : Try) (x : Record) (reply : Reply) → reply_of s a x ≡ gives reply → TakeRight s a x reply
unfolding reply_of
reply-gives s a x reply p =
    let q = rules_of s in
    let good = legal q a.stream in
    let right = on_sheet q a.stream && (good x && (good a.seen && good a.wanted)) in
    let last = check (same_record x a.seen) 10 (gives a.reply) in
    let sheet = check-gives (valid_alone s) 12 (check right 9 last) reply p in
    let rest = check-gives right 9 last reply sheet.1 in
    let fresh = check-gives (same_record x a.seen) 10 (gives a.reply) reply rest.1 in
    search (T-and-left, T-and-right, same-equal, gives_same)

-- its stream is one of eight
pub reply-below : (s : Sheet) (a : Try) (x : Record) (reply : Reply) → reply_of s a x ≡ gives reply → a.stream < 8
reply-below s a x reply p =
    let right = reply-gives s a x reply p in
    on-sheet-below s a.stream right.valid right.on
