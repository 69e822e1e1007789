-- Laws of a message's row: the numbers of a message that has a packet make that message again. Assumes nothing.
use mathlib.Core.Path.{◌≡◌, refl, subst}
use mathlib.Core.Bool.{Bool, true, false}
use mathlib.Core.List.{List, [], ◌∷◌, map}
use mathlib.Core.Option.{some, none-ne-some}
use Prim.Native.Nat.{ℕ, ◌+◌, ◌<◌}
use native.Mathlib.Omega.{arith}
use lib.ListN.{length, take, drop}
use lib.Dec.{T, eqb, leb, eqb→eq, leb→le, ltb→lt}
use borrow.Author.Tests.{ne_eqb}
use Rattle.octets.specs.Choice.{All}
use Rattle.octets.proofs.Choice.{T-and-left, T-and-right, pick-cases}
use Rattle.sheet.specs.declared.Sheet.{Sheet}
use Rattle.kinds.specs.declared.Numbers.{Numbers}
use Rattle.kinds.specs.declared.kind.Form.{Form}
use Rattle.kinds.specs.declared.kind.Form.TheVariants.{Number, Cause, Result, MessageType}
use Rattle.kinds.specs.Kind.{Row, Kind, always, unless_granted, row, user, indicator, kind_row, kinds, may_lack, may_have, grants, numbers_of}
use Rattle.kinds.specs.Judge.{Held, absent, given, named}
use Rattle.kinds.specs.Reading.{Outcome, reads, refused}
use Rattle.packet.specs.Meaning.{Value, nothing, numeral, spelt, nowhere, value_in, meaning}
use Rattle.packet.specs.Row.{no_number, flag, columns, with_held, with_all, message_row, held_in, numbers_say}
use Rattle.plan.specs.Packet.{holds, is_nothing, takes, takes_all, is_one, is_number, within, writable, packet_for}
use Rattle.plan.specs.Inner.{number_from}
use Rattle.plan.proofs.Laws.Packets.{packet_of-written}
use Rattle.plan.proofs.Laws.Rows.{numbered}
use Rattle.writing.proofs.Laws.Kinds.{kind_with-all}

-- ---- values that a kind takes

-- nothing, or a number of 16 bits
abbrev NarrowValue : Value → Type 0
NarrowValue nothing = Unit {0}
NarrowValue (numeral n) = n < 65536
NarrowValue (spelt xs) = ⊥
NarrowValue nowhere = ⊥

-- what a form of numbers holds is such a number
abbrev Numeric : Form → Type 0
Numeric form = (v : Value) → T (holds form v) → NarrowValue v

-- so is one that a test holds of, where the test holds of no wider
numeric : (test : ℕ → Bool) → ((n : ℕ) → T (test n) → n < 65536) → (v : Value) → T (is_number test v) → NarrowValue v
numeric test f nothing t = tt
numeric test f (numeral n) t = f n t
numeric test f (spelt xs) t = t
numeric test f nowhere t = t

numeric-number : Numeric Number
unfolding holds
numeric-number = numeric (within 2) (λ n t. ltb→lt n 65536 t)

numeric-cause : Numeric Cause
unfolding holds
numeric-cause = numeric (within 2) (λ n t. ltb→lt n 65536 t)

numeric-result : Numeric Result
unfolding holds
numeric-result = numeric (λ (n : ℕ). leb n 1) (λ n t. omega (arith, leb→le n 1 t))

numeric_type : Numeric MessageType
unfolding holds
numeric_type = numeric (within 1) (λ n t. omega (arith, ltb→lt n 256 t))

-- so what a row with such a form takes is one or nothing
takes-narrow : (grant : Bool) (r : Row) → Numeric r.form → (v : Value) → T (takes grant r v) → NarrowValue v
unfolding takes is_nothing
takes-narrow grant r f nothing t = tt
takes-narrow grant r f (numeral n) t = f (numeral n) (T-and-right (may_have grant r.need) _ t)
takes-narrow grant r f (spelt xs) t = f (spelt xs) (T-and-right (may_have grant r.need) _ t)
takes-narrow grant r f nowhere t = f nowhere (T-and-right (may_have grant r.need) _ t)

module _ (names : List ℕ) (grant : Bool) where
  -- a kind takes the values of a message
  abbrev Taken : List Row → List Held → Type 0
  Taken rows values = T (takes_all grant rows (map (value_in names) values))

  -- the first of them is a name ..
  taken-name : (rows : List Row) (values : List Held) → Taken (user ∷ rows) values
      → (at : ℕ) × (len : ℕ) × (rest : List Held) × (values ≡ named at len ∷ rest) × Taken rows rest
  unfolding takes_all takes is_nothing value_in holds may_lack may_have
  taken-name rows [] t = absurd t
  taken-name rows (absent ∷ rest) t = absurd t
  taken-name rows (given n ∷ rest) t = absurd t
  taken-name rows (named at len ∷ rest) t = (at, len, rest, refl, T-and-right (takes grant user (value_in names (named at len))) _ t)

  -- .. or a number or none
  taken-number : (r : Row) → Numeric r.form → (rows : List Row) (values : List Held) → Taken (r ∷ rows) values
      → (n : ℕ) × (rest : List Held) × (values ≡ number_from n ∷ rest) × Taken rows rest
  unfolding takes_all value_in
  taken-number r f rows [] t = absurd t
  taken-number r f rows (absent ∷ rest) t = (no_number, rest, refl, T-and-right (takes grant r nothing) _ t)
  taken-number r f rows (given n ∷ rest) t =
      let narrow : n < 65536 = takes-narrow grant r f (numeral n) (T-and-left (takes grant r (numeral n)) _ t) in
      (n, rest, rw (ne_eqb n no_number (λ e. omega arith)), T-and-right (takes grant r (numeral n)) _ t)
  taken-number r f rows (named at len ∷ rest) t =
      let narrow = takes-narrow grant r f (value_in names (named at len)) (T-and-left (takes grant r (value_in names (named at len))) _ t) in
      absurd (pick-cases (λ v. NarrowValue v → ⊥) (leb (at + len) (length names)) (spelt (take len (drop at names))) nowhere (λ b h. h) (λ b h. h)
      narrow)

  -- no more of them than rows
  taken_none : (values : List Held) → Taken [] values → values ≡ []
  unfolding takes_all
  taken_none [] t = refl
  taken_none (v ∷ values) t = absurd t

-- ---- their rows

-- a flag says yes exactly if it is 1
flag-own : (b : Bool) → eqb (flag b) 1 ≡ b
flag-own true = refl
flag-own false = refl

-- the message that its row's numbers make is itself
abbrev pub Own : Outcome → Type 0
Own o = numbers_say (message_row o) ≡ o

-- so it is for each message of a kind
abbrev OwnKind : List ℕ → Kind → Type 0
OwnKind names k =
    (grant : Bool) (ssrc : ℕ) (ack : Bool) (values : List Held) → Taken names grant k.rows values → Own (reads k.kind ssrc ack values)

-- each of the seven kinds, with the numbers of a sheet
module _ (names : List ℕ) (n : Numbers) where
  own-1 : OwnKind names (kind_row 1 "MCV0" n.request (user ∷ user ∷ indicator ∷ []))
  unfolding message_row numbers_say columns with_all with_held held_in
  own-1 grant ssrc ack values t =
      let a = taken-name names grant (user ∷ indicator ∷ []) values t in
      let b = taken-name names grant (indicator ∷ []) a.2 a.4 in
      let c = taken-number names grant indicator numeric-number [] b.2 b.4 in
      let all : values ≡ named a.0 a.1 ∷ named b.0 b.1 ∷ number_from c.0 ∷ [] = cc (taken_none names grant c.1 c.3) in
      rw (all, numbered 9 c.0, flag-own ack)

  own-2 : OwnKind names (kind_row 2 "MCV1" n.response (row n.resultid Result always ∷ row 2 Cause unless_granted ∷ indicator ∷ []))
  unfolding message_row numbers_say columns with_all held_in
  own-2 grant ssrc ack values t =
      let a = taken-number names grant (row n.resultid Result always) numeric-result (row 2 Cause unless_granted ∷ indicator ∷ []) values t in
      let b = taken-number names grant (row 2 Cause unless_granted) numeric-cause (indicator ∷ []) a.1 a.3 in
      let c = taken-number names grant indicator numeric-number [] b.1 b.3 in
      let all : values ≡ number_from a.0 ∷ number_from b.0 ∷ number_from c.0 ∷ [] = cc (taken_none names grant c.1 c.3) in
      rw (all, numbered 7 a.0, numbered 8 b.0, numbered 9 c.0, flag-own ack)

  own-3 : OwnKind names (kind_row 3 "MCV2" n.endrequest (user ∷ indicator ∷ []))
  unfolding message_row numbers_say columns with_all with_held held_in
  own-3 grant ssrc ack values t =
      let a = taken-name names grant (indicator ∷ []) values t in
      let b = taken-number names grant indicator numeric-number [] a.2 a.4 in
      let all : values ≡ named a.0 a.1 ∷ number_from b.0 ∷ [] = cc (taken_none names grant b.1 b.3) in
      rw (all, numbered 9 b.0, flag-own ack)

  own-4 : OwnKind names (kind_row 4 "MCV2" n.endresponse (user ∷ []))
  unfolding message_row numbers_say columns with_all with_held held_in
  own-4 grant ssrc ack values t =
      let a = taken-name names grant [] values t in
      let all : values ≡ named a.0 a.1 ∷ [] = cc (taken_none names grant a.2 a.4) in
      rw (all, flag-own ack)

  own-5 : OwnKind names (kind_row 5 "MCV2" n.txend (row 2 Cause always ∷ indicator ∷ []))
  unfolding message_row numbers_say columns with_all held_in
  own-5 grant ssrc ack values t =
      let a = taken-number names grant (row 2 Cause always) numeric-cause (indicator ∷ []) values t in
      let b = taken-number names grant indicator numeric-number [] a.1 a.3 in
      let all : values ≡ number_from a.0 ∷ number_from b.0 ∷ [] = cc (taken_none names grant b.1 b.3) in
      rw (all, numbered 8 a.0, numbered 9 b.0, flag-own ack)

  own-6 : OwnKind names (kind_row 6 "MCV2" n.txendresponse [])
  unfolding message_row numbers_say columns with_all
  own-6 grant ssrc ack values t = rw (taken_none names grant values t, flag-own ack)

  own-7 : OwnKind names (kind_row 7 "MCV2" n.ack (row 10 Number always ∷ row 12 MessageType always ∷ []))
  unfolding message_row numbers_say columns with_all held_in
  own-7 grant ssrc ack values t =
      let a = taken-number names grant (row 10 Number always) numeric-number (row 12 MessageType always ∷ []) values t in
      let b = taken-number names grant (row 12 MessageType always) numeric_type [] a.1 a.3 in
      let all : values ≡ number_from a.0 ∷ number_from b.0 ∷ [] = cc (taken_none names grant b.1 b.3) in
      rw (all, numbered 10 a.0, numbered 11 b.0, flag-own ack)

  -- so it is for all of them
  own-each : All (OwnKind names) (kinds n)
  unfolding kinds
  own-each = (own-1, (own-2, (own-3, (own-4, (own-5, (own-6, (own-7, tt)))))))

-- ---- a message that has a packet

-- a refusal has none
pub refusal-none : (s : Sheet) (names p : List ℕ) (number at : ℕ) → packet_for s (meaning names (refused number at)) ≡ some p → ⊥
unfolding packet_for meaning
refusal-none s names p number at e = none-ne-some p e

-- its row's numbers make it again
pub message-own : (s : Sheet) (names p : List ℕ) (o : Outcome) → packet_for s (meaning names o) ≡ some p → Own o
unfolding packet_for meaning writable
message-own s names p (refused number at) e = absurd (refusal-none s names p number at e)
message-own s names p (reads kind ssrc ack values) e =
    let w = packet_of-written (numbers_of s) _ p e in
    let k = kind_with-all kind w.kind (OwnKind names) (kinds (numbers_of s)) (own-each names (numbers_of s)) w.found in
    subst (λ (i : ℕ). Own (reads i ssrc ack values)) (eqb→eq w.kind.kind kind k.1)
    (k.0 (grants is_one w.kind.rows (map (value_in names) values)) ssrc ack values (T-and-right (within 4 ssrc) _ w.taken))
