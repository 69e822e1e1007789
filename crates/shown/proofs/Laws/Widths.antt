-- Laws of how long the text of a message is: each value is as wide as the form of its row allows, and in none of the seven kinds do the
-- values come to more than in kind 1. Assumes nothing.
use mathlib.Core.Path.{◌≡◌, refl}
use Prim.Native.Nat.{ℕ, ◌+◌, ◌^◌, ◌≤◌, ◌<◌}
use Prim.Native.String.{String}
use native.Mathlib.Omega.{arith}
use mathlib.Core.Bool.{Bool, true, false}
use mathlib.Core.List.{List, [], ◌∷◌, map, flatten}
use mathlib.Core.Option.{Option, none, some}
use lib.ListN.{length, get_or, take, drop, length-append}
use lib.Dec.{T}
use Rattle.octets.specs.Choice.{All, pick, same}
use Rattle.octets.specs.Text.{ascii, decimal}
use Rattle.octets.proofs.First.{first-all}
use Rattle.octets.proofs.Big.{big_at-lt}
use Rattle.octets.proofs.Text.{length-decimal-le}
use Rattle.sheet.proofs.Laws.Entries.{user_id-short}
use Rattle.fields.specs.declared.field.Field.{Field}
use Rattle.fields.specs.Header.{ssrc_in}
use Rattle.fields.specs.Walk.{value_of}
use Rattle.kinds.specs.declared.Numbers.{Numbers}
use Rattle.kinds.specs.declared.kind.Form.{Form}
use Rattle.kinds.specs.declared.kind.Form.TheVariants.{UserId, Number, Cause, Result, MessageType, Barred}
use Rattle.kinds.specs.Kind.{Row, Kind, kinds, has_kind, kind_of}
use Rattle.kinds.specs.Judge.{Held, number_at, fits, held_in}
use Rattle.kinds.specs.Reading.{reads}
use Rattle.packet.specs.Claims.{Allows, AllowsAll}
use Rattle.shown.specs.Line.{field_names, names_of, under, ten_of, value_text, labels, labelled, text_of}
use Rattle.shown.specs.Claims.{most_text}

-- ---- one value

-- each is an octet
abbrev pub Octets : List ℕ → Type 0
Octets p = (i : ℕ) → get_or p i 0 < 256

-- how wide a value of a form is at most: a name has 60 octets, a number below 65536 five digits
abbrev width_of : Form → ℕ
width_of UserId = 60
width_of Number = 5
width_of Cause = 5
width_of Result = 5
width_of MessageType = 5
width_of Barred = 5

-- none is narrower than `-`
width_pos : (form : Form) → 1 ≤ width_of form
width_pos UserId = omega arith
width_pos Number = omega arith
width_pos Cause = omega arith
width_pos Result = omega arith
width_pos MessageType = omega arith
width_pos Barred = omega arith

module _ (p : List ℕ) (octets : Octets p) where
  -- a number of two octets
  width-number : (f : Field) → length (decimal (number_at p f)) ≤ 5
  unfolding number_at
  width-number f = length-decimal-le 4 (number_at p f) (omega (arith, big_at-lt 2 p (f.at + 2) octets))

  -- the value of a field that has its form
  width-held : (form : Form) (f : Field) → T (fits form p f) → length (value_text p (held_in form p f)) ≤ width_of form
  unfolding fits held_in value_text value_of
  width-held UserId f t = user_id-short (take f.len (drop (f.at + 2) p)) t
  width-held Number f t = width-number f
  width-held Cause f t = width-number f
  width-held Result f t = width-number f
  width-held MessageType f t = length-decimal-le 4 (get_or p (f.at + 2) 0) (omega (arith, octets (f.at + 2)))
  width-held Barred f t = absurd t

  -- the value that a row allows
  width-allowed : (grant : Bool) (r : Row) (o : Option Field) (v : Held) → Allows p grant r o v → length (value_text p v) ≤ width_of r.form
  unfolding value_text
  width-allowed grant r none v a = rw a.1 (width_pos r.form)
  width-allowed grant r (some f) v a = rw a.3 (width-held r.form f a.2)

-- ---- the values under their names

-- how wide the value under a name is at most, among rows and the name of each
abbrev width_under : List String → List Row → String → ℕ
width_under [] rows name = 1
width_under (n ∷ names) [] name = 1
width_under (n ∷ names) (r ∷ rows) name = pick (same (ascii n) (ascii name)) (width_of r.form) (width_under names rows name)

-- and all that are printed
abbrev width_all : List String → List Row → List String → ℕ
width_all names rows [] = 0
width_all names rows (f ∷ fields) = width_under names rows f + width_all names rows fields

-- of two values the one picked is as wide as the width picked
width-pick : (p : List ℕ) (b : Bool) (v w : Held) (m n : ℕ) → length (value_text p v) ≤ m → length (value_text p w) ≤ n
    → length (value_text p (pick b v w)) ≤ pick b m n
width-pick p true v w m n x y = x
width-pick p false v w m n x y = y

module _ (p : List ℕ) (octets : Octets p) (grant : Bool) where
  -- the value under a name, where the rows allow the values
  width-under : (names : List String) (rows : List Row) (os : List (Option Field)) (values : List Held) → AllowsAll p grant rows os values
      → (name : String) → length (value_text p (under names values name)) ≤ width_under names rows name
  unfolding under value_text
  width-under [] rows os values a name = omega arith
  width-under (n ∷ names) [] [] [] a name = omega arith
  width-under (n ∷ names) [] [] (v ∷ values) a name = absurd a
  width-under (n ∷ names) [] (o ∷ os) values a name = absurd a
  width-under (n ∷ names) (r ∷ rows) [] values a name = absurd a
  width-under (n ∷ names) (r ∷ rows) (o ∷ os) [] a name = absurd a
  width-under (n ∷ names) (r ∷ rows) (o ∷ os) (v ∷ values) a name =
      width-pick p (same (ascii n) (ascii name)) v (under names values name) (width_of r.form) (width_under names rows name)
      (width-allowed p octets grant r o v a.0) (width-under names rows os values a.1 name)

  -- all that are printed
  width-all : (names : List String) (rows : List Row) (os : List (Option Field)) (values : List Held) → AllowsAll p grant rows os values
      → (fields : List String) → length (flatten (map (value_text p) (map (under names values) fields))) ≤ width_all names rows fields
  unfolding flatten
  width-all names rows os values a [] = omega arith
  width-all names rows os values a (f ∷ fields) =
      rw length-append (omega (arith, width-under names rows os values a f, width-all names rows os values a fields))

-- ---- the kinds

-- a kind's number is one digit, and its values come to no more than those of kind 1: two names, a number and four `-`
abbrev Narrow : Kind → Type 0
Narrow k = (k.kind < 10) × (width_all (names_of k.kind) k.rows field_names ≤ 129)

-- the seven are so
kinds-narrow : (n : Numbers) → All Narrow (kinds n)
unfolding kinds names_of
kinds-narrow n = omega arith

-- so is the kind of a packet
pub kind-narrow : (n : Numbers) (p : List ℕ) (k : Kind) → kind_of n p ≡ some k → Narrow k
unfolding kind_of
kind-narrow n p k e = (first-all (has_kind p) k Narrow (kinds n) (kinds-narrow n) e).0

-- ---- the text

-- names and values come to no more than all of them
labelled-le : (ls texts : List (List ℕ)) → length (labelled ls texts) ≤ length (flatten ls) + length (flatten texts)
unfolding labelled flatten
labelled-le [] texts = omega arith
labelled-le (l ∷ ls) [] = omega arith
labelled-le (l ∷ ls) (t ∷ texts) = simp length-append (omega (arith, labelled-le ls texts))

-- the names alone
labels-long : length (flatten labels) ≡ 70
unfolding flatten
labels-long = refl

-- three texts before others
before-others : (x y z : List ℕ) (texts : List (List ℕ)) → length (flatten (x ∷ y ∷ z ∷ texts)) ≡ length x + length y + length z + length (flatten texts)
unfolding flatten
before-others x y z texts = simp length-append (omega arith)

-- whether an Ack is asked for is one digit
one-digit : (ack : Bool) → length (decimal (pick ack 1 0)) ≤ 1
one-digit true = length-decimal-le 0 1 (omega arith)
one-digit false = length-decimal-le 0 0 (omega arith)

module _ (p : List ℕ) (octets : Octets p) (k : Kind) (narrow : Narrow k) (grant ack : Bool) (os : List (Option Field)) (values : List Held)
    (allowed : AllowsAll p grant k.rows os values) where
  -- the ten values of a message that the table allows
  ten-fit : length (flatten (map (value_text p) (ten_of k.kind (ssrc_in p) ack values))) ≤ 141
  unfolding ten_of value_text
  ten-fit =
      let values-fit = width-all p octets grant (names_of k.kind) k.rows os values allowed field_names in
      let ssrc : ssrc_in p < 10 ^ 10 = unfold ssrc_in in omega (arith, big_at-lt 4 p 4 octets) in
      rw (before-others (decimal k.kind) (decimal (ssrc_in p)) (decimal (pick ack 1 0)) (map (value_text p) (map (under (names_of k.kind) values) field_names)))
      (omega (arith, length-decimal-le 0 k.kind narrow.0, length-decimal-le 9 (ssrc_in p) ssrc, one-digit ack))

  -- its text
  pub reads_fit : length (text_of p (reads k.kind (ssrc_in p) ack values)) ≤ most_text
  unfolding text_of
  reads_fit =
      let texts = map (value_text p) (ten_of k.kind (ssrc_in p) ack values) in
      rw length-append (omega (arith, labelled-le labels texts, labels-long, ten-fit))
