-- A packet that reads to a meaning: what it is made of (`reads-says`), and that its meaning is writable (`reads-writable`). Assumes nothing.
use mathlib.Core.Path.{◌≡◌, refl, sym, ◌∙◌}
use mathlib.Core.Bool.{Bool, true, false}
use mathlib.Core.List.{List, [], ◌∷◌, map}
use mathlib.Core.Option.{Option, none, some, none-ne-some, some-injective}
use Prim.Native.Nat.{ℕ, ◌+◌, ◌^◌}
use lib.ListN.{length, get_or, take, drop}
use lib.Dec.{T, leb, eqb, lt→ltb}
use Rattle.octets.specs.Choice.{every}
use Rattle.octets.proofs.Choice.{T_true, T_and, T-and-left, T-and-right, pick_true, pick-cases}
use Rattle.octets.proofs.Big.{big_at-lt}
use Rattle.sheet.specs.declared.Sheet.{Sheet}
use Rattle.sheet.specs.Judge.{user_id}
use Rattle.sheet.specs.Value.{valid_alone}
use Rattle.fields.specs.declared.field.Field.{Field}
use Rattle.fields.specs.Header.{size_right, head_right, ack_asked, ssrc_in}
use Rattle.fields.specs.Walk.{fields_of, whole}
use Rattle.fields.specs.Claims.{Headed}
use Rattle.kinds.specs.declared.kind.Form.{Form}
use Rattle.kinds.specs.declared.kind.Form.TheVariants.{UserId, Number, Cause, Result, MessageType, Barred}
use Rattle.kinds.specs.declared.Numbers.{Numbers}
use Rattle.kinds.specs.declared.kind.Slot.{Slot}
use Rattle.kinds.specs.Kind.{Row, Kind, kind_of, numbers_of, may_have, grants}
use Rattle.kinds.specs.Judge.{Held, fits, number_at, held_in, filled_in, fault_of, held_by}
use Rattle.kinds.specs.Reading.{Outcome, reads, check, slots_in, message_of, read_as, read_by, read_of}
use Rattle.packet.specs.Claims.{name_right, useful, Arranged, present, Allows, AllowsAll, is_one}
use Rattle.packet.proofs.Laws.Accepts.{read_by-is, accepts_exactly}
use Rattle.packet.proofs.Laws.NamesInside.{names_right_lem}
use Rattle.packet.specs.Meaning.{value_in, Meaning, meaning}
use Rattle.plan.specs.Packet.{within, holds, is_nothing, takes, takes_all, is_one as is_one_meant, packet_of, writable, packet_as}
use Rattle.writing.specs.Claims.{are_octets, ReadsTo}
use Rattle.writing.proofs.Laws.Kinds.{kind-with}
use Rattle.writing.proofs.Laws.Front.{octets-lt, ssrc-narrow}
use Rattle.writing.proofs.Laws.Grants.{grants-meant}

-- ---- what it is made of

-- what a packet of a kind with these values means
abbrev pub meant : Kind → List ℕ → List Held → Meaning
meant k p held = record { kind = k.kind; ssrc = ssrc_in p; ack = ack_asked p; values = map (value_in p) held }

-- a packet of a kind, past checks 1 to 4, whose useful fields are an arrangement that the kind's rows allow, with values that mean these
-- and whose names are right
pub record Says (s : Sheet) (p : List ℕ) (m : Meaning) : Type 0 where
  pub valid : T (valid_alone s)
  pub head : Headed p
  pub kind : Kind
  pub is : kind_of (numbers_of s) p ≡ some kind
  pub walked : T (whole p)
  pub chosen : List (Option Field)
  pub held : List Held
  pub allows : AllowsAll p (grants is_one kind.rows held) kind.rows chosen held
  pub arranged : Arranged (useful kind.rows (fields_of p)) (present chosen)
  pub names : T (every (name_right p) held)
  pub means : m ≡ meant kind p held

-- what reading finds of that behind checks 1 and 2
record Kinded (n : Numbers) (p : List ℕ) (m : Meaning) (o : Option Kind) : Type 0 where
  kind : Kind
  is : o ≡ some kind
  walked : T (whole p)
  held : List Held
  read : message_of p kind.kind (slots_in n p kind) (fault_of p (slots_in n p kind) (fields_of p)) ≡ reads kind.kind (ssrc_in p) (ack_asked p) held
  means : m ≡ meant kind p held

module _ (p : List ℕ) (m : Meaning) where
  -- a check that a message passes
  check-means : (right : Bool) (number : ℕ) (next : Outcome) → meaning p (check right number next) ≡ some m → T right × (meaning p next ≡ some m)
  unfolding meaning
  check-means true number next e = (tt, e)
  check-means false number next e = absurd (none-ne-some m e)

  -- a message has no fault
  message-means : (k : Kind) (slots : List Slot) (fault : Option ℕ) → meaning p (message_of p k.kind slots fault) ≡ some m
      → (held : List Held) × (message_of p k.kind slots fault ≡ reads k.kind (ssrc_in p) (ack_asked p) held) × (m ≡ meant k p held)
  unfolding meaning message_of
  message-means k slots none e =
      let held = map (held_by p) (filled_in slots (fields_of p)) in
      (held, refl, sym (some-injective (meant k p held) m e))
  message-means k slots (some at) e = absurd (none-ne-some m e)

  -- and has a kind
  kind-means : (n : Numbers) (o : Option Kind) → meaning p (read_as n p o) ≡ some m → Kinded n p m o
  unfolding meaning read_as
  kind-means n none e = absurd (none-ne-some m e)
  kind-means n (some k) e =
      let slots = slots_in n p k in
      let fault = fault_of p slots (fields_of p) in
      let walked = check-means (whole p) _ (message_of p k.kind slots fault) e in
      let message = message-means k slots fault walked.1 in
      record { kind = k; is = refl; walked = walked.0; held = message.0; read = message.1; means = message.2 }

-- so a packet that reads to a meaning says it
pub reads-says : (s : Sheet) (p : List ℕ) (m : Meaning) → ReadsTo s p m → Says s p m
unfolding read_of read_by
reads-says s p m r =
    let n = numbers_of s in
    let as-kind = read_as n p (kind_of n p) in
    let valid = check-means p m (valid_alone s) _ (read_by n p) r.1 in
    let size = check-means p m (size_right p) _ (check (head_right p) 2 as-kind) valid.1 in
    let head = check-means p m (head_right p) _ as-kind size.1 in
    let headed : Headed p = (size.0, head.0) in
    let k = kind-means p m n (kind_of n p) head.1 in
    let read = read_by-is n p k.kind headed k.is k.walked ∙ k.read in
    let allowed = (accepts_exactly n p k.kind k.held headed k.is k.walked).0 read in
    record {
      valid = valid.0;
      head = headed;
      kind = k.kind;
      is = k.is;
      walked = k.walked;
      chosen = allowed.0;
      held = k.held;
      allows = allowed.1;
      arranged = allowed.2;
      names = names_right_lem s p k.kind.kind (ssrc_in p) (ack_asked p) k.held (pick_true (valid_alone s) (read_by n p) _ (T_true (valid_alone s) valid.0) ∙ read);
      means = k.means;
    }

-- ---- its meaning is writable

-- the value of a field that has a form is not nothing
pub held_something : (p : List ℕ) (form : Form) (f : Field) → T (fits form p f) → is_nothing (value_in p (held_in form p f)) ≡ false
unfolding fits held_in value_in is_nothing
held_something p UserId f t = pick-cases (λ v. is_nothing v ≡ false) (leb (f.at + 2 + f.len) (length p)) _ _ (λ u. refl) (λ e. refl)
held_something p Number f t = refl
held_something p Cause f t = refl
held_something p Result f t = refl
held_something p MessageType f t = refl
held_something p Barred f t = absurd t

module _ (p : List ℕ) (o : T (are_octets p)) where
  -- a 16-bit number goes into two octets
  number-narrow : (f : Field) → T (within 2 (number_at p f))
  unfolding number_at
  number-narrow f = lt→ltb (number_at p f) (256 ^ 2) (big_at-lt 2 p (f.at + 2) (octets-lt p o))

  -- the value of a field that has its form has it
  held-holds : (form : Form) (f : Field) → T (fits form p f) → T (name_right p (held_in form p f)) → T (holds form (value_in p (held_in form p f)))
  unfolding fits held_in name_right value_in holds
  held-holds UserId f t i =
      let name = user_id (take f.len (drop (f.at + 2) p)) in
      let inside = leb (f.at + 2 + f.len) (length p) in
      rw (T_true inside (T-and-left inside name i)) (T-and-right inside name i)
  held-holds Number f t i = number-narrow f
  held-holds Cause f t i = number-narrow f
  held-holds Result f t i = T-and-right (eqb f.len 2) (leb (number_at p f) 1) t
  held-holds MessageType f t i = lt→ltb (get_or p (f.at + 2) 0) (256 ^ 1) (octets-lt p o (f.at + 2))
  held-holds Barred f t i = absurd t

  -- a row takes what the value that it allows means
  row-takes : (grant : Bool) (r : Row) (chosen : Option Field) (v : Held) → T (name_right p v) → Allows p grant r chosen v → T (takes grant r (value_in p v))
  unfolding takes
  row-takes grant r none v i a = rw a.1 (unfold value_in is_nothing in a.0)
  row-takes grant r (some f) v i a =
      rw (a.3, held_something p r.form f a.2)
      (T_and (may_have grant r.need) (holds r.form (value_in p (held_in r.form p f))) a.0 (held-holds r.form f a.2 (rw a.3 at i)))

  -- and all rows take theirs
  rows_take : (grant : Bool) (rows : List Row) (chosen : List (Option Field)) (held : List Held) → T (every (name_right p) held)
      → AllowsAll p grant rows chosen held → T (takes_all grant rows (map (value_in p) held))
  unfolding takes_all
  rows_take grant [] [] [] i a = tt
  rows_take grant [] [] (v ∷ held) i a = absurd a
  rows_take grant [] (c ∷ chosen) held i a = absurd a
  rows_take grant (r ∷ rows) [] held i a = absurd a
  rows_take grant (r ∷ rows) (c ∷ chosen) [] i a = absurd a
  rows_take grant (r ∷ rows) (c ∷ chosen) (v ∷ held) i a =
      T_and (takes grant r (value_in p v)) (takes_all grant rows (map (value_in p) held))
      (row-takes grant r c v (T-and-left (name_right p v) (every (name_right p) held) i) a.0)
      (rows_take grant rows chosen held (T-and-right (name_right p v) (every (name_right p) held) i) a.1)

  -- so what they mean is writable
  meant-writable : (k : Kind) (chosen : List (Option Field)) (held : List Held) → T (every (name_right p) held)
      → AllowsAll p (grants is_one k.rows held) k.rows chosen held → T (writable k (meant k p held))
  unfolding writable
  meant-writable k chosen held i a =
      let values = map (value_in p) held in
      T_and (within 4 (ssrc_in p)) (takes_all (grants is_one_meant k.rows values) k.rows values)
      (lt→ltb (ssrc_in p) (256 ^ 4) (ssrc-narrow p o))
      (rw (grants-meant p k.rows held) (rows_take (grants is_one k.rows held) k.rows chosen held i a))

-- a meaning that a packet reads to has a packet, that of its kind
pub reads-writable : (s : Sheet) (p : List ℕ) (m : Meaning) → T (are_octets p) → (r : Says s p m)
    → packet_of (numbers_of s) m ≡ some (packet_as r.kind m)
unfolding packet_of
reads-writable s p m o r =
    let k = r.kind in
    let writes = meant-writable p o k r.chosen r.held r.names r.allows in
    rw (r.means, (kind-with (numbers_of s) p k r.is).0, T_true (writable k (meant k p r.held)) writes)
