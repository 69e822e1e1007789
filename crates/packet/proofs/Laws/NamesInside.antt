-- The names of a message that is read lie in the packet and are User IDs (`NamesRight`): each is the value of a field that the walk met and
-- that has the form. Assumes nothing.
use mathlib.Core.Path.{◌≡◌}
use mathlib.Core.Bool.{Bool, true, false}
use mathlib.Core.List.{List, [], ◌∷◌, map}
use mathlib.Core.Option.{Option, none, some}
use Prim.Native.Nat.{ℕ, ◌+◌}
use lib.ListN.{length, take, drop}
use lib.Dec.{T, leb}
use Rattle.octets.specs.Choice.{every}
use Rattle.octets.proofs.Choice.{true-T, T_and}
use Rattle.sheet.specs.Judge.{user_id}
use Rattle.sheet.specs.Value.{valid_alone}
use Rattle.fields.specs.declared.field.Field.{Field}
use Rattle.fields.specs.Header.{size_right, head_right}
use Rattle.fields.specs.Walk.{fields_of, value_of, whole}
use Rattle.fields.proofs.Laws.Fields.{coded_says}
use Rattle.kinds.specs.declared.kind.Form.{Form}
use Rattle.kinds.specs.declared.kind.Form.TheVariants.{UserId, Number, Cause, Result, MessageType, Barred}
use Rattle.kinds.specs.declared.Numbers.{Numbers}
use Rattle.kinds.specs.declared.kind.Slot.{Slot}
use Rattle.kinds.specs.Kind.{Kind, kind_of, numbers_of}
use Rattle.kinds.specs.Judge.{Held, fits, held_in, Filled, filled_in, fault_of, held_by}
use Rattle.kinds.specs.Reading.{Outcome, reads, check, read_as, read_by, read_of, slots_in, message_of}
use Rattle.packet.specs.Claims.{name_right, NamesRight}
use Rattle.kinds.proofs.Laws.Sound.{filled, Sound, AllSound, fault-sound}
use Rattle.packet.proofs.Laws.Accepts.{message_of-reads}

-- ---- the value of a field

-- a name that has its form and lies in the packet is right
held_right : (p : List ℕ) (form : Form) (f : Field) → T (fits form p f) → T (leb (f.at + 2 + f.len) (length p)) → T (name_right p (held_in form p f))
unfolding fits held_in name_right value_of
held_right p UserId f t i = T_and (leb (f.at + 2 + f.len) (length p)) (user_id (take f.len (drop (f.at + 2) p))) i t
held_right p Number f t i = tt
held_right p Cause f t i = tt
held_right p Result f t i = tt
held_right p MessageType f t i = tt
held_right p Barred f t i = tt

-- ---- the values of a message

-- what a slot that is filled soundly holds
sound_right : (p : List ℕ) (s : Slot) (o : Option Field) → Sound p s o → T (name_right p (held_by p (filled s o)))
unfolding held_by name_right
sound_right p s none t = tt
sound_right p s (some f) t = held_right p s.form f t.1 (coded_says p f t.0).inside

-- and what all of them hold
sounds_right : (p : List ℕ) (xs : List Filled) → AllSound p xs → T (every (name_right p) (map (held_by p) xs))
sounds_right p [] t = tt
sounds_right p (x ∷ xs) t =
    T_and (name_right p (held_by p x)) (every (name_right p) (map (held_by p) xs)) (sound_right p x.slot x.by t.0) (sounds_right p xs t.1)

module _ (p : List ℕ) (kind ssrc : ℕ) (ack : Bool) (values : List Held) where
  -- a check that a message passes leaves it as it is
  check-reads : (right : Bool) (number : ℕ) (next : Outcome) → check right number next ≡ reads kind ssrc ack values → next ≡ reads kind ssrc ack values
  check-reads true number next e = e
  check-reads false number next e = cc

  -- the message of a packet of a kind
  kind-right : (n : Numbers) (o : Option Kind) → read_as n p o ≡ reads kind ssrc ack values → T (every (name_right p) values)
  unfolding read_as
  kind-right n none e = true-T (every (name_right p) values) (cc)
  kind-right n (some k) e =
      let slots = slots_in n p k in
      let fault = fault_of p slots (fields_of p) in
      let judged = message_of-reads p k.kind slots fault kind ssrc ack values (check-reads (whole p) _ (message_of p k.kind slots fault) e) in
      rw judged.1 at (sounds_right p (filled_in slots (fields_of p)) (fault-sound p slots judged.0))

-- The names of a message that is read under a sheet's numbers are right ..
pub names_right-by : (n : Numbers) (p : List ℕ) (kind ssrc : ℕ) (ack : Bool) (values : List Held)
    → read_by n p ≡ reads kind ssrc ack values → T (every (name_right p) values)
unfolding read_by
names_right-by n p kind ssrc ack values e =
    let passed = check-reads p kind ssrc ack values in
    let as-kind = read_as n p (kind_of n p) in
    kind-right p kind ssrc ack values n (kind_of n p)
    (passed (head_right p) _ as-kind (passed (size_right p) _ (check (head_right p) 2 as-kind) e))

-- .. and so are those of one that is read under a sheet.
pub names_right_lem : NamesRight
unfolding read_of
names_right_lem s p kind ssrc ack values e =
    let n = numbers_of s in
    names_right-by n p kind ssrc ack values (check-reads p kind ssrc ack values (valid_alone s) _ (read_by n p) e)
