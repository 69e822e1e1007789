-- Laws of the packet that a meaning has: it is that of a kind which takes the values, and of a message with one each number goes into its
-- place. Assumes nothing.
use mathlib.Core.Path.{◌≡◌, refl, sym, ◌∙◌}
use mathlib.Core.Bool.{Bool, true, false, ◌&&◌}
use mathlib.Core.List.{List, [], ◌∷◌}
use mathlib.Core.Option.{Option, none, some, some-injective, none-ne-some}
use Prim.Native.Nat.{ℕ}
use Rattle.std.specs.Prelude.{Option as Maybe, Some, None}
use lib.Dec.{T}
use Rattle.octets.proofs.Choice.{T_and, T-and-left, T-and-right, pick-cases}
use Rattle.sheet.specs.declared.Sheet.{Sheet}
use Rattle.kinds.specs.declared.Numbers.{Numbers}
use Rattle.packet.specs.declared.Verdict.TheVariants.{Granted, Rejected}
use Rattle.packet.specs.declared.Message.{Message}
use Rattle.packet.specs.declared.Message.TheVariants.{ReceiveRequest, ReceiveResponse, EndRequest, EndResponse, TransmissionEnd, TransmissionEndResponse, Ack}
use Rattle.kinds.specs.Kind.{Row, Kind, indicator, kinds, numbers_of, may_have, is_result, grants}
use Rattle.kinds.specs.Reading.{Outcome}
use Rattle.packet.specs.Message.{indicator_said, message_said}
use Rattle.packet.specs.Meaning.{Value, Meaning, value_in, meaning}
use Rattle.plan.specs.Packet.{within, holds, is_nothing, takes, takes_all, is_one, writable, packet_as, kind_with, packet_of, packet_for}
use Rattle.plan.specs.Inner.{indicator_within, in_width}

-- ---- the packet of a meaning

-- a packet that is written is that of a kind which takes the values
pub record Written (n : Numbers) (m : Meaning) (p : List ℕ) : Type 0 where
  pub kind : Kind
  pub found : kind_with m.kind (kinds n) ≡ some kind
  pub taken : T (writable kind m)
  pub is : p ≡ packet_as kind m

pub packet_of-written : (n : Numbers) (m : Meaning) (p : List ℕ) → packet_of n m ≡ some p → Written n m p
unfolding packet_of
packet_of-written n m p e = by (kind_with m.kind (kinds n)) refl
  where
    by : (o : Option Kind) → kind_with m.kind (kinds n) ≡ o → Written n m p
    by none q = absurd (none-ne-some p (rw q at e))
    by (some k) q =
        pick-cases (λ o. o ≡ some p → Written n m p) (writable k m) (some (packet_as k m)) none
        (λ t r. record { kind = k; found = q; taken = t; is = sym (some-injective (packet_as k m) p r) })
        (λ f r. absurd (none-ne-some p r))
        (rw q at e)

-- ---- a message that has a packet

-- each row takes its value
abbrev Taken : Bool → List Row → List Value → Type 0
Taken grant [] values = Unit
Taken grant (r ∷ rows) [] = Unit
Taken grant (r ∷ rows) (v ∷ values) = T (takes grant r v) × Taken grant rows values

each-taken : (grant : Bool) (rows : List Row) (values : List Value) → T (takes_all grant rows values) → Taken grant rows values
unfolding takes_all
each-taken grant [] values t = tt
each-taken grant (r ∷ rows) [] t = tt
each-taken grant (r ∷ rows) (v ∷ values) t =
    let a = takes grant r v in
    let b = takes_all grant rows values in
    (T-and-left a b t, each-taken grant rows values (T-and-right a b t))

-- of a message that has a packet the SSRC goes into four octets, and the rows of its kind take its values
packet-taken : (s : Sheet) (names : List ℕ) (message : Outcome) (p : List ℕ) {m : Meaning} {k : Kind}
    → meaning names message ≡ some m → kind_with m.kind (kinds (numbers_of s)) ≡ some k → packet_for s (meaning names message) ≡ some p
    → T (within 4 m.ssrc) × Taken (grants is_one k.rows m.values) k.rows m.values
unfolding packet_for writable
packet-taken s names message p {m} {k} is found e =
    let w = packet_of-written (numbers_of s) m p (rw is at e) in
    let same : w.kind ≡ k = some-injective w.kind k (sym w.found ∙ found) in
    let grant = grants is_one k.rows m.values in
    let a = within 4 m.ssrc in
    let b = takes_all grant k.rows m.values in
    let t : T (a && b) = rw same at w.taken in
    (T-and-left a b t, each-taken grant k.rows m.values (T-and-right a b t))

-- an Indicator that is taken goes into its octets
indicator-within : (names : List ℕ) (grant : Bool) (i : Maybe ℕ) → T (takes grant indicator (value_in names (indicator_said i))) → T (indicator_within i)
unfolding takes is_nothing value_in may_have holds
indicator-within names grant None t = tt
indicator-within names grant (Some n) t = t

-- each number of a message that has a packet goes into its octets
pub packet-within : (s : Sheet) (m : Message) (names p : List ℕ) → packet_for s (meaning names (message_said m)) ≡ some p → T (in_width m)
unfolding meaning value_in kind_with kinds numbers_of in_width takes is_nothing may_have holds grants is_result is_one
packet-within s (ReceiveRequest h user source i) names p e =
    let t = packet-taken s names (message_said (ReceiveRequest h user source i)) p refl refl e in
    T_and (within 4 h.ssrc) (indicator_within i) t.0 (indicator-within names false i t.1.1.1.0)
packet-within s (ReceiveResponse h Granted i) names p e =
    let t = packet-taken s names (message_said (ReceiveResponse h Granted i)) p refl refl e in
    T_and (within 4 h.ssrc) (indicator_within i) t.0 (indicator-within names true i t.1.1.1.0)
packet-within s (ReceiveResponse h (Rejected cause) i) names p e =
    let t = packet-taken s names (message_said (ReceiveResponse h (Rejected cause) i)) p refl refl e in
    T_and (within 4 h.ssrc) (within 2 cause && indicator_within i) t.0
    (T_and (within 2 cause) (indicator_within i) t.1.1.0 (indicator-within names false i t.1.1.1.0))
packet-within s (EndRequest h n i) names p e =
    let t = packet-taken s names (message_said (EndRequest h n i)) p refl refl e in
    T_and (within 4 h.ssrc) (indicator_within i) t.0 (indicator-within names false i t.1.1.0)
packet-within s (EndResponse h n) names p e = (packet-taken s names (message_said (EndResponse h n)) p refl refl e).0
packet-within s (TransmissionEnd h cause i) names p e =
    let t = packet-taken s names (message_said (TransmissionEnd h cause i)) p refl refl e in
    T_and (within 4 h.ssrc) (within 2 cause && indicator_within i) t.0
    (T_and (within 2 cause) (indicator_within i) t.1.0 (indicator-within names false i t.1.1.0))
packet-within s (TransmissionEndResponse h) names p e = (packet-taken s names (message_said (TransmissionEndResponse h)) p refl refl e).0
packet-within s (Ack h source about) names p e =
    let t = packet-taken s names (message_said (Ack h source about)) p refl refl e in
    T_and (within 4 h.ssrc) (within 2 source && within 1 about) t.0
    (T_and (within 2 source) (within 1 about) t.1.0 t.1.1.0)
