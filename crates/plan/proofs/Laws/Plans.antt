-- The plan of a message is the packet of its meaning (`planned-is`): part by part, a row of the message's kind takes the value exactly if
-- the part is right, and its field is then the part's. Assumes nothing.
use mathlib.Core.Path.{◌≡◌, refl, ap, ◌∙◌}
use mathlib.Core.Logic.{⊎_elim}
use mathlib.Core.Bool.{Bool, true, false, ◌&&◌}
use mathlib.Core.List.{List, [], ◌∷◌, ◌++◌, append-nil}
use mathlib.Core.Option.{none, some}
use Rattle.std.specs.Prelude.{Option, Some, None}
use Prim.Native.Nat.{ℕ, ◌+◌, ◌*◌, ◌/◌, ◌%◌, ◌<◌}
use native.Mathlib.Omega.{arith}
use lib.ListN.{length}
use lib.Dec.{T, leb, ltb→lt, lit<}
use Rattle.octets.specs.Choice.{pick, every}
use Rattle.octets.specs.Big.{big_at, big_of}
use Rattle.octets.specs.Buffer.{padded}
use Rattle.octets.proofs.Big.{big_of-two}
use Rattle.octets.proofs.Choice.{T_true, decide, T-and-left, T-and-right}
use Rattle.sheet.specs.declared.Sheet.{Sheet}
use Rattle.fields.specs.Layout.{laid_all}
use Rattle.fields.proofs.Laws.Layouts.{laid_all-append}
use Rattle.packet.specs.declared.Head.{Head}
use Rattle.packet.specs.declared.Name.{Name}
use Rattle.packet.specs.declared.Verdict.TheVariants.{Granted, Rejected}
use Rattle.packet.specs.declared.Message.{Message}
use Rattle.packet.specs.declared.Message.TheVariants.{ReceiveRequest, ReceiveResponse, EndRequest, EndResponse, TransmissionEnd, TransmissionEndResponse, Ack}
use Rattle.packet.specs.Claims.{name_right}
use Rattle.kinds.specs.Kind.{Row, Kind, user, indicator, kinds, may_lack, may_have, is_result, grants, numbers_of}
use Rattle.packet.specs.Message.{name_said, indicator_said, message_said}
use Rattle.plan.specs.declared.Part.{Part}
use Rattle.plan.specs.declared.Part.TheVariants.{Absent, Named}
use Rattle.packet.specs.Meaning.{Value, nothing, numeral, value_in, meaning}
use Rattle.plan.specs.Packet.{within, holds, is_nothing, takes, takes_all, is_one, writable, octets_for, contents_for, packet_as, kind_with, packet_of, packet_for, fits}
use Rattle.plan.specs.Plan.{part_said, plan_said, field_for, plan_as, plan_by, part_octets, parts_octets, part_right, plan_packet}
use Rattle.plan.specs.Inner.{number_part, indicator_part, plan_with, plan_for, indicator_within, in_width, planned}
use Rattle.plan.proofs.Laws.Fitting.{small}
use Rattle.plan.proofs.Laws.Parts.{laid-number}

-- ---- tests, and choice by a test

-- the two hold, so each does
halves : (a b : Bool) → T (a && b) → T a × T b
halves a b t = (T-and-left a b t, T-and-right a b t)

-- only where the test holds does it matter what is picked there
pick_under : {A : Type 0} (b : Bool) {x y : A} (z : A) → (T b → x ≡ y) → pick b x z ≡ pick b y z
pick_under true z h = h tt
pick_under false z h = refl

-- an element or none before a list
one-or-none : {A : Type 0} (b : Bool) (x : A) (l : List A) → pick b l (x ∷ l) ≡ pick b [] (x ∷ []) ++ l
one-or-none true x l = refl
one-or-none false x l = refl

-- an octet, and a zero octet behind it
octet_first : (n : ℕ) → n < 256 → n ∷ 0 ∷ [] ≡ big_of 2 (n * 256)
octet_first n h =
    let first : n * 256 / 256 % 256 ≡ n = omega arith in
    let second : n * 256 % 256 ≡ 0 = omega arith in
    rw (big_of-two, first, second)

-- ---- a row, its value and a part

-- the row takes the value exactly if the part is right, and its field laid out is then the part's
record Makes (names : List ℕ) (grant : Bool) (r : Row) (v : Value) (part : Part) : Type 0 where
  taken : takes grant r v ≡ part_right names part
  field : T (part_right names part) → laid_all (contents_for (r ∷ []) (v ∷ [])) ≡ part_octets names part

module _ {names : List ℕ} {grant : Bool} where
  -- a field that may be absent
  absent-makes : {r : Row} → T (may_lack grant r.need) → Makes names grant r nothing Absent
  unfolding takes is_nothing contents_for laid_all
  absent-makes {r} t = record { taken = T_true (may_lack grant r.need) t; field = λ _. refl }

  -- a number that the row takes, with the number of two octets that stands for it
  number-makes : {r : Row} {n octets : ℕ} → T (may_have grant r.need && holds r.form (numeral n)) → octets_for r.form (numeral n) ≡ big_of 2 octets
      → r.id < 256 → octets < 65536 → Makes names grant r (numeral n) (number_part r.id octets)
  unfolding takes is_nothing contents_for laid_all
  number-makes {r} {n} {octets} t e h l =
      record {
        taken = T_true (may_have grant r.need && holds r.form (numeral n)) t;
        field = λ _. rw (e, append-nil) (laid-number r.id octets h l);
      }

  -- an Indicator
  indicator-makes : (i : Option ℕ) → T (indicator_within i) → Makes names grant indicator (value_in names (indicator_said i)) (indicator_part i)
  unfolding value_in may_lack may_have holds octets_for
  indicator-makes None t = absent-makes tt
  indicator-makes (Some n) t = number-makes t refl (lit< tt) (ltb→lt n 65536 t)

  -- a name, which lies in the octets or does not
  name-makes : (n : Name) → Makes names grant user (value_in names (name_said n)) (Named n)
  unfolding value_in name_right takes is_nothing may_have holds octets_for contents_for laid_all
  name-makes n =
      let inside = leb (n.at + n.len) (length names) in
      ⊎_elim
      (λ t. record { taken = rw (T_true inside t); field = λ _. rw (T_true inside t, append-nil) })
      (λ e. record { taken = rw e; field = λ t. absurd (rw e at t) })
      (decide inside)

-- ---- rows, their values and their parts

-- the rows take the values exactly if the parts are right, and the fields laid out are then the parts'
record Made (names : List ℕ) (grant : Bool) (rows : List Row) (values : List Value) (parts : List Part) : Type 0 where
  taken : takes_all grant rows values ≡ every (part_right names) parts
  fields : T (every (part_right names) parts) → laid_all (contents_for rows values) ≡ parts_octets names parts

module _ {names : List ℕ} {grant : Bool} where
  -- no row and no part
  no_rows : Made names grant [] [] []
  unfolding takes_all contents_for laid_all
  no_rows = record { taken = refl; fields = λ _. refl }

  -- a part past the last row
  past-rows : {parts : List Part} → Made names grant [] [] parts → Made names grant [] [] (Absent ∷ parts)
  past-rows m = record { taken = m.taken; fields = m.fields }

  -- a row, and the others
  next_row : {r : Row} {v : Value} {part : Part} {rows : List Row} {values : List Value} {parts : List Part}
      → Makes names grant r v part → Made names grant rows values parts → Made names grant (r ∷ rows) (v ∷ values) (part ∷ parts)
  unfolding takes_all contents_for
  next_row {r} {v} {part} {rows} {values} {parts} m ms =
      record {
        taken = rw (m.taken, ms.taken);
        fields = λ t.
            let u = halves (part_right names part) (every (part_right names) parts) t in
            ap laid_all (one-or-none (is_nothing v) (record { id = r.id; value = octets_for r.form v }) (contents_for rows values))
            ∙ rw (laid_all-append, m.field u.0, ms.fields u.1);
      }

-- ---- the packet

-- a plan whose parts are made from the rows of a kind is the packet of that kind
planned-as : (s : Sheet) (kind letters : ℕ) (h : Head) {names : List ℕ} {k : Kind} {values : List Value} {parts : List Part}
    → kind_with kind (kinds (numbers_of s)) ≡ some k → big_of 4 letters ≡ k.letters → T (within 4 h.ssrc)
    → Made names (grants is_one k.rows values) k.rows values parts
    → planned names (plan_with h letters k.number parts)
    ≡ packet_for s (some (record { kind = kind; ssrc = h.ssrc; ack = h.ack; values = values }))
unfolding planned plan_packet packet_for packet_of writable packet_as
planned-as s kind letters h {names} {k} {values} {parts} e l w m =
    rw (e, T_true (within 4 h.ssrc) w, m.taken, l) (pick_under (every (part_right names) parts) none (λ t. rw (m.fields t)))

-- the Result's ID goes into an octet
narrow-id : (s : Sheet) → T (fits (numbers_of s)) → s.resultid < 256
narrow-id s t = let n = small s t in omega arith

-- the plan of a message whose numbers are no wider than their types
pub planned-is : (s : Sheet) → T (fits (numbers_of s)) → (m : Message) (names : List ℕ) → T (in_width m) → planned names (plan_for s m) ≡ packet_for s (meaning names (message_said m))
unfolding in_width kind_with kinds numbers_of big_of meaning value_in grants is_result is_one may_lack may_have holds octets_for
planned-is s v (ReceiveRequest h user source i) names w =
    let t = halves (within 4 h.ssrc) (indicator_within i) w in
    planned-as s 1 0x4D435630 h refl refl t.0
    (next_row (name-makes user) (next_row (name-makes source) (next_row (indicator-makes i t.1) no_rows)))
planned-is s v (ReceiveResponse h Granted i) names w =
    let t = halves (within 4 h.ssrc) (indicator_within i) w in
    planned-as s 2 0x4D435631 h refl refl t.0
    (next_row (number-makes tt refl (narrow-id s v) (lit< tt)) (next_row (absent-makes tt) (next_row (indicator-makes i t.1) no_rows)))
planned-is s v (ReceiveResponse h (Rejected cause) i) names w =
    let t = halves (within 4 h.ssrc) (within 2 cause && indicator_within i) w in
    let u = halves (within 2 cause) (indicator_within i) t.1 in
    planned-as s 2 0x4D435631 h refl refl t.0
    (next_row (number-makes tt refl (narrow-id s v) (lit< tt)) (next_row (number-makes u.0 refl (lit< tt) (ltb→lt cause 65536 u.0)) (next_row (indicator-makes i u.1) no_rows)))
planned-is s v (EndRequest h n i) names w =
    let t = halves (within 4 h.ssrc) (indicator_within i) w in
    planned-as s 3 0x4D435632 h refl refl t.0
    (next_row (name-makes n) (next_row (indicator-makes i t.1) (past-rows no_rows)))
planned-is s v (EndResponse h n) names w =
    planned-as s 4 0x4D435632 h refl refl w (next_row (name-makes n) (past-rows (past-rows no_rows)))
planned-is s v (TransmissionEnd h cause i) names w =
    let t = halves (within 4 h.ssrc) (within 2 cause && indicator_within i) w in
    let u = halves (within 2 cause) (indicator_within i) t.1 in
    planned-as s 5 0x4D435632 h refl refl t.0
    (next_row (number-makes u.0 refl (lit< tt) (ltb→lt cause 65536 u.0)) (next_row (indicator-makes i u.1) (past-rows no_rows)))
planned-is s v (TransmissionEndResponse h) names w =
    planned-as s 6 0x4D435632 h refl refl w (past-rows (past-rows (past-rows no_rows)))
planned-is s v (Ack h source about) names w =
    let t = halves (within 4 h.ssrc) (within 2 source && within 1 about) w in
    let u = halves (within 2 source) (within 1 about) t.1 in
    planned-as s 7 0x4D435632 h refl refl t.0
    (next_row (number-makes u.0 refl (lit< tt) (ltb→lt source 65536 u.0))
    (next_row (number-makes u.1 (octet_first about (ltb→lt about 256 u.1)) (lit< tt) (omega (arith, ltb→lt about 256 u.1))) (past-rows no_rows)))

-- ---- what the plan says

-- an Indicator's field is its row's
indicator-said : (i : Option ℕ) → part_said (indicator_part i) ≡ field_for indicator (indicator_said i)
indicator-said None = refl
indicator-said (Some n) = refl

-- the plan of a message says what the table does
pub plan-said : (s : Sheet) (m : Message) → plan_said (plan_for s m) ≡ plan_by s (message_said m)
unfolding plan_by plan_as kind_with kinds numbers_of big_at padded
plan-said s (ReceiveRequest h user source i) = rw (indicator-said i)
plan-said s (ReceiveResponse h Granted i) = rw (indicator-said i)
plan-said s (ReceiveResponse h (Rejected cause) i) = rw (indicator-said i)
plan-said s (EndRequest h n i) = rw (indicator-said i)
plan-said s (EndResponse h n) = refl
plan-said s (TransmissionEnd h cause i) = rw (indicator-said i)
plan-said s (TransmissionEndResponse h) = refl
plan-said s (Ack h source about) = refl
