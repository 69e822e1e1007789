-- Demand 3: a schedule leaves the records and the answers of its taken events run one after another; and the accident cannot happen.
-- Assumes nothing.
use mathlib.Core.Path.{◌≡◌, refl, ◌∙◌}
use mathlib.Core.List.{List, [], ◌∷◌, ◌++◌, append_assoc, append-nil}
use Prim.Native.Nat.{ℕ}
use lib.ListN.{set}
use Rattle.octets.specs.Choice.{All}
use Rattle.sheet.specs.declared.Sheet.{Sheet}
use Rattle.streams.specs.declared.Record.{Record}
use Rattle.streams.specs.declared.Event.{Event}
use Rattle.streams.specs.declared.stream.Rules.{Rules}
use Rattle.streams.specs.Record.{rules_of, own}
use Rattle.streams.specs.Answer.{Reply}
use Rattle.streams.specs.Table.{Answered}
use Rattle.streams.proofs.Laws.Rules.{granted_exactly, granted-not-ending}
use Rattle.reception.specs.Steps.{Said, gives, refuses, Try, read_of, attempt_of, work_of, reply_of, stored, store_of}
use Rattle.reception.specs.Schedule.{Step, reads, works_out, stores, WorkedOut, State, start, after, if_took, taken_at, run, taken}
use Rattle.reception.specs.Serial.{ruled, next, records_in_turn, answers_in_turn}
use Rattle.reception.specs.Claims.{events, SerialOrder, NoAccident}
use Rattle.reception.proofs.Laws.Steps.{attempt-gives, reply-gives}

-- ---- serial order

-- a store that took leaves what the table makes of the records, and its answer is the table's
took-ruled : (s : Sheet) (a : Try) (e : Event) (rs : List Record) (reply : Reply) → (x : Record) × (attempt_of s x e ≡ gives a)
    → reply_of s a (own rs a.stream) ≡ gives reply
    → (set rs a.stream a.wanted ≡ next (rules_of s) e rs) × (reply ≡ (ruled (rules_of s) e rs).reply)
took-ruled s a e rs reply w p =
    let k = reply-gives s a (own rs a.stream) reply p in
    let same = (attempt-gives s w.0 e a w.1).same in
    (cc, cc)

-- the records left and the events taken are those of the taken events run one after another
abbrev InOrder : Rules → List Record → List Record → List Answered → Type 0
InOrder q rs left ts = (left ≡ records_in_turn q (events ts) rs) × (ts ≡ answers_in_turn q (events ts) rs)

-- what a schedule leaves and takes is in order, from any state
in_order_lem : (s : Sheet) (steps : List Step) (m : State) → All (WorkedOut s) steps
    → InOrder (rules_of s) m.records (run s steps m).records (taken s steps m)
unfolding run taken after taken_at if_took read_of work_of store_of stored records_in_turn answers_in_turn
in_order_lem s [] m h = (refl, refl)
in_order_lem s (reads q k ∷ xs) m h = in_order_lem s xs (after s (reads q k) m) h.1
in_order_lem s (works_out q x e ∷ xs) m h = in_order_lem s xs (after s (works_out q x e) m) h.1
in_order_lem s (stores q a e ∷ xs) m h =
    by_said (reply_of s a (own m.records a.stream)) refl (in_order_lem s xs (after s (stores q a e) m) h.1)
  where
    left : Said Reply → State
    left r = record { records = stored a m.records r; last_read = m.last_read }

    by_said : (r : Said Reply) → reply_of s a (own m.records a.stream) ≡ r
        → InOrder (rules_of s) (left r).records (run s xs (left r)).records (taken s xs (left r))
        → InOrder (rules_of s) m.records (run s xs (left r)).records (if_took e r ++ taken s xs (left r))
    by_said (refuses number at) p i = i
    by_said (gives reply) p i =
        let k = took-ruled s a e m.records reply h.0 p in
        (cc, cc)

pub serial_order : SerialOrder
serial_order s rs steps h = in_order_lem s steps (start rs) h

-- ---- the accident

-- what holds of each element, and of one more
all_snoc : {A : Type 0} (P : A → Type 0) (xs : List A) (x : A) → All P xs → P x → All P (xs ++ (x ∷ []))
all_snoc P [] x h p = (p, tt)
all_snoc P (y ∷ ys) x h p = (h.0, all_snoc P ys x h.1 p)

-- the events taken, with one step more
taken-snoc : (s : Sheet) (xs : List Step) (x : Step) (m : State) → taken s (xs ++ (x ∷ [])) m ≡ taken s xs m ++ taken_at s x (run s xs m)
unfolding run taken
taken-snoc s [] x m = append-nil (taken_at s x m)
taken-snoc s (y ∷ ys) x m = rw (taken-snoc s ys x (after s y m), append_assoc)

-- of events run one after another the last has the table's answer on the records that the others leave
in_turn_last : (q : Rules) (ts : List Answered) (t : Answered) (rs : List Record) → ts ++ (t ∷ []) ≡ answers_in_turn q (events (ts ++ (t ∷ []))) rs
    → t.reply ≡ (ruled q t.event (records_in_turn q (events ts) rs)).reply
unfolding records_in_turn answers_in_turn
in_turn_last q [] t rs p = cc
in_turn_last q (u ∷ us) t rs p = in_turn_last q us t (next q u.event rs) (cc)

-- By the serial order of the schedule with this store as its last step: its answer is the table's, which grants nothing on Ending.
pub no_accident : NoAccident
unfolding store_of taken_at if_took
no_accident s rs before by a e reply h w p g =
    let x : ℕ → Record = own (run s before (start rs)).records in
    let ts = taken s before (start rs) in
    let t : Answered = record { event = e; reply = reply } in
    let took : taken s (before ++ (stores by a e ∷ [])) (start rs) ≡ ts ++ (t ∷ []) = taken-snoc s before (stores by a e) (start rs) ∙ rw p in
    let order = serial_order s rs (before ++ (stores by a e ∷ [])) (all_snoc (WorkedOut s) before (stores by a e) h w) in
    let last = in_turn_last (rules_of s) ts t rs (rw took at order.1) in
    let left = (serial_order s rs before h).0 in
    let same = (attempt-gives s w.0 e a w.1).same in
    let stream : e.stream ≡ a.stream = cc in
    let grants = (granted_exactly (rules_of s) e.stream (x e.stream) e.what).1 (cc) in
    ((reply-gives s a (x a.stream) reply p).seen, rw stream at (granted-not-ending (rules_of s) e.stream (x e.stream) e.what grants))
