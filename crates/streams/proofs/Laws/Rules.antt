-- Laws of the event table: what each row does to a record, bit by bit, and what its answer says. Assumes nothing.
use mathlib.Core.Path.{◌≡◌, refl, sym}
use mathlib.Core.Logic.{◌⊎◌, inl, inr, ⊎_elim, ◌↔◌}
use mathlib.Core.Bool.{Bool, true, false, not, ◌&&◌, ◌||◌, and-true, and-false}
use mathlib.Core.Option.{Option, none, some}
use Prim.Native.Nat.{ℕ, ◌^◌, ◌<◌, ◌≤◌}
use native.Mathlib.Omega.{arith}
use lib.Count.{ones}
use lib.Dec.{T, eqb, leb, ltb→lt, leb→le, eqb→eq, eqb_refl}
use borrow.Author.Tests.{lt-ltb, le-leb, leb-false, eqb-false, ne_eqb, not-true}
use Rattle.octets.proofs.Choice.{T_true, T-and-left, T-and-right, false-T, or-false-both, pick-cases}
use Rattle.octets.proofs.Places.{eqb_comm}
use Rattle.sheet.specs.Table.{most_seats}
use Rattle.streams.specs.declared.Phase.{Phase}
use Rattle.streams.specs.declared.Phase.TheVariants.{Free, Idle, Watched, Ending}
use Rattle.streams.specs.declared.Record.{Record}
use Rattle.streams.specs.declared.What.{What}
use Rattle.streams.specs.declared.What.TheVariants.{Request, End, Open, T11, EndResponse, Release}
use Rattle.streams.specs.declared.stream.Rules.{Rules}
use Rattle.streams.specs.Record.{watches, set_bit, clear_bit, free, idle, watched, ending, count, phase_number, is, same_record, good_receivers, legal_in, legal}
use Rattle.streams.specs.Answer.{Done, was, granted, rejected, ended, opened, end_requested, freed, released, discarded, Sent, Timers, grant, rejection, end_response, end_request, ack, untouched}
use Rattle.streams.specs.Table.{insufficient_downlink_bandwidth, no_permission_to_receive, no_receiving_participant, Ruling, ruling, discard, reject, joined, on_request, after_clearing, on_end, on_open, on_t11, on_end_response, on_release, rule_for, sender_on, change_for, grants, undoes}
use Rattle.streams.specs.Claims.{GrantedExactly, ChangesByTable}
use Rattle.streams.proofs.Laws.Bits.{watches-none, watches-set, watches-clear, set_below, clear-le, ones-set, ones_clear}
use Rattle.streams.proofs.Laws.Records.{on_below, same-receivers, legal-below}

-- ---- bits

-- a byte in which a bit is set is not 0
watches-some : (b r : ℕ) → T (watches b r) → b ≡ 0 → ⊥
watches-some b r t e = false-T (watches b r) (rw (e, watches-none)) t

-- after an event that grants seat r, in the words of the history
set-bits : (b r c p : ℕ) → set_bit b r ≡ c → watches c p ≡ (eqb r p && true || watches b p && true)
set-bits b r c p e = rw (← e, and-true (eqb r p), and-true (watches b p), eqb_comm r p) (watches-set b r p)

-- after an end by seat r
clear_bits : (b r c p : ℕ) → clear_bit b r ≡ c → watches c p ≡ (watches b p && not (eqb r p))
clear_bits b r c p e = rw (← e, eqb_comm r p) (watches-clear b r p)

-- ---- legal records

-- receivers are legal that are some, without the own, on the sheet, and at most limit
watched-legal : (q : Rules) (s b : ℕ) → (b ≡ 0 → ⊥) → watches b s ≡ false → b < 2 ^ q.seats → ones b ≤ q.limit → T (legal q s (watched b))
unfolding legal legal_in good_receivers count
watched-legal q s b n o h c = rw (ne_eqb b 0 n, o, lt-ltb b (2 ^ q.seats) h, le-leb (ones b) q.limit c) tt

module _ (q : Rules) (s : ℕ) (x : Record) where
  -- a legal record has byte 0, or it is Watched and its receivers are good
  legal-cases : (p : Phase) → T (legal_in p q s x) → (x.receivers ≡ 0) ⊎ (T (eqb (phase_number p) 2) × T (good_receivers q s x))
  unfolding legal_in
  legal-cases Free l = inl (same-receivers x free l)
  legal-cases Idle l = inl (same-receivers x idle l)
  legal-cases Watched l = inr (tt, l)
  legal-cases Ending l = inl (same-receivers x ending l)

  -- good receivers have no own bit, and at most limit bits
  good-few : T (good_receivers q s x) → (watches x.receivers s ≡ false) × (ones x.receivers ≤ q.limit)
  unfolding good_receivers count
  good-few g =
      let b = x.receivers in
      let o : T (not (watches b s)) = search (T-and-left, T-and-right) in
      let c : T (leb (ones b) q.limit) = search (T-and-left, T-and-right) in
      (not-true (watches b s) (T_true (not (watches b s)) o), leb→le (ones b) q.limit c)

  -- so has a legal record
  legal-few : T (legal q s x) → (watches x.receivers s ≡ false) × (ones x.receivers ≤ q.limit)
  unfolding legal ones
  legal-few l =
      ⊎_elim (λ (e : x.receivers ≡ 0). rw e (watches-none s, omega arith)) (λ g. good-few g.1) (legal-cases x.phase l)

  -- a legal record that is in another phase than Watched has no bit
  legal-none : (k : ℕ) → T (eqb (phase_number x.phase) k) → eqb k 2 ≡ false → T (legal q s x) → (r : ℕ) → watches x.receivers r ≡ false
  unfolding legal
  legal-none k t o l r =
      ⊎_elim
      (λ (e : x.receivers ≡ 0). rw (e, watches-none))
      (λ g. absurd (false-T (eqb k 2) o (rw (eqb→eq (phase_number x.phase) k t) at g.0)))
      (legal-cases x.phase l)

  -- ---- the rows

  -- what is claimed of a row
  record Row (w : What) (m : Ruling) : Type 0 where
    discards : m.reply.done ≡ discarded → m.becomes ≡ x
    not-ending : m.reply.done ≡ granted → is Ending x ≡ false
    becomes-legal : T (legal q s x) → T (sender_on q w) → T (legal q s m.becomes)
    bits : T (legal q s x) → (r : ℕ)
        → watches m.becomes.receivers r ≡ (grants r w m.reply.done || (watches x.receivers r && not (undoes r w m.reply.done)))

  -- a row that keeps the record
  kept : (w : What) (d : Done) (sends : Option Sent) (ts : Timers) → (d ≡ granted → is Ending x ≡ false)
      → (T (legal q s x) → (r : ℕ) → watches x.receivers r ≡ (grants r w d || (watches x.receivers r && not (undoes r w d))))
      → Row w (ruling x d sends ts)
  kept w d sends ts o bits = record { discards = λ e. refl; not-ending = o; becomes-legal = λ l t. l; bits = bits }

  -- "request by r" that is rejected
  rejects : (r cause : ℕ) → Row (Request r) (reject x cause)
  rejects r cause = kept (Request r) rejected _ _ (λ e. cc) (λ l p. rw (and-false, and-true))

  -- one where the bit is set
  grants-again : (r : ℕ) → is Ending x ≡ false → T (watches x.receivers r) → Row (Request r) (ruling x granted grant untouched)
  unfolding set_bit
  grants-again r o t =
      let b = x.receivers in
      kept (Request r) granted _ _ (λ e. o) (λ l p. set-bits b r b p (rw (T_true (watches b r) t)))

  -- one that sets it
  grants-new : (r : ℕ) (ts : Timers) → eqb r s ≡ false → is Ending x ≡ false → watches x.receivers r ≡ false → count x < q.limit
      → Row (Request r) (ruling (watched (set_bit x.receivers r)) granted grant ts)
  unfolding count
  grants-new r ts n o f c =
      let b = x.receivers in
      record {
        discards = λ e. cc;
        not-ending = λ e. o;
        becomes-legal =
            λ l t.
            watched-legal q s (set_bit b r)
            (watches-some (set_bit b r) r (rw (watches-set, T_true (eqb r r) (eqb_refl r)) tt))
            (rw (watches-set, eqb_comm s r, n) (legal-few l).0)
            (set_below q.seats b r (legal-below q s x l) (ltb→lt r q.seats t))
            (rw (ones-set b r f) c);
        bits = λ l p. set-bits b r (set_bit b r) p refl;
      }

  -- "request by r"
  request-row : (r : ℕ) → Row (Request r) (on_request q s x r)
  unfolding on_request joined
  request-row r =
      pick-cases (Row (Request r)) (eqb r s) _ _ (λ t. rejects r no_permission_to_receive)
      (λ n. pick-cases (Row (Request r)) _ _ _ (λ t. rejects r no_permission_to_receive)
      (λ e. let o = (or-false-both (is Free x) (is Ending x) e).1 in
      pick-cases (Row (Request r)) (watches x.receivers r) _ _ (λ t. grants-again r o t)
      (λ f. pick-cases (Row (Request r)) (leb q.limit (count x)) _ _ (λ t. rejects r insufficient_downlink_bandwidth)
      (λ c. grants-new r _ n o f (leb-false q.limit (count x) c)))))

  -- "end by r" that leaves others
  ends-one : (r : ℕ) → T (watches x.receivers r) → (clear_bit x.receivers r ≡ 0 → ⊥)
      → Row (End r) (ruling (watched (clear_bit x.receivers r)) ended end_response untouched)
  ends-one r t n =
      let b = x.receivers in
      record {
        discards = λ e. cc;
        not-ending = λ e. cc;
        becomes-legal =
            λ l u.
            let seats-le-8 = legal-few l in
            watched-legal q s (clear_bit b r) n
            (rw (watches-clear, seats-le-8.0))
            (omega (arith, clear-le b r, legal-below q s x l))
            (omega (arith, ones_clear b r t, seats-le-8.1));
        bits = λ l p. clear_bits b r (clear_bit b r) p refl;
      }

  -- one that leaves none
  ends_last : (r : ℕ) (ts : Timers) → clear_bit x.receivers r ≡ 0 → Row (End r) (ruling idle ended end_response ts)
  unfolding legal legal_in same_record
  ends_last r ts z =
      record { discards = λ e. cc; not-ending = λ e. cc; becomes-legal = λ l u. tt; bits = λ l p. clear_bits x.receivers r 0 p z }

  -- "end by r"
  end_row : (r : ℕ) → Row (End r) (on_end x r)
  unfolding on_end after_clearing clear_bit
  end_row r =
      let b = x.receivers in
      pick-cases (Row (End r)) (watches b r) _ _
      (λ t. pick-cases (Row (End r)) (eqb (clear_bit b r) 0) _ _
      (λ z. ends_last r _ (eqb→eq (clear_bit b r) 0 z))
      (λ n. ends-one r t (eqb-false (clear_bit b r) 0 n)))
      (λ f. kept (End r) ended _ _ (λ e. cc) (λ l p. clear_bits b r b p (rw f)))

  -- "open"
  open_row : Row Open (on_open x)
  unfolding on_open legal legal_in same_record
  open_row =
      pick-cases (Row Open) (is Free x) _ _
      (λ t. record { discards = λ e. cc; not-ending = λ e. cc; becomes-legal = λ l u. tt; bits = λ l r. rw (watches-none, and-false) })
      (λ f. kept Open discarded _ _ (λ e. cc) (λ l r. rw and-true))

  -- "T11 expired"
  t11-row : Row T11 (on_t11 x)
  unfolding on_t11 legal legal_in same_record
  t11-row =
      pick-cases (Row T11) (is Idle x) _ _
      (λ t. record { discards = λ e. cc; not-ending = λ e. cc; becomes-legal = λ l u. tt; bits = λ l r. rw (watches-none, legal-none 1 t refl l r) })
      (λ f. kept T11 discarded _ _ (λ e. cc) (λ l r. rw and-true))

  -- "end response from s"
  end-response-row : (asked : Bool) → Row (EndResponse asked) (on_end_response x asked)
  unfolding on_end_response legal legal_in same_record
  end-response-row asked =
      pick-cases (Row (EndResponse asked)) (is Ending x) _ _
      (λ t. record { discards = λ e. cc; not-ending = λ e. cc; becomes-legal = λ l u. tt; bits = λ l r. rw (watches-none, legal-none 3 t refl l r) })
      (λ f. kept (EndResponse asked) discarded _ _ (λ e. cc) (λ l r. rw and-true))

  -- "release"
  release-row : Row Release (on_release x)
  unfolding on_release legal legal_in same_record
  release-row =
      pick-cases (Row Release) (is Free x) _ _
      (λ t. kept Release discarded _ _ (λ e. cc) (λ l r. rw (legal-none 0 t refl l r)))
      (λ f. record { discards = λ e. cc; not-ending = λ e. cc; becomes-legal = λ l u. tt; bits = λ l r. rw watches-none (sym (and-false (watches x.receivers r))) })

  -- the table
  rule-row : (w : What) → Row w (rule_for q s x w)
  unfolding rule_for
  rule-row (Request r) = request-row r
  rule-row (End r) = end_row r
  rule-row Open = open_row
  rule-row T11 = t11-row
  rule-row (EndResponse asked) = end-response-row asked
  rule-row Release = release-row

-- ---- the claims

-- a discarded event keeps the record
pub rule_discards : (q : Rules) (s : ℕ) (x : Record) (w : What) → (rule_for q s x w).reply.done ≡ discarded → (rule_for q s x w).becomes ≡ x
rule_discards q s x w e = (rule-row q s x w).discards e

-- what an answer says: a discarded event has no message and no timer, and a granted response is sent exactly where a grant is answered
abbrev pub Plain : Ruling → Type 0
Plain m =
    (m.reply.done ≡ discarded → (m.reply.sends ≡ none) × (m.reply.timers ≡ untouched))
    × ((m.reply.done ≡ granted) ↔ (m.reply.sends ≡ grant))

-- a Result of 1
abbrev is1 : Option ℕ → Bool
is1 none = false
is1 (some r) = eqb r 1

-- a granted response
abbrev is_grant : Option Sent → Bool
is_grant none = false
is_grant (some m) = eqb m.kind 2 && is1 m.result

-- an answer that is plain_other
plain_other : (x : Record) (d : Done) (sends : Option Sent) (ts : Timers) → was granted d ≡ false → was discarded d ≡ false → is_grant sends ≡ false
    → Plain (ruling x d sends ts)
plain_other x d sends ts p q r = (
  (λ e. absurd (false-T (was discarded d) q (rw e tt))),
  ((λ e. absurd (false-T (was granted d) p (rw e tt))), (λ e. absurd (false-T (is_grant sends) r (rw e tt)))),
)

-- a grant
granting : (x : Record) (ts : Timers) → Plain (ruling x granted grant ts)
granting x ts = ((λ e. (cc, cc)), ((λ e. refl), (λ e. refl)))

-- a discarded event
discarding : (x : Record) → Plain (discard x)
discarding x = ((λ e. (refl, refl)), ((λ e. cc), (λ e. cc)))

-- so is every answer of the table
pub rule-plain : (q : Rules) (s : ℕ) (x : Record) (w : What) → Plain (rule_for q s x w)
unfolding rule_for on_request joined on_end after_clearing on_open on_t11 on_end_response on_release
rule-plain q s x (Request r) =
    let rejecting : (cause : ℕ) → Plain (reject x cause) = λ cause. plain_other x rejected (rejection cause) untouched refl refl refl in
    pick-cases Plain (eqb r s) _ _ (λ t. rejecting no_permission_to_receive)
    (λ f. pick-cases Plain (is Free x || is Ending x) _ _ (λ t. rejecting no_permission_to_receive)
    (λ f. pick-cases Plain (watches x.receivers r) _ _ (λ t. granting x untouched)
    (λ f. pick-cases Plain (leb q.limit (count x)) _ _ (λ t. rejecting insufficient_downlink_bandwidth) (λ f. granting x _))))
rule-plain q s x (End r) =
    let ending : (y : Record) (ts : Timers) → Plain (ruling y ended end_response ts) = λ y ts. plain_other y ended end_response ts refl refl refl in
    pick-cases Plain (watches x.receivers r) _ _
    (λ t. pick-cases Plain (eqb (clear_bit x.receivers r) 0) _ _ (λ u. ending x _) (λ f. ending x _))
    (λ f. ending x _)
rule-plain q s x Open = pick-cases Plain (is Free x) _ _ (λ t. plain_other x opened none _ refl refl refl) (λ f. discarding x)
rule-plain q s x T11 =
    pick-cases Plain (is Idle x) _ _ (λ t. plain_other x end_requested (end_request no_receiving_participant) _ refl refl refl) (λ f. discarding x)
rule-plain q s x (EndResponse true) = pick-cases Plain (is Ending x) _ _ (λ t. plain_other x freed ack _ refl refl refl) (λ f. discarding x)
rule-plain q s x (EndResponse false) = pick-cases Plain (is Ending x) _ _ (λ t. plain_other x freed none _ refl refl refl) (λ f. discarding x)
rule-plain q s x Release = pick-cases Plain (is Free x) _ _ (λ t. discarding x) (λ f. plain_other x released none _ refl refl refl)

-- a grant is answered exactly where a granted response is sent
pub granted_exactly : GrantedExactly
granted_exactly q s x w = (rule-plain q s x w).1

-- no event is granted on a record that is Ending
pub granted-not-ending : (q : Rules) (s : ℕ) (x : Record) (w : What) → (rule_for q s x w).reply.done ≡ granted → x.phase ≡ Ending → ⊥
granted-not-ending q s x w e p = false-T (is Ending x) ((rule-row q s x w).not-ending e) (rw p tt)

module _ (q : Rules) (s : ℕ) (x : Record) (w : What) (l : T (legal q s x)) (sender : T (sender_on q w)) where
  -- what becomes of a legal record is legal
  pub rule-legal : T (legal q s (rule_for q s x w).becomes)
  rule-legal = (rule-row q s x w).becomes-legal l sender

  -- a bit is set afterwards exactly if it was granted now, or was set and was not ended now
  pub rule-bits : (r : ℕ)
      → watches (rule_for q s x w).becomes.receivers r
      ≡ (grants r w (rule_for q s x w).reply.done || (watches x.receivers r && not (undoes r w (rule_for q s x w).reply.done)))
  rule-bits r = (rule-row q s x w).bits l r

-- what the code makes of an event whose sender is on the sheet is the table's row
pub changes_by_table : ChangesByTable
unfolding change_for most_seats
changes_by_table q s x (Request r) t h = rw (lt-ltb r 8 (on_below q r t h))
changes_by_table q s x (End r) t h = refl
changes_by_table q s x Open t h = refl
changes_by_table q s x T11 t h = refl
changes_by_table q s x (EndResponse asked) t h = refl
changes_by_table q s x Release t h = refl
