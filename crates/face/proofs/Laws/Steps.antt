-- Laws of what working out and storing say: on what rows stand for, what the steps below say; and 9, behind 12, for all else. Assumes nothing.
use mathlib.Core.Path.{◌≡◌, refl, sym, ap, ◌∙◌}
use mathlib.Core.Logic.{⊎_elim}
use mathlib.Core.Bool.{Bool, true, false, ◌&&◌, and_assoc}
use mathlib.Core.List.{List, append-nil}
use mathlib.Core.Option.{none, some}
use Prim.Native.Nat.{ℕ, ◌+◌, ◌*◌, ◌≤◌, ◌<◌}
use native.Mathlib.Omega.{arith}
use lib.ListN.{length, set, take, drop, drop_of_length-le, length-set, length-drop}
use lib.Seq.{take_all}
use lib.Dec.{leb}
use Rattle.std.specs.Prelude.{Result, Ok, Err}
use Rattle.octets.specs.Buffer.{over, put_at}
use Rattle.octets.proofs.Choice.{T_true, decide}
use Rattle.sheet.specs.declared.Sheet.{Sheet}
use Rattle.sheet.specs.declared.Refusal.{Refusal}
use Rattle.sheet.specs.Refusal.{refusal_number, refusal_line}
use Rattle.sheet.specs.Value.{sheet_in, valid_alone}
use Rattle.streams.specs.declared.Record.{Record}
use Rattle.streams.specs.declared.Event.{Event}
use Rattle.streams.specs.declared.Answer.{Answer}
use Rattle.streams.specs.Record.{rules_of, on_sheet, phase_number, legal, own}
use Rattle.streams.specs.Answer.{answer_said}
use Rattle.streams.specs.Table.{sender_on}
use Rattle.reception.specs.declared.Attempt.{Attempt}
use Rattle.reception.specs.Steps.{Said, gives, refuses, check, Try, attempt_of, reply_of, stored, store_of, attempt_said, taking_said}
use Rattle.reception.specs.Promises.{settle≡}
use Rattle.reception.proofs.Laws.Steps.{seats-le-8, reply-gives, reply-below}
use Rattle.rows.specs.Rows.{is_some, record_row, records_row, records_in, event_in, answer_row, try_row, try_in}
use Rattle.rows.specs.Lent.{code, put, roomy}
use Rattle.face.specs.Calls.{of_given, standing, work_says, left_says, store_says}
use Rattle.face.specs.Calls.{Stored as Kept}
use Rattle.rows.specs.Promises.{Rowed}
use Rattle.face.specs.Promises.{Keeps}
use Rattle.face.specs.Inner.{Nowhere, NeverLegal}
use Rattle.face.proofs.Laws.Told.{misfit_said, misfit-is}
use Rattle.rows.proofs.Laws.Answers.{answer-length}
use Rattle.rows.proofs.Laws.Claims.{attempts_stand}
use Rattle.rows.proofs.Laws.Records.{is-none, option_cases, records-eight, row-set, place_set}

-- ---- checks

-- what is checked before is not checked again
check-given : {A B : Type 0} (b : Bool) (number : ℕ) (f : A → B) (x : Said A)
    → check b number (of_given f (check b number x)) ≡ of_given f (check b number x)
unfolding of_given
check-given true number f x = refl
check-given false number f x = refl

-- what is refused behind a valid sheet, where 12 comes before it
refused-behind : {A : Type 0} (s : Sheet) (right : Bool) (next : Said A) → ((rules_of s).seats ≤ 8 → right ≡ false)
    → check (valid_alone s) 12 (check right 9 next) ≡ misfit_said s
refused-behind s right next h = ⊎_elim (λ t. rw (T_true (valid_alone s) t, h (seats-le-8 s t))) (λ f. rw f) (decide (valid_alone s))

-- ---- working out

-- nothing is worked out of an event that is on no sheet
attempt-nowhere : (s : Sheet) (x : Record) (e : Event) → Nowhere e → attempt_of s x e ≡ misfit_said s
unfolding attempt_of
attempt-nowhere s x e n =
    let q = rules_of s in
    refused-behind s (on_sheet q e.stream && (sender_on q e.what && legal q e.stream x)) _ (λ few. rw (← and_assoc, n q few))

module _ (sheet seen event : List ℕ) where
  -- no record
  pub work-unseen : records_in 1 seen ≡ none → work_says sheet seen event ≡ misfit_said (sheet_in sheet)
  unfolding work_says standing
  work-unseen e = rw e (misfit-is (sheet_in sheet))

  -- a record and an event
  pub work-given : (rs : List Record) (e : Event) → records_in 1 seen ≡ some rs → event_in event ≡ some e
      → work_says sheet seen event ≡ of_given try_row (attempt_of (sheet_in sheet) (own rs 0) e)
  unfolding work_says standing attempt_of
  work-given rs e r g = rw (r, g) (check-given (valid_alone (sheet_in sheet)) 12 try_row _)

  -- a record and no event
  work-eventless : (rs : List Record) → records_in 1 seen ≡ some rs → event_in event ≡ none → work_says sheet seen event ≡ misfit_said (sheet_in sheet)
  unfolding work_says standing
  work-eventless rs r g = rw (r, g) (misfit-is (sheet_in sheet))

  -- numbers that stand for no event but one on no sheet
  pub work-nothing : ((e : Event) → event_in event ≡ some e → Nowhere e) → work_says sheet seen event ≡ misfit_said (sheet_in sheet)
  unfolding of_given
  work-nothing n =
      ⊎_elim (λ r. work-unseen r)
      (λ (t : (rs : List Record) × (records_in 1 seen ≡ some rs)).
      ⊎_elim (λ g. work-eventless t.0 t.1 g)
      (λ s. work-given t.0 s.0 t.1 s.1 ∙ ap (of_given try_row) (attempt-nowhere (sheet_in sheet) (own t.0 0) s.0 (n s.0 s.1)))
      (option_cases (event_in event)))
      (option_cases (records_in 1 seen))

-- ---- storing

-- a test among others that fails fails with more
fails_with : (a b c : Bool) → (a && c) ≡ false → (a && (b && c)) ≡ false
fails_with true true c e = e
fails_with true false c e = refl
fails_with false b c e = refl

-- nothing is stored of an attempt that is never legal
reply-never : (s : Sheet) (a : Try) (x : Record) → NeverLegal a → reply_of s a x ≡ misfit_said s
unfolding reply_of
reply-never s a x n =
    let q = rules_of s in
    let good = legal q a.stream in
    refused-behind s (on_sheet q a.stream && (good x && (good a.seen && good a.wanted))) _
    (λ few. fails_with (on_sheet q a.stream) (good x) (good a.seen && good a.wanted) (n q few))

module _ (sheet attempt records : List ℕ) where
  -- no records
  pub store-unread : is_some (records_in 8 records) ≡ false → store_says sheet attempt records ≡ misfit_said (sheet_in sheet)
  unfolding store_says standing
  store-unread e =
      let misfit = misfit-is (sheet_in sheet) in
      ⊎_elim (λ g. rw g misfit) (λ s. rw (s.1, is-none (records_in 8 records) e) misfit) (option_cases (try_in attempt))

  module _ (rs : List Record) (are : records_in 8 records ≡ some rs) where
    -- records and an attempt
    pub store_given : (a : Try) → try_in attempt ≡ some a → store_says sheet attempt records ≡ left_says (store_of (sheet_in sheet) a rs)
    unfolding store_says standing store_of reply_of
    store_given a g = rw (g, are) (check-given (valid_alone (sheet_in sheet)) 12 _ _)

    -- records, and numbers that stand for no attempt but one that is never legal
    pub store_nothing : ((a : Try) → try_in attempt ≡ some a → NeverLegal a)
        → store_says sheet attempt records ≡ misfit_said (sheet_in sheet)
    unfolding store_says standing store_of of_given
    store_nothing n =
        ⊎_elim (λ g. rw g (misfit-is (sheet_in sheet)))
        (λ (s : (a : Try) × (try_in attempt ≡ some a)).
        store_given s.0 s.1 ∙ rw (reply-never (sheet_in sheet) s.0 (own rs s.0.stream) (n s.0 s.1)))
        (option_cases (try_in attempt))

  -- or none
  pub store_never : ((a : Try) → try_in attempt ≡ some a → NeverLegal a) → store_says sheet attempt records ≡ misfit_said (sheet_in sheet)
  store_never n =
      ⊎_elim (λ g. store-unread (rw g)) (λ (s : (rs : List Record) × (records_in 8 records ≡ some rs)). store_nothing s.0 s.1 n)
      (option_cases (records_in 8 records))

-- ---- the answer in an attempt's row

-- it is what is behind the first five numbers
answered : (row : List ℕ) (a : Attempt) → try_in row ≡ some (attempt_said a) → drop 5 row ≡ answer_row a.answer
answered row a e = ap (drop 5) (sym ((attempts_stand row (attempt_said a)).0 e).1)

-- which are eleven with it
pub answered-length : (row : List ℕ) (a : Attempt) → try_in row ≡ some (attempt_said a) → length row ≡ 11
answered-length row a e = omega (arith, ap length (answered row a e), answer-length a.answer, length-drop 5 row)

pub answered-part : (row : List ℕ) (a : Attempt) → try_in row ≡ some (attempt_said a) → take 6 (drop 5 row) ≡ answer_row a.answer
answered-part row a e = take_all 6 (drop 5 row) (omega (arith, answered-length row a e, length-drop 5 row)) ∙ answered row a e

-- ---- a store that took

-- what is kept of it
abbrev kept_of : List Record → Attempt → Kept
kept_of rs a = record { records = records_row (set rs a.stream a.wanted); answer = answer_row a.answer }

-- its stream is one of eight, and the record wanted is held
pub record Taken (s : Sheet) (a : Attempt) (rs : List Record) : Type 0 where
  pub stream : a.stream < 8
  pub says : left_says (store_of s (attempt_said a) rs) ≡ gives (kept_of rs a)

pub taken : (s : Sheet) (a : Attempt) (rs : List Record) (r : Result Answer Refusal) (g : Answer)
    → settle≡ s a (own rs a.stream) r → r ≡ Ok g → Taken s a rs
unfolding store_of stored of_given
taken s a rs r g e t =
    let x = own rs a.stream in
    let said : reply_of s (attempt_said a) x ≡ gives (answer_said g) = sym e ∙ ap taking_said t in
    let same = (reply-gives s (attempt_said a) x (answer_said g) said).same in
    record { stream = reply-below s (attempt_said a) x (answer_said g) said; says = rw (said ∙ ap gives (sym same)) }

-- one that was refused
pub refused_says : (s : Sheet) (a : Attempt) (rs : List Record) (r : Result Answer Refusal) (x : Refusal)
    → settle≡ s a (own rs a.stream) r → r ≡ Err x → left_says (store_of s (attempt_said a) rs) ≡ refuses (refusal_number x) (refusal_line x)
unfolding store_of of_given
refused_says s a rs r x e t = rw (sym e ∙ ap taking_said t)

-- ---- what is kept

-- the octets of the eight records with another in a stream's place
pub kept-octets : (octets : List ℕ) (rs : List Record) (s : ℕ) (x : Record) → records_in 8 octets ≡ some rs → s < 8
    → put_at octets (2 * s) (record_row x) ≡ over (records_row (set rs s x)) octets
unfolding over
kept-octets octets rs s x e h =
    let eight = records-eight octets rs e in
    let row = row-set rs s x (omega (arith, eight.1)) in
    let now = set (set octets (2 * s) (phase_number x.phase)) (2 * s + 1) x.receivers in
    let long : length octets ≤ length now = simp length-set (omega arith) in
    place_set octets s x (omega arith) ∙ rw (row, eight.2, drop_of_length-le octets long, append-nil)

-- told by what was told of the answer alone: 0, and all is kept
pub keeps-gives : (kept : Kept) (records answer : List ℕ) (r : ℕ) (now told : List ℕ)
    → Rowed (gives kept.answer) answer r told → r ≡ 0 → now ≡ over kept.records records → Keeps (gives kept) records answer r now told
unfolding roomy code put
keeps-gives kept records answer r now told = by (leb (length kept.answer) (length answer))
  where
    by : (b : Bool)
        → (r ≡ code (check b 11 (gives kept.answer))) × (told ≡ put (λ (row : List ℕ). row) (check b 11 (gives kept.answer)) answer)
        → r ≡ 0
        → now ≡ over kept.records records
        → (r ≡ code (check b 11 (gives kept)))
        × (now ≡ put (λ (k : Kept). k.records) (check b 11 (gives kept)) records)
        × (told ≡ put (λ (k : Kept). k.answer) (check b 11 (gives kept)) answer)
    by true h z k = (h.0, k, h.1)
    by false h z k = absurd (omega (arith, h.0))

-- or 11, and nothing is
pub keeps-short : (kept : Kept) (records answer : List ℕ) (r : ℕ) (told : List ℕ)
    → Rowed (gives kept.answer) answer r told → (r ≡ 0 → ⊥) → Keeps (gives kept) records answer r records told
unfolding roomy code put
keeps-short kept records answer r told = by (leb (length kept.answer) (length answer))
  where
    by : (b : Bool)
        → (r ≡ code (check b 11 (gives kept.answer))) × (told ≡ put (λ (row : List ℕ). row) (check b 11 (gives kept.answer)) answer)
        → (r ≡ 0 → ⊥)
        → (r ≡ code (check b 11 (gives kept)))
        × (records ≡ put (λ (k : Kept). k.records) (check b 11 (gives kept)) records)
        × (told ≡ put (λ (k : Kept). k.answer) (check b 11 (gives kept)) answer)
    by true h z = absurd (z h.0)
    by false h z = (h.0, refl, h.1)
