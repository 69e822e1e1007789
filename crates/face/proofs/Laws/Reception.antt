-- What reception says: its refusals go into a code, and what it says of the eight records that octets are. Assumes nothing.
use mathlib.Core.Path.{◌≡◌, refl, sym, ap, ◌∙◌}
use mathlib.Core.Logic.{⊎_elim}
use mathlib.Core.Bool.{Bool, true, false, ◌&&◌}
use mathlib.Core.List.{List}
use mathlib.Core.Option.{some}
use Prim.Native.Nat.{ℕ, ◌≤◌}
use native.Mathlib.Omega.{arith}
use lib.Dec.{ltb}
use borrow.Author.Tests.{ltb-false, le-ltb}
use Rattle.std.specs.Prelude.{Result, Ok, Err}
use Rattle.octets.specs.Choice.{pick}
use Rattle.octets.proofs.Choice.{decide, and-true_left}
use Rattle.sheet.specs.declared.Sheet.{Sheet}
use Rattle.sheet.specs.declared.Refusal.{Refusal}
use Rattle.sheet.specs.Refusal.{refusal_number, refusal_line}
use Rattle.sheet.specs.Value.{sheet_in, valid_alone}
use Rattle.streams.specs.declared.Record.{Record}
use Rattle.streams.specs.declared.Event.{Event}
use Rattle.streams.specs.Record.{rules_of, on_sheet, legal, same_record, own}
use Rattle.streams.specs.Table.{sender_on}
use Rattle.reception.specs.Steps.{Said, gives, refuses, check, Try, seen_of, read_of, attempt_of, reply_of, store_of, counted, count_of}
use Rattle.reception.proofs.Laws.Steps.{seats-le-8}
use Rattle.rows.specs.Rows.{is_some, records_in, event_in, try_row, try_in}
use Rattle.rows.specs.Lent.{Returned}
use Rattle.rows.specs.Promises.{Put, record_at≡}
use Rattle.face.specs.Calls.{of_given, standing, under, work_says, store_says}
use Rattle.face.specs.Inner.{misfit_of}
use Rattle.face.proofs.Laws.Told.{put-refused, put-given, check-twice, misfit-is, Plain, plain-check, plain-given, plain-standing}
use Rattle.rows.proofs.Laws.Records.{is-some, option_cases, own-known}

-- ---- refusals

plain-checks : {A : Type 0} (valid good : Bool) (x : Said A) → Plain x → Plain (check valid 12 (check good 9 x))
plain-checks valid good x t = plain-check valid 12 (check good 9 x) (omega arith) (plain-check good 9 x (omega arith) t)

pub plain-seen : (s : Sheet) (stream : ℕ) (x : Record) → Plain (seen_of s stream x)
unfolding seen_of
plain-seen s stream x =
    let q = rules_of s in
    plain-checks (valid_alone s) (on_sheet q stream && legal q stream x) (gives x) tt

plain-counted : (x : Said Record) → Plain x → Plain (counted x)
unfolding counted
plain-counted (gives x) t = tt
plain-counted (refuses number line) t = t

pub plain-count : (s : Sheet) (stream : ℕ) (x : Record) → Plain (counted (seen_of s stream x))
plain-count s stream x = plain-counted (seen_of s stream x) (plain-seen s stream x)

pub plain-attempt : (s : Sheet) (x : Record) (e : Event) → Plain (attempt_of s x e)
unfolding attempt_of
plain-attempt s x e =
    let q = rules_of s in
    plain-checks (valid_alone s) (on_sheet q e.stream && (sender_on q e.what && legal q e.stream x)) (gives _) tt

pub plain-reply : (s : Sheet) (a : Try) (x : Record) → Plain (reply_of s a x)
unfolding reply_of
plain-reply s a x =
    let good = legal (rules_of s) a.stream in
    let same = same_record x a.seen in
    plain-checks (valid_alone s) (on_sheet (rules_of s) a.stream && (good x && (good a.seen && good a.wanted)))
    (check same 10 (gives a.reply))
    (plain-check same 10 (gives a.reply) (omega arith) tt)

-- ---- the record of a stream

-- the one that was made of octets that are eight records is its own of the eight
pub eight-own : (octets : List ℕ) (stream : ℕ) (x : Record) → (is_some (records_in 8 octets) && ltb stream 256) ≡ true → record_at≡ octets stream x
    → (rs : List Record) × (records_in 8 octets ≡ some rs) × (x ≡ own rs stream)
eight-own octets stream x right e =
    let are = is-some (records_in 8 octets) (and-true_left (is_some (records_in 8 octets)) _ right) in
    (are.0, are.1, e ∙ own-known 8 octets are.0 stream are.1)

-- ---- what is said of a stream of eight records, as a row: `mcv_seen` and `mcv_count` differ in what that is

-- the sheet is checked first, and a stream that fits no octet is on none
pub record Judged {A : Type 0} (s : Sheet) (stream : ℕ) (said : List Record → Said A) : Type 0 where
  pub first : (rs : List Record) → check (valid_alone s) 12 (said rs) ≡ said rs
  pub off : 256 ≤ stream → (rs : List Record) → said rs ≡ check (valid_alone s) 12 (refuses 9 0)

-- so it is in a read, and in a count
seen-off : (s : Sheet) (stream : ℕ) (x : Record) → 256 ≤ stream → seen_of s stream x ≡ check (valid_alone s) 12 (refuses 9 0)
unfolding seen_of
seen-off s stream x h =
    ⊎_elim (λ v. rw (le-ltb stream s.seats (omega (arith, seats-le-8 s v)))) (λ f. rw f) (decide (valid_alone s))

pub read-judged : (s : Sheet) (stream : ℕ) → Judged s stream (λ rs. (read_of s stream rs).said)
unfolding read_of
read-judged s stream =
    record {
      first = λ rs. unfold seen_of in check-twice (valid_alone s) 12 _;
      off = λ h rs. seen-off s stream (own rs stream) h;
    }

counted-check : (b : Bool) (x : Said Record) → counted (check b 12 x) ≡ check b 12 (counted x)
unfolding counted
counted-check true x = refl
counted-check false x = refl

pub count-judged : (s : Sheet) (stream : ℕ) → Judged s stream (λ rs. (count_of s stream rs).said)
unfolding count_of
count-judged s stream =
    let read = read-judged s stream in
    record {
      first = λ rs. sym (counted-check (valid_alone s) (seen_of s stream (own rs stream))) ∙ ap counted (unfold read_of in read.first rs);
      off = λ h rs. ap counted (seen-off s stream (own rs stream) h) ∙ (unfold counted in counted-check (valid_alone s) (refuses 9 0));
    }

-- a check before what is given as a row
given-check : {A B : Type 0} (f : A → B) (b : Bool) (x : Said A) → of_given f (check b 12 x) ≡ check b 12 (of_given f x)
unfolding of_given
given-check f true x = refl
given-check f false x = refl

abbrev pub of_eight : {A : Type 0} → (A → List ℕ) → List ℕ → List ℕ → (List Record → Said A) → Said (List ℕ)
of_eight row sheet records said = under sheet (standing 9 (records_in 8 records) (λ rs. of_given row (said rs)))

module _ {A : Type 0} (row : A → List ℕ) (sheet records : List ℕ) {stream : ℕ} {said : List Record → Said A}
    (judged : Judged (sheet_in sheet) stream said) where
  -- octets that are no records, and a stream that fits no octet
  off-said : (is_some (records_in 8 records) && ltb stream 256) ≡ false
      → of_eight row sheet records said ≡ check (valid_alone (sheet_in sheet)) 12 (refuses 9 0)
  unfolding standing of_given
  off-said e =
      let valid = valid_alone (sheet_in sheet) in
      ⊎_elim (λ h. rw h)
      (λ s.
      let past = ltb-false stream 256 (rw s.1 at e) in
      rw (s.1, judged.off past s.0, given-check row valid (refuses 9 0)) (check-twice valid 12 (refuses 9 0)))
      (option_cases (records_in 8 records))

  -- .. are told by 9, or by 12 before it
  pub eight-misfit : (is_some (records_in 8 records) && ltb stream 256) ≡ false
      → (out : List ℕ) (r : Returned) → r ≡ Err (misfit_of (sheet_in sheet)) → Put (of_eight row sheet records said) out r out
  eight-misfit e out r f = put-refused _ out r (misfit_of (sheet_in sheet)) f (off-said e ∙ misfit-is (sheet_in sheet))

  module _ (rs : List Record) (are : records_in 8 records ≡ some rs) where
    -- octets that are records: what is said of them ..
    eight-said : of_eight row sheet records said ≡ of_given row (said rs)
    unfolding standing
    eight-said = rw (are, ← given-check row (valid_alone (sheet_in sheet)) (said rs), judged.first rs)

    -- .. is given
    pub eight-gives : (x : A) → gives x ≡ said rs → (out : List ℕ) (r : Returned) (now : List ℕ)
        → Put (gives (row x)) out r now → Put (of_eight row sheet records said) out r now
    unfolding of_given
    eight-gives x e out r now h = put-given _ (row x) out r now (eight-said ∙ rw (← e)) h

    -- .. or refused
    pub eight-refuses : (x : Refusal) → refuses (refusal_number x) (refusal_line x) ≡ said rs → (out : List ℕ) (r : Returned) → r ≡ Err x
        → Put (of_eight row sheet records said) out r out
    unfolding of_given
    eight-refuses x e out r f = put-refused _ out r x f (eight-said ∙ rw (← e))

-- ---- a stream's number as an octet

-- where there is none
pub stream-off : (b : Bool) (s : ℕ) (m x : Refusal) → ◌≡◌ {A = Result ℕ Refusal} (Err x) (pick b (Ok s) (Err m)) → (b ≡ false) × (x ≡ m)
stream-off true s m x e = cc
stream-off false s m x e = (refl, cc)

-- and where there is one
pub stream-on : (b : Bool) (s k : ℕ) (m : Refusal) → ◌≡◌ {A = Result ℕ Refusal} (Ok k) (pick b (Ok s) (Err m)) → (b ≡ true) × (k ≡ s)
stream-on true s k m e = (refl, cc)
stream-on false s k m e = cc

-- ---- what is told of it all

pub plain-eight : {A : Type 0} (row : A → List ℕ) (sheet records : List ℕ) (said : List Record → Said A)
    → ((rs : List Record) → Plain (said rs)) → Plain (of_eight row sheet records said)
plain-eight row sheet records said t =
    plain-check (valid_alone (sheet_in sheet)) 12 _ (omega arith)
    (plain-standing 9 (records_in 8 records) _ (omega arith) (λ rs. plain-given row (said rs) (t rs)))

pub plain-work : (sheet seen event : List ℕ) → Plain (work_says sheet seen event)
unfolding work_says
plain-work sheet seen event =
    plain-check (valid_alone (sheet_in sheet)) 12 _ (omega arith)
    (plain-standing 9 (records_in 1 seen) _ (omega arith) (λ rs.
    plain-standing 9 (event_in event) _ (omega arith) (λ e. plain-given try_row _ (plain-attempt (sheet_in sheet) (own rs 0) e))))

pub plain-store : (sheet attempt records : List ℕ) → Plain (store_says sheet attempt records)
unfolding store_says store_of
plain-store sheet attempt records =
    plain-check (valid_alone (sheet_in sheet)) 12 _ (omega arith)
    (plain-standing 9 (try_in attempt) _ (omega arith) (λ a.
    plain-standing 9 (records_in 8 records) _ (omega arith) (λ rs. plain-given _ _ (plain-reply (sheet_in sheet) a (own rs a.stream)))))
