-- The claims of specs/Claims.antt, each by its laws. Assumes nothing.
use mathlib.Core.Path.{◌≡◌, refl, sym, ap, ap₂, ◌∙◌, subst}
use mathlib.Core.Logic.{⊎_elim}
use mathlib.Core.List.{List, [], ◌++◌}
use Prim.Native.Nat.{ℕ, ◌<◌, zero-le}
use native.Mathlib.Nat.{le_refl, le_antisymm, zero-add}
use lib.ListN.{length, take, drop, take-append-drop}
use lib.Seq.{take-append_seam, take_all}
use lib.Dec.{T}
use Rattle.std.specs.Prelude.{Result, Ok, Err}
use Rattle.octets.proofs.Choice.{le-or-lt, T-and-right}
use Rattle.sheet.specs.declared.Sheet.{Sheet}
use Rattle.sheet.specs.declared.Refusal.{Refusal}
use Rattle.sheet.specs.Judge.{Entry, numbers_in, good, in_turn, whole, valid}
use Rattle.sheet.specs.Value.{sheet_of, users_of, entries_of, valid_with}
use Rattle.sheet.proofs.Laws.Fresh.{completed}
use Rattle.sheet.proofs.Laws.Laid.{valid-good, entries_of-laid, laid-valid, valid-entries, sheet_of-entries, users_of-entries}
use Rattle.sheet_text.specs.declared.Reading.{Reading}
use Rattle.sheet_text.specs.Text.{text_from, text_of}
use Rattle.sheet_text.specs.Reading.{Outcome, reads, refused, outcome, lines, bad_line, reading_of, users_from, read_of, users_in}
use Rattle.sheet_text.specs.Claims.{value_text, ReadsTo, ReadsExactly, ValidExactly, SomeBegins, NoneReads, NamedExactly}
use Rattle.sheet_text.proofs.Laws.Lines.{text_from-append}
use Rattle.sheet_text.proofs.Laws.Readings.{outcome-reads, reads-outcome}
use Rattle.sheet_text.proofs.Laws.Named.{none-begins, some_begins, lines-front}

-- ---- which texts read

-- two readings in one answer
inside : {a b : Reading} → ◌≡◌ {A = Result Reading Refusal} (Ok a) (Ok b) → a ≡ b
inside p = cc

-- what was read, by the outcome
module _ (s : Sheet) (users : List (List ℕ)) (n : ℕ) where
  read-to : (o : Outcome) → reading_of o ≡ Ok (record { sheet = s; used = n }) → users_from o ≡ users
      → (es : List Entry) × (o ≡ reads es) × (sheet_of es ≡ s) × (length (text_of es) ≡ n) × (users_of es ≡ users)
  unfolding reading_of users_from
  read-to (reads es) p q = let r = inside p in (es, refl, ap (λ (x : Reading). x.sheet) r, ap (λ (x : Reading). x.used) r, q)
  read-to (refused k) p q = cc

  reads-valid : (t : List ℕ) → ReadsTo t s users n → T (valid_with s users) × (n ≡ length (value_text s users)) × (take n t ≡ value_text s users)
  unfolding read_of users_in
  reads-valid t r =
      let w = read-to (outcome t) r.0 r.1 in
      let es = w.0 in
      let v = outcome-reads t es w.1 in
      let e : entries_of s users ≡ es = ap₂ entries_of (sym w.2) (sym w.4) ∙ entries_of-laid es v.0 in
      let l : n ≡ length (value_text s users) = sym w.3 ∙ ap (λ (x : List Entry). length (text_of x)) (sym e) in (
        subst (λ (u : List (List ℕ)). T (valid_with s u)) w.4 (subst (λ (x : Sheet). T (valid_with x (users_of es))) w.2 (laid-valid es v.0)),
        l,
        ap₂ take (sym w.3) v.1.1 ∙ take-append_seam (text_of es) v.1.0 ∙ ap text_of (sym e),
      )

  valid-reads : (t : List ℕ) → T (valid_with s users) × (n ≡ length (value_text s users)) × (take n t ≡ value_text s users) → ReadsTo t s users n
  unfolding read_of users_in reading_of users_from
  valid-reads t w =
      let es = entries_of s users in
      let x : t ≡ text_of es ++ drop n t = sym (take-append-drop n t) ∙ ap (λ (y : List ℕ). y ++ drop n t) w.2 in
      let o : outcome t ≡ reads es = ap outcome x ∙ reads-outcome es (drop n t) (valid-entries s users w.0) in
      let a = sheet_of-entries s users w.0 in (
        ap reading_of o ∙ (λ i. Ok (record { sheet = a i; used = sym w.1 i })),
        ap users_from o ∙ users_of-entries s users w.0,
      )

-- which texts read
pub reads_exactly : ReadsExactly
reads_exactly t s users n = (λ r. reads-valid s users n t r, λ w. valid-reads s users n t w)

-- which values some text reads to
pub valid_exactly : ValidExactly
valid_exactly s users = (
  λ v. (value_text s users, length (value_text s users), valid-reads s users (length (value_text s users)) (value_text s users) (v, refl, take_all (length (value_text s users)) (value_text s users) (le_refl (length (value_text s users))))),
  λ w. (reads-valid s users w.1 w.0 w.2).0,
)

-- ---- which line is named

refused-by : (o : Outcome) (k : ℕ) → reading_of o ≡ Err (bad_line k) → o ≡ refused k
unfolding reading_of
refused-by (reads es) k p = cc
refused-by (refused i) k p = cc

module _ (t : List ℕ) (k : ℕ) (p : outcome t ≡ refused k) where
  none_has : SomeBegins t k → ⊥
  unfolding outcome text_of valid
  none_has w =
      let es = entries_of w.0 w.1 in
      let v : T (valid es) = valid-entries w.0 w.1 w.2 in
      none-begins (length t) [] t k k es p (sym (zero-add k)) (valid-good es v)
      (T-and-right (in_turn good [] es) (whole (numbers_in es)) v) (le_refl (length t)) w.3

  some-has : (j : ℕ) → j < k → SomeBegins t j
  unfolding outcome text_of in_turn
  some-has j h =
      let r = some_begins (length t) [] t k j p (rw (zero-add j) h) tt zero-le in
      let c = completed r.more r.goods r.fits in
      let es = r.more ++ c.0 in
      let e : text_from 0 es ≡ text_from 0 r.more ++ text_from (length r.more) c.0 =
      text_from-append 0 r.more c.0 ∙ ap (λ (n : ℕ). text_from 0 r.more ++ text_from n c.0) (zero-add (length r.more)) in (
        sheet_of es,
        users_of es,
        laid-valid es c.1,
        ap (λ (x : List ℕ). lines j x) r.text
            ∙ ap (λ (n : ℕ). lines n (text_from 0 r.more ++ r.rest)) (sym r.count)
            ∙ lines-front r.more [] r.rest (text_from (length r.more) c.0) r.goods
            ∙ ap (λ (n : ℕ). lines n (text_from 0 r.more ++ text_from (length r.more) c.0)) r.count
            ∙ ap (λ (x : List ℕ). lines j x) (sym e ∙ ap (λ (x : List Entry). text_from 0 x) (sym (entries_of-laid es c.1))),
      )

-- a text that some sheet is the front of is not refused
refused_none : (t : List ℕ) (k : ℕ) → read_of t ≡ Err (bad_line k) → NoneReads t
refused_none t k p s users v e =
    let r = valid-reads s users (length (value_text s users)) t (v, refl, e) in
    cc (p, r.0)

-- the least such line is the one that is named
least-line : (t : List ℕ) (k : ℕ) → NoneReads t → (SomeBegins t k → ⊥) → ((j : ℕ) → j < k → SomeBegins t j)
    → (o : Outcome) → outcome t ≡ o → reading_of o ≡ Err (bad_line k)
unfolding reading_of
least-line t k none never before (reads es) p =
    let v = outcome-reads t es p in
    let e : entries_of (sheet_of es) (users_of es) ≡ es = entries_of-laid es v.0 in
    absurd (none (sheet_of es) (users_of es) (laid-valid es v.0) (rw e (ap (λ (x : List ℕ). take (length (text_of es)) x) v.1.1 ∙ take-append_seam (text_of es) v.1.0)))
least-line t k none never before (refused i) p =
    ap (λ (n : ℕ). Err (bad_line n))
    (⊎_elim
    (λ h. ⊎_elim (λ l. le_antisymm l h) (λ l. absurd (never (some-has t i p k l))) (le-or-lt i k))
    (λ h. absurd (none_has t i p (before i h)))
    (le-or-lt k i))

-- which line is named
pub named_exactly : NamedExactly
unfolding read_of
named_exactly t k = (
  λ p. let o = refused-by (outcome t) k p in (refused_none t k p, none_has t k o, some-has t k o),
  λ w. least-line t k w.0 w.1 w.2 (outcome t) refl,
)
