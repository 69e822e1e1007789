-- A sheet that is read into slices that a host lends: how many octets and lines it has at most, and what the call then leaves. Assumes nothing.
use mathlib.Core.Path.{◌≡◌, refl, sym, ap, subst, ◌∙◌}
use mathlib.Core.Bool.{Bool, true, false, ◌&&◌}
use mathlib.Core.List.{List, [], ◌∷◌, ◌++◌}
use Prim.Native.Nat.{ℕ, zero, suc, ◌+◌, ◌≤◌, zero-le}
use native.Mathlib.Bridge.{le_by_compare, IsLe}
use native.Mathlib.Omega.{arith}
use lib.ListN.{length, take, drop, length-append, length-take, length-drop}
use lib.Dec.{T, leb}
use borrow.Author.Tests.{le-leb}
use Rattle.std.specs.Prelude.{Ok, Err}
use Rattle.octets.specs.Choice.{pick}
use Rattle.octets.specs.Buffer.{over, padded}
use Rattle.octets.specs.Text.{decimal, decimal_by}
use Rattle.octets.proofs.Choice.{pick-cases}
use Rattle.octets.proofs.Buffer.{length-padded}
use Rattle.sheet.specs.declared.Refusal.{Refusal}
use Rattle.sheet.specs.Table.{table, seat_row, number_lines, most_seats}
use Rattle.sheet.specs.Judge.{Entry, numbers_in, good, in_turn, whole}
use Rattle.sheet.specs.Value.{sheet_by, sheet_from, sheet_of, numbers_of}
use Rattle.sheet.proofs.Laws.Entries.{in_turn-snoc, length-numbers_in, numbers_in-append, Open, open_more, good-numbers}
use Rattle.sheet.proofs.Laws.Fresh.{seats_bound}
use Rattle.sheet.proofs.Laws.Laid.{valid-good, valid-length}
use Rattle.sheet_text.specs.declared.Reading.{Reading}
use Rattle.sheet_line.specs.Line.{tail_of}
use Rattle.sheet_text.specs.Text.{widest, longest, text_of}
use Rattle.sheet_text.specs.Reading.{Outcome, reads, refused, good_line, behind, read_by, outcome, reading_of, read_of, users_over}
use Rattle.sheet_text.proofs.Laws.Readings.{entry_at, good_line-good, outcome-reads}
use Rattle.sheet_text.proofs.Laws.Scanned.{users-read}
use Rattle.sheet_text.proofs.Laws.Decides.{longest_decides}
use Rattle.reception.specs.Steps.{Said, gives, check, said_by}
use Rattle.rows.specs.Lent.{code, Returned, told, put, roomy}
use Rattle.face.specs.Calls.{sheet_says}
use Rattle.rows.specs.Rows.{sheet_row}
use Rattle.rows.specs.Promises.{Rowed}
use Rattle.face.specs.Promises.{users_after, mcv_sheet≡}
use Rattle.face.proofs.Laws.Told.{Plain}

-- ---- how much is read

-- no more lines than a sheet can have
few-lines : (b : List Entry) → T (in_turn good [] b) → Open (numbers_in b) → length b ≤ 19
unfolding number_lines most_seats table
few-lines b t o = omega (arith, o, seats_bound (numbers_in b) (good-numbers [] b t), length-numbers_in b)

-- the line that is named
abbrev named : Outcome → ℕ
named (reads es) = 0
named (refused k) = k

-- so that none is named but one of them or the next
line-most : (f : ℕ) (b : List Entry) (s : List ℕ) → T (in_turn good [] b) → Open (numbers_in b) → named (read_by f b s) ≤ 20
unfolding read_by
line-most zero b s t o =
    pick-cases (λ (x : Outcome). named x ≤ 20) (whole (numbers_in b)) (reads b) (refused (length b + 1))
    (λ _. omega arith)
    (λ _. omega (arith, few-lines b t o))
line-most (suc f) b s t o =
    let e = entry_at b s in
    let more = read_by f (b ++ (e ∷ [])) (behind b s) in
    let P : Outcome → Type 0 = λ x. named x ≤ 20 in
    pick-cases P (whole (numbers_in b)) (reads b) (pick (good_line b s) more (refused (length b + 1)))
    (λ _. omega arith)
    (λ w. pick-cases P (good_line b s) more (refused (length b + 1))
    (λ g. line-most f (b ++ (e ∷ [])) (behind b s) (in_turn-snoc good b e t (good_line-good b s g))
    (subst Open (sym (numbers_in-append b (e ∷ []))) (open_more (numbers_in b) e.number o w)))
    (λ _. omega (arith, few-lines b t o)))

-- it goes into a code
pub plain-sheet : (text : List ℕ) → Plain (sheet_says text)
unfolding sheet_says read_of reading_of outcome in_turn
plain-sheet text = by (outcome text) (line-most (length text) [] text tt zero-le)
  where
    by : (o : Outcome) → named o ≤ 20 → Plain (said_by (λ (x : Reading). x) (reading_of o))
    by (reads es) h = tt
    by (refused k) h = (omega arith, omega arith)

-- the longest sheet has 748 octets
longest-most : longest ≤ 748
unfolding longest widest table seat_row most_seats tail_of decimal decimal_by IsLe
longest-most = le_by_compare longest 748 tt

-- what reads has no more octets than the text
used-inside : (t : List ℕ) (es : List Entry) → outcome t ≡ reads es → length (text_of es) ≤ length t
used-inside t es e =
    let r = (outcome-reads t es e).1 in
    omega (arith, ap length r.1, length-append (text_of es) r.0)

-- and eight SSRCs
eight : (t : List ℕ) (es : List Entry) → outcome t ≡ reads es → length (sheet_of es).ssrcs ≡ 8
unfolding sheet_of sheet_from sheet_by number_lines most_seats table padded
eight t es e =
    let v = (outcome-reads t es e).0 in
    length-padded 8 0 (drop 11 (numbers_in es))
    (rw length-drop (omega (arith, valid-length es v, seats_bound (numbers_in es) (good-numbers [] es (valid-good es v)))))

-- what a reading holds goes into the numbers that a host is given
pub record Small (x : Reading) : Type 0 where
  pub used : x.used ≤ 748
  pub row : length (sheet_row x) ≡ 19

small-in : (t : List ℕ) (x : Reading) (o : Outcome) → outcome t ≡ o → Ok x ≡ reading_of o → (x.used ≤ length t) × (length x.sheet.ssrcs ≡ 8)
unfolding reading_of
small-in t x (reads es) e f =
    let is : x ≡ record { sheet = sheet_of es; used = length (text_of es) } = cc in
    rw is (used-inside t es e, eight t es e)
small-in t x (refused k) e f = cc

pub read_small : (t : List ℕ) (x : Reading) → Ok x ≡ read_of t → Small x
unfolding read_of numbers_of
read_small t x e =
    let short = small-in (take 748 t) x (outcome (take 748 t)) refl (e ∙ sym (longest_decides t 748 longest-most).0) in
    record { used = omega (arith, short.0, length-take 748 t); row = simp length-append (omega (arith, short.1)) }

-- ---- what is put

-- a row that fits
pub rowed-fits : (row out : List ℕ) (r : ℕ) (now : List ℕ) → length row ≤ length out → Rowed (gives row) out r now → (r ≡ 0) × (now ≡ over row out)
unfolding roomy code put
rowed-fits row out r now h e = rw (le-leb (length row) (length out) h) at e

-- ---- what the call leaves

-- a second slice that is too short is enough
and-false : (b : Bool) → (b && false) ≡ false
and-false true = refl
and-false false = refl

-- where the first one is enough or not
abbrev fits : Reading → Bool → Said Reading
fits x b = check (b && true) 11 (gives x)

module _ (text sheet : List ℕ) (users : List (List ℕ)) (used : List ℕ) where
  -- the text is refused
  pub sheet-refused : (x : Refusal) (r : Returned) → Err x ≡ read_of text → r ≡ Err x → mcv_sheet≡ text sheet users used (told r) sheet users used
  unfolding sheet_says roomy code put users_after
  sheet-refused x r e f = rw (← e, f) (refl, refl, refl, refl)

  module _ (x : Reading) (e : Ok x ≡ read_of text) where
    -- there is no room for the count
    pub sheet-uncounted : length used ≡ 0 → mcv_sheet≡ text sheet users used 11 sheet users used
    unfolding sheet_says roomy code put users_after
    sheet-uncounted l = rw (← e, l, and-false (leb (length (sheet_row x)) (length sheet))) (refl, refl, refl, refl)

    module _ (l : 1 ≤ length used) where
      -- or none for the numbers
      pub sheet-short : (r : ℕ) (now : List ℕ) → Rowed (gives (sheet_row x)) sheet r now → (r ≡ 0 → ⊥) → mcv_sheet≡ text sheet users used r now users used
      unfolding sheet_says roomy code put users_after
      sheet-short r now h z = rw (← e, le-leb 1 (length used) l) (by (leb (length (sheet_row x)) (length sheet)) h)
        where
          by : (b : Bool)
              → (r ≡ code (check b 11 (gives (sheet_row x)))) × (now ≡ put (λ (row : List ℕ). row) (check b 11 (gives (sheet_row x))) sheet)
              → (r ≡ code (fits x b)) × (now ≡ put sheet_row (fits x b) sheet) × (users ≡ users_after text (fits x b) users)
              × (used ≡ put (λ (x : Reading). x.used ∷ []) (fits x b) used)
          by true h = absurd (z h.0)
          by false h = (h.0, h.1, refl, refl)

      -- there is for both
      pub sheet-read : (now count : List ℕ) (found rows : List (List ℕ)) (r : ℕ) → Rowed (gives (sheet_row x)) sheet 0 now
          → rows ≡ users_over text found → Rowed (gives (x.used ∷ [])) used r count → mcv_sheet≡ text sheet users used r now rows count
      unfolding sheet_says roomy code put users_after
      sheet-read now count found rows r h g k = rw (← e, le-leb 1 (length used) l) (by (leb (length (sheet_row x)) (length sheet)) h)
        where
          by : (b : Bool)
              → (0 ≡ code (check b 11 (gives (sheet_row x)))) × (now ≡ put (λ (row : List ℕ). row) (check b 11 (gives (sheet_row x))) sheet)
              → (r ≡ code (fits x b)) × (now ≡ put sheet_row (fits x b) sheet) × (rows ≡ users_after text (fits x b) users)
              × (count ≡ put (λ (x : Reading). x.used ∷ []) (fits x b) used)
          by true h = let c = rowed-fits (x.used ∷ []) used r count l k in (c.0, h.1, g ∙ users-read text found x e, c.1)
          by false h = absurd (omega (arith, h.0))
