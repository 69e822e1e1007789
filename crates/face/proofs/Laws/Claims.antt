-- The claims of specs/Claims.antt, each by its laws. Assumes nothing.
use mathlib.Core.Path.{◌≡◌, refl, sym, ap, ap₂, ◌∙◌, subst}
use mathlib.Core.List.{List}
use mathlib.Core.Option.{Option, none, some}
use Prim.Native.Nat.{ℕ, ◌+◌, ◌*◌, ◌<◌}
use native.Mathlib.Omega.{arith}
use lib.ListN.{length, get_or, set, drop}
use lib.Dec.{T}
use Rattle.std.specs.Prelude.{Ok}
use Rattle.octets.specs.Choice.{same}
use Rattle.octets.proofs.Choice.{T_true, pick-cases, same_refl, same-eq}
use Rattle.sheet.specs.declared.Sheet.{Sheet}
use Rattle.sheet.specs.Table.{most_seats}
use Rattle.sheet.specs.Value.{sheet_of, sheet_in, numbers_of, valid_alone, valid_with}
use Rattle.sheet.proofs.Laws.Laid.{laid-valid}
use Rattle.sheet.proofs.Laws.Values.{sheet_in-own}
use Rattle.sheet_text.specs.declared.Reading.{Reading}
use Rattle.sheet_text.specs.Reading.{Outcome as SheetOutcome, reads as sheet_reads, refused as sheet_refused, outcome}
use Rattle.sheet_text.specs.Text.{text_of}
use Rattle.sheet_text.specs.Reading.{reading_of, users_from, read_of, users_in}
use Rattle.sheet_text.proofs.Laws.Readings.{outcome-reads}
use Rattle.kinds.specs.Reading.{Outcome, refused}
use Rattle.packet.specs.Row.{message_row, numbers_say, message_in}
use Rattle.streams.specs.declared.Record.{Record}
use Rattle.streams.specs.Record.{own}
use Rattle.reception.specs.Steps.{Said, gives, refuses, said_by, Try, reply_of, stored, store_of}
use Rattle.reception.proofs.Laws.Steps.{check-gives, gives_same, reply-gives, reply-below}
use Rattle.rows.specs.Rows.{sheet_row, records_row, records_in, reply_row, try_row, try_in}
use Rattle.rows.proofs.Laws.Records.{records-eight, row-set}
use Rattle.rows.proofs.Laws.Claims.{attempts_stand}
use Rattle.face.specs.Calls.{of_given, standing, sheet_says, Stored, left_says, store_says}
use Rattle.face.specs.Claims.{SheetsStand, MessagesStand, StoresInPlace}
use Rattle.face.proofs.Laws.Standing.{Own, message-own, refusal-none}
use Rattle.face.proofs.Laws.Sheets.{read_small}

-- ---- sheets

-- what is given was read, and is valid with its User IDs
read-valid : (text : List ℕ) (x : Reading) (o : SheetOutcome) → outcome text ≡ o → said_by (λ (r : Reading). r) (reading_of o) ≡ gives x
    → (Ok x ≡ reading_of o) × T (valid_with x.sheet (users_from o))
unfolding reading_of users_from
read-valid text x (sheet_reads es) e f =
    let is : x ≡ record { sheet = sheet_of es; used = length (text_of es) } = cc in
    rw is (refl, laid-valid es (outcome-reads text es e).0)
read-valid text x (sheet_refused k) e f = cc

pub sheets_stand : SheetsStand
unfolding sheet_says read_of users_in numbers_of most_seats
sheets_stand text x e =
    let valid = read-valid text x (outcome text) refl e in
    let eight : length x.sheet.ssrcs ≡ 8 = omega (arith, (read_small text x valid.0).row) in (
      sheet_in-own x.sheet (sheet_row x) eight refl,
      T_true _ valid.1,
    )

-- ---- messages

-- a message whose numbers make it stands at its own row
message-in : (o : Outcome) → Own o → message_in (message_row o) ≡ o
unfolding message_in
message-in o e = rw (e, T_true (same (message_row o) (message_row o)) (same_refl (message_row o)))

pub messages_stand : MessagesStand
unfolding message_in
messages_stand s names p o e row = (
  pick-cases (λ x. x ≡ o → message_row o ≡ row) (same (message_row (numbers_say row)) row) (numbers_say row) (refused 5 0)
      (λ t q. ap message_row (sym q) ∙ same-eq (message_row (numbers_say row)) row t)
      (λ f q. absurd (refusal-none s names p 5 0 (rw q e))),
  λ q. subst (λ (r : List ℕ). message_in r ≡ o) q (message-in o (message-own s names p o e)),
)

-- ---- stores

-- what was given with the value that a row stands for
standing-gives : {A B : Type 0} (number : ℕ) (o : Option A) (next : A → Said B) (y : B) → standing number o next ≡ gives y
    → (x : A) × (o ≡ some x) × (next x ≡ gives y)
unfolding standing
standing-gives number none next y e = let z : ◌≡◌ {A = ℕ} 0 1 = cc in absurd (omega arith)
standing-gives number (some x) next y e = (x, refl, e)

-- what was given, before something else was made of it
given-of : {A B : Type 0} (f : A → B) (said : Said A) (y : B) → of_given f said ≡ gives y → (x : A) × (said ≡ gives x) × (f x ≡ y)
unfolding of_given
given-of f (gives x) y e = (x, refl, gives_same e)
given-of f (refuses number line) y e = let z : ◌≡◌ {A = ℕ} 0 1 = cc in absurd (omega arith)

-- what is left of a store that took
store_left : (q : Sheet) (a : Try) (rs : List Record) (s : Stored) → left_says (store_of q a rs) ≡ gives s
    → (a.stream < 8) × (s.answer ≡ reply_row a.reply) × (s.records ≡ records_row (set rs a.stream a.wanted))
unfolding store_of stored
store_left q a rs s e =
    let x = own rs a.stream in
    let g = given-of _ (reply_of q a x) s e in
    let right = reply-gives q a x g.0 g.1 in (
      reply-below q a x g.0 g.1,
      ap (λ (k : Stored). k.answer) (sym g.2) ∙ ap reply_row (sym right.same),
      ap (λ (k : Stored). k.records) (sym g.2) ∙ rw g.1,
    )

pub stores_in_place : StoresInPlace
unfolding store_says
stores_in_place sheet attempt records s e =
    let q = sheet_in sheet in
    let sheeted = check-gives (valid_alone q) 12 _ s e in
    let try = standing-gives 9 (try_in attempt) _ s sheeted.1 in
    let read = standing-gives 9 (records_in 8 records) _ s try.2 in
    let a = try.0 in
    let rs = read.0 in
    let left = store_left q a rs s read.2 in
    let row : try_row a ≡ attempt = ((attempts_stand attempt a).0 try.1).1 in
    let eight = records-eight records rs read.1 in (
      left.1 ∙ ap (drop 5) row,
      left.2
          ∙ row-set rs a.stream a.wanted (omega arith)
          ∙ ap₂ (λ (os ns : List ℕ). set (set os (2 * get_or ns 0 0) (get_or ns 3 0)) (2 * get_or ns 0 0 + 1) (get_or ns 4 0)) eight.2 row,
    )
