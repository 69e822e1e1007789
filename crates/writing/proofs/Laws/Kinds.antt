-- Laws of a sheet's kinds: what each kind of a valid sheet is like, and that a packet with a kind's letters and number is of that kind.
-- Assumes nothing.
use mathlib.Core.Path.{◌≡◌, refl, sym, ap, ◌∙◌}
use mathlib.Core.Bool.{Bool, true, false, not, ◌&&◌, ◌||◌}
use mathlib.Core.List.{List, [], ◌∷◌}
use mathlib.Core.Option.{some}
use Prim.Native.Nat.{ℕ, suc, ◌+◌, ◌<◌, ◌≤◌, suc-le-suc}
use native.Mathlib.Omega.{arith}
use lib.ListN.{length, get_or}
use lib.Dec.{T, ltb, eqb, eqb→eq, eqb_refl, lit<}
use borrow.Author.Tests.{lt-ltb, ne_eqb}
use Rattle.octets.specs.Choice.{All, same, every}
use Rattle.octets.proofs.Choice.{T_and, T-and-left, T-and-right, same_refl, same-eq}
use Rattle.octets.proofs.First.{first-all, first-other}
use Rattle.sheet.specs.declared.Sheet.{Sheet}
use Rattle.sheet.specs.Table.{table, number_lines, row_at}
use Rattle.sheet.specs.Value as value
use Rattle.sheet.specs.Value.{valid_alone}
use Rattle.sheet.proofs.Laws.Bounds.{valid-within, valid-apart}
use Rattle.fields.specs.Header.{letters_in, number_in}
use Rattle.kinds.specs.declared.Numbers.{Numbers}
use Rattle.kinds.specs.Kind.{Row, Kind, kinds, has_kind, kind_of, numbers_of}
use Rattle.packet.proofs.Laws.Allowed.{uses}
use Rattle.plan.specs.Packet.{kind_with}
use Rattle.plan.proofs.Laws.Fitting.{small, valid-fits}
use Rattle.writing.specs.Claims.{are_octets}

-- ---- the kind with a number

-- it has the number, and of it holds what holds of each
pub kind_with-all : (kind : ℕ) (k : Kind) (P : Kind → Type 0) (ks : List Kind) → All P ks → kind_with kind ks ≡ some k → P k × T (eqb k.kind kind)
unfolding kind_with
kind_with-all kind k P ks h e = first-all (λ (c : Kind). eqb c.kind kind) k P ks h e

-- ---- what each is like

-- the first row has the ID
abbrev pub leads : ℕ → List Row → Bool
leads id [] = false
leads id (r ∷ rows) = eqb r.id id

-- rows with the ID come first or not at all
abbrev pub ahead : ℕ → List Row → Bool
ahead id rows = leads id rows || not (uses id rows)

-- rows with one ID stand together
abbrev pub gathered : List Row → Bool
gathered [] = true
gathered (r ∷ rows) = ahead r.id rows && gathered rows

-- what a kind is like
pub record KindRight (k : Kind) : Type 0 where
  pub number : k.number < 16
  pub letters : length k.letters ≡ 4
  pub octets : T (are_octets k.letters)
  pub few : length k.rows ≤ 3
  pub ids : T (every (λ (r : Row). ltb r.id 192) k.rows)
  pub together : T (gathered k.rows)

-- each of a valid sheet's kinds is; only the second's rows depend on the sheet
kinds-right : (s : Sheet) → T (valid_alone s) → All KindRight (kinds (numbers_of s))
unfolding kinds numbers_of are_octets table number_lines row_at value.numbers_of
kinds-right s v =
    let n = small s (valid-fits s v) in
    let id = s.resultid in
    let above : 15 ≤ id = (valid-within s v 9 (lit< tt)).0 in (
      omega arith,
      (
        record {
          number = n.response;
          letters = refl;
          octets = tt;
          few = omega arith;
          ids = rw (lt-ltb id 192 n.resultid) tt;
          together = rw (ne_eqb 2 id (λ q. omega arith), ne_eqb 13 id (λ q. omega arith)) tt;
        },
        omega arith,
      ),
    )

-- so is the one with a number
pub kind-right : (s : Sheet) → T (valid_alone s) → (kind : ℕ) (k : Kind) → kind_with kind (kinds (numbers_of s)) ≡ some k → KindRight k
kind-right s v kind k e = (kind_with-all kind k KindRight (kinds (numbers_of s)) (kinds-right s v) e).0

-- a kind is the one with its number
abbrev Own : Numbers → Kind → Type 0
Own n k = kind_with k.kind (kinds n) ≡ some k

-- each of the table is
kinds-own : (n : Numbers) → All (Own n) (kinds n)
unfolding kinds kind_with
kinds-own n = (refl, (refl, (refl, (refl, (refl, (refl, (refl, tt)))))))

-- so is a packet's, which has the packet's letters and number
pub kind-with : (n : Numbers) (p : List ℕ) (k : Kind) → kind_of n p ≡ some k
    → (kind_with k.kind (kinds n) ≡ some k) × (letters_in p ≡ k.letters) × (number_in p ≡ k.number)
unfolding kind_of has_kind
kind-with n p k e =
    let ks = kinds n in
    let a = same (letters_in p) k.letters in
    let b = eqb (number_in p) k.number in
    let r = first-all (has_kind p) k (Own n) ks (kinds-own n) e in
    (r.0, same-eq (letters_in p) k.letters (T-and-left a b r.1), eqb→eq (number_in p) k.number (T-and-right a b r.1))

-- the kind with a number has it
pub kind_with-kind : (n : Numbers) (kind : ℕ) (k : Kind) → kind_with kind (kinds n) ≡ some k → k.kind ≡ kind
kind_with-kind n kind k e = eqb→eq k.kind kind (kind_with-all kind k (Own n) (kinds n) (kinds-own n) e).1

-- ---- the kinds of a sheet differ

-- a kind's line in the sheet: it has the kind's number, and its family, 2 to 4, goes with the last of the letters, "0" to "2"
record Lined (s : Sheet) (k : Kind) : Type 0 where
  inside : suc k.kind < number_lines
  number : k.number ≡ get_or (value.numbers_of s) (suc k.kind) 0
  family : get_or k.letters 3 0 ≡ 46 + (row_at (suc k.kind)).family

-- each kind has one
kinds-lined : (s : Sheet) → All (Lined s) (kinds (numbers_of s))
unfolding kinds numbers_of value.numbers_of number_lines row_at table
kinds-lined s = omega arith

-- two kinds with the same letters have two numbers: "the five of MCV2 all different"
lined-apart : (s : Sheet) → T (valid_alone s) → (c k : Kind) → Lined s c → Lined s k → c.letters ≡ k.letters → c.number ≡ k.number
    → c.kind < k.kind → ⊥
lined-apart s v c k a b l m h =
    valid-apart s v (suc c.kind) (suc k.kind) (suc-le-suc h) b.inside
    (omega (arith, ap (λ (x : List ℕ). get_or x 3 0) l))
    (sym a.number ∙ (m ∙ b.number))

-- so a packet with a kind's letters and number is of it
pub kind-found : (s : Sheet) → T (valid_alone s) → (kind : ℕ) (k : Kind) → kind_with kind (kinds (numbers_of s)) ≡ some k
    → (p : List ℕ) → letters_in p ≡ k.letters → number_in p ≡ k.number → kind_of (numbers_of s) p ≡ some k
unfolding kind_of has_kind kind_with
kind-found s v kind k e p l m =
    let n = numbers_of s in
    let ks = kinds n in
    let t : T (has_kind p k) =
    rw (l, m) (T_and (same k.letters k.letters) (eqb k.number k.number) (same_refl k.letters) (eqb_refl k.number)) in
    let w = first-other (λ (c : Kind). eqb c.kind kind) k (has_kind p) ks e t in
    let c = w.0 in
    let f : kind_of n p ≡ some c = w.1 in
    let r = kind-with n p c f in
    let a = (kind_with-all c.kind c (Lined s) ks (kinds-lined s) r.0).0 in
    let b = (kind_with-all kind k (Lined s) ks (kinds-lined s) e).0 in
    let x = lined-apart s v c k a b (sym r.1 ∙ l) (sym r.2 ∙ m) in
    let y = lined-apart s v k c b a (sym l ∙ r.1) (sym m ∙ r.2) in
    let z : c.kind ≡ kind = omega (arith, kind_with-kind n kind k e) in
    f ∙ (sym r.0 ∙ rw z e)
