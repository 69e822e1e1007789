-- Which rows are some message's, and which numbers fit one. Assumes nothing.
use mathlib.Core.Path.{◌≡◌, refl, sym, ap, subst, ◌∙◌}
use Prim.Native.Nat.{ℕ, zero, suc, ◌+◌, ◌<◌, ◌≤◌}
use mathlib.Core.Bool.{Bool, true, false, ◌&&◌, and-true, and-false, and_assoc}
use mathlib.Core.List.{List, [], ◌∷◌, map}
use native.Mathlib.Numerals.{add-one}
use native.Mathlib.Omega.{arith}
use lib.ListN.{length, get_or, set, drop, drop_of_length-le, length-set}
use lib.Seq.{set-get_or, drop-cons}
use lib.Dec.{T, eqb, leb, ltb, ltb→lt, eqb→eq, eqb_refl}
use borrow.Author.Tests.{le-ltb, lt-leb, ne_eqb}
use Rattle.octets.specs.Choice.{pick, every}
use Rattle.octets.proofs.Choice.{T_true, T_false, pick-cases, same-eq, NoneFrom}
use Rattle.octets.proofs.Lists.{listed-drop}
use Rattle.octets.proofs.Places.{eqb_comm}
use Rattle.kinds.specs.Judge.{Held, absent, given, named}
use Rattle.packet.specs.Row.{no_number, flag, columns, held_in, with_held, with_all, message_row, numbers_say, message_in}
use Rattle.plan.specs.declared.standing.Span.{Span}
use Rattle.std.specs.Prelude.{Option, Some, None}
use Rattle.kinds.specs.declared.kind.Kind.{Kind}
use Rattle.kinds.specs.declared.kind.Kind.TheVariants.{ReceiveRequest, ReceiveResponse, EndRequest, EndResponse, TransmissionEnd, TransmissionEndResponse, Ack}
use Rattle.kinds.specs.Found.{kind_number}
use Rattle.plan.specs.Inner.{kind_with_number, span_for, stands_at, is_message_row, number_from, indicator_fits, cause_fits, fits_at, numbers_fit}

-- ---- by kind

-- what holds of 0 to 7 and of any greater number holds of every number
pub by_kind : (P : ℕ → Type 0) → P 0 → P 1 → P 2 → P 3 → P 4 → P 5 → P 6 → P 7 → ((n : ℕ) → P (suc (suc (suc (suc (suc (suc (suc (suc n)))))))))
    → (n : ℕ) → P n
by_kind P z a b c d e f g more zero = z
by_kind P z a b c d e f g more (suc zero) = a
by_kind P z a b c d e f g more (suc (suc zero)) = b
by_kind P z a b c d e f g more (suc (suc (suc zero))) = c
by_kind P z a b c d e f g more (suc (suc (suc (suc zero)))) = d
by_kind P z a b c d e f g more (suc (suc (suc (suc (suc zero))))) = e
by_kind P z a b c d e f g more (suc (suc (suc (suc (suc (suc zero)))))) = f
by_kind P z a b c d e f g more (suc (suc (suc (suc (suc (suc (suc zero))))))) = g
by_kind P z a b c d e f g more (suc (suc (suc (suc (suc (suc (suc (suc n)))))))) = more n

-- ---- a row as a message

-- a number in the place of none is the row's number there, whether or not it is none
pub numbered : (k n : ℕ) (row : List ℕ)
    → with_held k (pick (eqb n no_number) absent (given n)) row
    ≡ pick (eqb (get_or row k 0) no_number) (set row k n) (with_held k (pick (eqb n no_number) absent (given n)) row)
unfolding with_held
numbered k n row =
    let h = pick (eqb n no_number) absent (given n) in
    pick-cases (λ (r : List ℕ). with_held k h row ≡ r) (eqb (get_or row k 0) no_number) (set row k n) (with_held k h row)
    (λ t.
    pick-cases (λ (x : Held). with_held k x row ≡ set row k n) (eqb n no_number) absent (given n)
    (λ u. sym (set-get_or row k 0) ∙ rw (eqb→eq (get_or row k 0) no_number t, eqb→eq n no_number u))
    (λ f. refl))
    (λ f. refl)

same_number : (n : ℕ) → eqb n n ≡ true
same_number n = T_true (eqb n n) (eqb_refl n)

-- the numbers from a place on may stand there
abbrev pub stands_from : Span → ℕ → List ℕ → Bool
stands_from s i [] = true
stands_from s i (n ∷ ns) = stands_at s i n && stands_from s (suc i) ns

-- twelve numbers are some message's row exactly if each may stand where it stands
twelve : (k a b c d e f g h i j l : ℕ)
    → is_message_row (k ∷ a ∷ b ∷ c ∷ d ∷ e ∷ f ∷ g ∷ h ∷ i ∷ j ∷ l ∷ []) ≡ stands_from (span_for k) 2 (b ∷ c ∷ d ∷ e ∷ f ∷ g ∷ h ∷ i ∷ j ∷ l ∷ [])
unfolding is_message_row message_row numbers_say columns held_in with_all with_held span_for stands_at
twelve k a b c d e f g h i j l =
    by_kind
    (λ (k : ℕ). is_message_row (k ∷ a ∷ b ∷ c ∷ d ∷ e ∷ f ∷ g ∷ h ∷ i ∷ j ∷ l ∷ []) ≡ stands_from (span_for k) 2 (b ∷ c ∷ d ∷ e ∷ f ∷ g ∷ h ∷ i ∷ j ∷ l ∷ []))
    (simp same_number)
    (rw (numbered 9 i) (simp same_number))
    (rw (numbered 7 g, numbered 8 h, numbered 9 i) (simp same_number))
    (rw (numbered 9 i) (simp same_number))
    (simp same_number)
    (rw (numbered 8 h, numbered 9 i) (simp same_number))
    (simp same_number)
    (rw (numbered 10 j, numbered 11 l) (simp same_number))
    (λ n. simp same_number)
    k

pub row-stands : (row : List ℕ) → length row ≡ 12 → is_message_row row ≡ stands_from (span_for (get_or row 0 0)) 2 (drop 2 row)
row-stands row e =
    let at : ℕ → ℕ = λ k. get_or row k 0 in
    subst (λ (l : List ℕ). is_message_row l ≡ stands_from (span_for (get_or l 0 0)) 2 (drop 2 l)) (listed-drop 12 0 row e)
    (twelve (at 0) (at 1) (at 2) (at 3) (at 4) (at 5) (at 6) (at 7) (at 8) (at 9) (at 10) (at 11))

-- no other number is a kind's
pub no_kind : (n : ℕ) → NoneFrom 1 7 n → kind_with_number n ≡ None
unfolding kind_with_number
no_kind =
    by_kind (λ (n : ℕ). NoneFrom 1 7 n → kind_with_number n ≡ None) (λ t. refl) (λ t. absurd (t.0.0.0.0.0.0.1 refl)) (λ t. absurd (t.0.0.0.0.0.1 refl))
    (λ t. absurd (t.0.0.0.0.1 refl))
    (λ t. absurd (t.0.0.0.1 refl))
    (λ t. absurd (t.0.0.1 refl))
    (λ t. absurd (t.0.1 refl))
    (λ t. absurd (t.1 refl))
    (λ n t. refl)

-- a number that is has it
pub kind-told : (n : ℕ) (k : Kind) → kind_with_number n ≡ Some k → n ≡ kind_number k
unfolding kind_with_number
kind-told n k e =
    by_kind (λ (n : ℕ). kind_with_number n ≡ Some k → n ≡ kind_number k) (λ q. absurd (cc)) (λ q. told ReceiveRequest k q) (λ q. told ReceiveResponse k q)
    (λ q. told EndRequest k q)
    (λ q. told EndResponse k q)
    (λ q. told TransmissionEnd k q)
    (λ q. told TransmissionEndResponse k q)
    (λ q. told Ack k q)
    (λ n q. absurd (cc))
    n
    e
  where
    told : (x y : Kind) → ◌≡◌ {A = Option Kind} (Some x) (Some y) → kind_number x ≡ kind_number y
    told x y q = ap kind_number (cc)

-- 0 or 1 is the number of a flag
pub flag-right : (n : ℕ) → ltb n 2 ≡ eqb (flag (eqb n 1)) n
flag-right zero = refl
flag-right (suc zero) = refl
flag-right (suc (suc n)) =
    rw (le-ltb (suc (suc n)) 2 (omega arith), ne_eqb (suc (suc n)) 1 (λ e. omega arith), ne_eqb 0 (suc (suc n)) (λ e. omega arith))

-- the numbers from a place on, one by one
pub stands-next : (s : Span) (row : List ℕ) (i : ℕ) → i < length row
    → stands_from s i (drop i row) ≡ (stands_at s i (get_or row i 0) && stands_from s (i + 1) (drop (i + 1) row))
stands-next s row i h = rw (add-one, drop-cons row i 0 h)

pub stands-end : (s : Span) (row : List ℕ) (i : ℕ) → length row ≤ i → stands_from s i (drop i row) ≡ true
stands-end s row i h = rw (drop_of_length-le row h)

-- a row has twelve numbers
length-held : (k : ℕ) (v : Held) (row : List ℕ) → length (with_held k v row) ≡ length row
unfolding with_held
length-held k absent row = refl
length-held k (given n) row = length-set row k n
length-held k (named at len) row = simp length-set

length-all : (ks : List ℕ) (values : List Held) (row : List ℕ) → length (with_all ks values row) ≡ length row
unfolding with_all
length-all [] values row = refl
length-all (k ∷ ks) [] row = refl
length-all (k ∷ ks) (v ∷ values) row = length-all ks values (with_held k v row) ∙ length-held k v row

-- so that any other is no message's
pub row-length : (row : List ℕ) → T (is_message_row row) → length row ≡ 12
unfolding is_message_row message_row numbers_say
row-length row t =
    let own = message_row (numbers_say row) in
    let ks = columns (get_or row 0 0) in
    ap length (sym (same-eq own row t)) ∙ length-all ks (map (held_in row) ks) _

pub other_length : (row : List ℕ) → (length row ≡ 12 → ⊥) → is_message_row row ≡ false
other_length row n = T_false (is_message_row row) (λ t. n (row-length row t))

-- a message's row stands for it
pub row_is : (row : List ℕ) → is_message_row row ≡ true → message_in row ≡ numbers_say row
unfolding is_message_row message_in
row_is row e = rw e

-- ---- numbers that fit

-- a number that fits is given
pub number-given : (n : ℕ) → n < 65536 → number_from n ≡ given n
number-given n h = rw (ne_eqb n no_number (λ e. omega arith))

-- an Indicator that fits and is given is a number of 16 bits
pub narrow-lt : (n : ℕ) → T (indicator_fits n) → (n ≡ no_number → ⊥) → n < 65536
unfolding indicator_fits
narrow-lt n t e =
    pick-cases (λ (b : Bool). T b → n < 65536) (eqb n no_number) true (ltb n 65536) (λ u x. absurd (e (eqb→eq n no_number u))) (λ f x. ltb→lt n 65536 x) t

-- ---- which numbers fit, kind by kind

module _ (row : List ℕ) where
  abbrev at : ℕ → ℕ
  at k = get_or row k 0

  pub fits-request : at 0 ≡ 1 → numbers_fit row ≡ indicator_fits (at 9)
  unfolding numbers_fit columns fits_at
  fits-request e = rw (e, and-true)

  pub fits-response : at 0 ≡ 2 → numbers_fit row ≡ (ltb (at 7) 2 && (cause_fits (eqb (at 7) 1) (at 8) && indicator_fits (at 9)))
  unfolding numbers_fit columns fits_at
  fits-response e =
      let cause : fits_at row 8 ≡ cause_fits (eqb (at 7) 1) (at 8) = ap (λ (kind : ℕ). cause_fits (eqb kind 2 && eqb (at 7) 1) (at 8)) e in
      rw (e, and-true, cause)

  pub fits-end-request : at 0 ≡ 3 → numbers_fit row ≡ indicator_fits (at 9)
  unfolding numbers_fit columns fits_at
  fits-end-request e = rw (e, and-true)

  pub fits-end-response : at 0 ≡ 4 → numbers_fit row ≡ true
  unfolding numbers_fit columns fits_at
  fits-end-response e = rw e

  pub fits-end : at 0 ≡ 5 → numbers_fit row ≡ (ltb (at 8) 65536 && indicator_fits (at 9))
  unfolding numbers_fit columns fits_at cause_fits
  fits-end e =
      let cause : fits_at row 8 ≡ ltb (at 8) 65536 = ap (λ (kind : ℕ). cause_fits (eqb kind 2 && eqb (at 7) 1) (at 8)) e in
      rw (e, and-true, cause)

  pub fits-transmission-response : at 0 ≡ 6 → numbers_fit row ≡ true
  unfolding numbers_fit columns
  fits-transmission-response e = rw e

  pub fits-ack : at 0 ≡ 7 → numbers_fit row ≡ (ltb (at 10) 65536 && ltb (at 11) 256)
  unfolding numbers_fit columns fits_at
  fits-ack e = rw (e, and-true)

-- a row whose first number is no kind's fits none
pub no_kind-misfit : (row : List ℕ) → kind_with_number (get_or row 0 0) ≡ None → numbers_fit row ≡ false
unfolding kind_with_number numbers_fit
no_kind-misfit row e =
    by_kind (λ (n : ℕ). kind_with_number n ≡ None → fitting n ≡ false) (λ q. refl) (λ q. absurd (cc)) (λ q. absurd (cc)) (λ q. absurd (cc)) (λ q. absurd (cc))
    (λ q. absurd (cc))
    (λ q. absurd (cc))
    (λ q. absurd (cc))
    (λ n q. more (suc (suc (suc (suc (suc (suc (suc (suc n)))))))) (omega arith))
    (get_or row 0 0)
    e
  where
    fitting : ℕ → Bool
    fitting n = leb 1 n && (leb n 7 && every (fits_at row) (columns n))

    more : (n : ℕ) → 7 < n → fitting n ≡ false
    more n h = rw (lt-leb n 7 h) (and-false (leb 1 n))

pub ruleset fits = (fits-request, fits-response, fits-end-request, fits-end-response, fits-end, fits-transmission-response, fits-ack, and_assoc)

pub ruleset flags = (flag-right, eqb_comm)

pub ruleset narrow = (narrow-lt)
