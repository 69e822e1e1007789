-- Laws of the seven kinds: the row of each, and the kind of a packet by its letters as one number. Assumes nothing.
use mathlib.Core.Path.{◌≡◌, refl}
use mathlib.Core.Bool.{Bool, true, false, ◌&&◌}
use mathlib.Core.List.{List}
use mathlib.Core.Option.{Option, none, some}
use Prim.Native.Nat.{ℕ, ◌^◌, ◌≤◌, ◌<◌}
use native.Mathlib.Omega.{arith}
use Rattle.std.proofs.Common.{Fits, w8}
use Rattle.std.specs.Prelude.{Some}
use Rattle.std.specs.Prelude.{Option as Maybe}
use lib.ListN.{length, get_or}
use lib.Dec.{eqb, lit<}
use Rattle.octets.specs.Choice.{pick, same}
use Rattle.octets.specs.Big.{big_at, big_of}
use Rattle.fields.specs.Header.{letters_in, number_in}
use Rattle.kinds.specs.declared.Numbers.{Numbers}
use Rattle.kinds.specs.declared.kind.Kind.{Kind as MessageKind}
use Rattle.kinds.specs.declared.kind.Kind.TheVariants.{ReceiveRequest, ReceiveResponse, EndRequest, EndResponse, TransmissionEnd, TransmissionEndResponse, Ack}
use Rattle.kinds.specs.Kind.{Kind, kinds, has_kind, kind_of, settled, slots_of}
use Rattle.kinds.specs.Found.{kind_number, kind_numbered, slots_numbered}
use Rattle.kinds.specs.Inner.{row_found, mcv2_kind}
use Rattle.octets.proofs.Choice.{pick_same}
use Rattle.octets.proofs.Big.{same-big_of}

-- ---- by kind

module _ (n : Numbers) where
  -- each has its row
  pub kind_numbered-some : (kind : MessageKind) → (k : Kind) × (kind_numbered n (kind_number kind) ≡ some k)
  unfolding kind_numbered kinds
  kind_numbered-some ReceiveRequest = (_, refl)
  kind_numbered-some ReceiveResponse = (_, refl)
  kind_numbered-some EndRequest = (_, refl)
  kind_numbered-some EndResponse = (_, refl)
  kind_numbered-some TransmissionEnd = (_, refl)
  kind_numbered-some TransmissionEndResponse = (_, refl)
  kind_numbered-some Ack = (_, refl)

  -- which has its number
  pub kind_numbered-kind : (kind : MessageKind) (k : Kind) → kind_numbered n (kind_number kind) ≡ some k → k.kind ≡ kind_number kind
  unfolding kind_numbered kinds
  kind_numbered-kind ReceiveRequest k e = cc
  kind_numbered-kind ReceiveResponse k e = cc
  kind_numbered-kind EndRequest k e = cc
  kind_numbered-kind EndResponse k e = cc
  kind_numbered-kind TransmissionEnd k e = cc
  kind_numbered-kind TransmissionEndResponse k e = cc
  kind_numbered-kind Ack k e = cc

  -- whose slots depend on whether the packet's Result is 1 in kind 2 alone
  pub slots_numbered-else : (kind : MessageKind) → (kind ≡ ReceiveResponse → ⊥) → (g h : Bool) → slots_numbered n (kind_number kind) g ≡ slots_numbered n (kind_number kind) h
  unfolding slots_numbered kind_numbered kinds slots_of settled
  slots_numbered-else ReceiveRequest not g h = refl
  slots_numbered-else ReceiveResponse not g h = absurd (not refl)
  slots_numbered-else EndRequest not g h = refl
  slots_numbered-else EndResponse not g h = refl
  slots_numbered-else TransmissionEnd not g h = refl
  slots_numbered-else TransmissionEndResponse not g h = refl
  slots_numbered-else Ack not g h = refl

-- ---- by letters

-- the kind by the letters as one number, and the message's number: "MCV0", "MCV1", and any of "MCV2"
abbrev pub kind_of_letters : Numbers → ℕ → ℕ → Option Kind
kind_of_letters n letters number =
    pick (eqb letters 0x4D435630 && eqb number n.request) (kind_numbered n 1)
    (pick (eqb letters 0x4D435631 && eqb number n.response) (kind_numbered n 2)
    (pick (eqb letters 0x4D435632) (row_found n (mcv2_kind n number)) none))

-- the row of a kind picked under a test: what it stands for is picked under both tests
pick_under : (n : Numbers) (m b : Bool) (kind : MessageKind) (rest : Maybe MessageKind)
    → pick m (row_found n (pick b (Some kind) rest)) none ≡ pick (m && b) (kind_numbered n (kind_number kind)) (pick m (row_found n rest) none)
pick_under n true true kind rest = refl
pick_under n true false kind rest = refl
pick_under n false b kind rest = refl

module _ (p : List ℕ) (octets : (i : ℕ) → Fits w8 (get_or p i 0)) (long : 12 ≤ length p) where
  -- whether the letters are given ones
  letters-same : (n : ℕ) → n < 256 ^ 4 → same (letters_in p) (big_of 4 n) ≡ eqb (big_at 4 p 8) n
  unfolding letters_in
  letters-same n h = same-big_of p (λ i. omega (arith, octets i)) 4 8 n long h

  -- the kind of a packet
  pub letters_decide : (n : Numbers) → kind_of n p ≡ kind_of_letters n (big_at 4 p 8) (number_in p)
  letters_decide n =
      unfold mcv2_kind in
      simp (pick_under n, pick_same)
      (unfold kind_of kinds has_kind kind_numbered big_of in
      rw (letters-same 0x4D435630 (lit< tt), letters-same 0x4D435631 (lit< tt), letters-same 0x4D435632 (lit< tt)))
