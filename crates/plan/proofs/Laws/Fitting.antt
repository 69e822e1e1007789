-- Laws of a sheet's numbers: which of them go into a packet, and that a valid sheet's do. Assumes nothing.
use mathlib.Core.Path.{◌≡◌, refl}
use mathlib.Core.Bool.{Bool, false, ◌&&◌, and-true, and_assoc, and_comm}
use mathlib.Core.List.{List, ◌++◌}
use Prim.Native.Nat.{ℕ, ◌+◌, ◌<◌}
use native.Mathlib.Omega.{arith}
use lib.ListN.{length, get_or, take, drop}
use lib.Dec.{T, ltb, eqb, eqb→eq, ltb→lt, lit<}
use borrow.Author.Tests.{lt-ltb, eq-eqb, ne_eqb}
use Rattle.octets.specs.Choice.{every}
use Rattle.octets.proofs.Choice.{T-and-left, T-and-right, every-get_or}
use Rattle.sheet.specs.declared.Sheet.{Sheet}
use Rattle.sheet.specs.Table.{table, number_lines, most_seats, row_at}
use Rattle.sheet.specs.Value as value
use Rattle.sheet.specs.Value.{valid_alone}
use Rattle.sheet.proofs.Laws.Bounds.{valid-within}
use Rattle.sheet.proofs.Laws.Values.{sheet_in-counted, valid-counted}
use Rattle.kinds.specs.declared.kind.Kind.{Kind as MessageKind}
use Rattle.kinds.specs.declared.kind.Kind.TheVariants.{ReceiveRequest, ReceiveResponse, EndRequest, EndResponse, TransmissionEnd, TransmissionEndResponse, Ack}
use Rattle.kinds.specs.Found.{kind_number}
use Rattle.kinds.specs.Kind.{kinds, numbers_of}
use Rattle.plan.specs.Packet.{fits, fitting}

-- ---- numbers that go into their places

-- one that goes into four bits
abbrev pub short : ℕ → Bool
short n = ltb n 16

-- the messages' numbers, on lines 2 to 8
abbrev pub messages : List ℕ → List ℕ
messages ns = take 7 (drop 2 ns)

-- numbers fit if the messages' go into four bits, and the Result's ID, on line 9, is below 192
pub fits-is : (s : Sheet) (ns : List ℕ) → ns ≡ value.numbers_of s ++ s.ssrcs → fits (numbers_of s) ≡ (every short (messages ns) && ltb (get_or ns 9 0) 192)
unfolding fits kinds numbers_of value.numbers_of
fits-is s ns e = rw e (simp (and-true, and_assoc) (rw (and_comm (ltb s.resultid 192)) (simp and_assoc)))

-- the same one by one
pub record Small (s : Sheet) : Type 0 where
  pub request : s.request < 16
  pub response : s.response < 16
  pub endrequest : s.endrequest < 16
  pub endresponse : s.endresponse < 16
  pub txend : s.txend < 16
  pub txendresponse : s.txendresponse < 16
  pub ack : s.ack < 16
  pub resultid : s.resultid < 192

-- numbers that fit are so
pub small : (s : Sheet) → T (fits (numbers_of s)) → Small s
unfolding value.numbers_of
small s t =
    let ns = value.numbers_of s ++ s.ssrcs in
    let all = messages ns in
    let id = ltb s.resultid 192 in
    let u : T (every short all && id) = rw (fits-is s ns refl) at t in
    let r = ltb→lt s.resultid 192 (T-and-right (every short all) id u) in
    let at : (i : ℕ) → i < 7 → get_or all i 0 < 16 = λ i l. ltb→lt (get_or all i 0) 16 (every-get_or short all i 0 (T-and-left (every short all) id u) l) in
    omega (arith, at 0 (lit< tt), at 1 (lit< tt), at 2 (lit< tt), at 3 (lit< tt), at 4 (lit< tt), at 5 (lit< tt), at 6 (lit< tt))

-- a valid sheet's numbers fit: each is within its line's bounds
pub valid-fits : (s : Sheet) → T (valid_alone s) → T (fits (numbers_of s))
unfolding fits kinds numbers_of table number_lines row_at value.numbers_of
valid-fits s v =
    let at = valid-within s v in
    let n : Small s =
    omega (arith, at 2 (lit< tt), at 3 (lit< tt), at 4 (lit< tt), at 5 (lit< tt), at 6 (lit< tt), at 7 (lit< tt), at 8 (lit< tt), at 9 (lit< tt)) in
    rw (
      lt-ltb s.request 16 n.request,
      lt-ltb s.response 16 n.response,
      lt-ltb s.resultid 192 n.resultid,
      lt-ltb s.endrequest 16 n.endrequest,
      lt-ltb s.endresponse 16 n.endresponse,
      lt-ltb s.txend 16 n.txend,
      lt-ltb s.txendresponse 16 n.txendresponse,
      lt-ltb s.ack 16 n.ack,
    ) tt

-- ---- numbers that are lent to a call

module _ (ns : List ℕ) where
  -- of as many as a sheet has it is asked whether they fit ..
  pub fitting-is : length ns ≡ 19 → fitting ns ≡ fits (numbers_of (value.sheet_from ns))
  unfolding fitting number_lines table most_seats
  fitting-is long = rw (eq-eqb (length ns) 19 long)

  -- .. and of no others
  pub other-not-fitting : (length ns ≡ 19 → ⊥) → fitting ns ≡ false
  unfolding fitting number_lines table most_seats
  other-not-fitting other = rw (ne_eqb (length ns) 19 other)

  -- those that fit are as many as a sheet has
  pub fitting-counted : T (fitting ns) → length ns ≡ 19
  unfolding fitting number_lines table most_seats
  fitting-counted t = eqb→eq (length ns) 19 (T-and-left (eqb (length ns) 19) (fits (numbers_of (value.sheet_from ns))) t)

  pub fitting-fits : T (fitting ns) → T (fits (numbers_of (value.sheet_from ns)))
  fitting-fits t = rw (fitting-is (fitting-counted t)) at t

  -- a valid sheet's fit
  pub valid-fitting : T (valid_alone (value.sheet_in ns)) → T (fitting ns)
  valid-fitting t =
      let long = valid-counted ns t in
      rw (fitting-is long, ← sheet_in-counted ns long) (valid-fits (value.sheet_in ns) t)

  -- by kind
  pub kind-small : T (fitting ns) → (k : MessageKind) → get_or ns (1 + kind_number k) 0 < 16
  unfolding value.sheet_from value.sheet_by
  kind-small t ReceiveRequest = (small _ (fitting-fits t)).request
  kind-small t ReceiveResponse = (small _ (fitting-fits t)).response
  kind-small t EndRequest = (small _ (fitting-fits t)).endrequest
  kind-small t EndResponse = (small _ (fitting-fits t)).endresponse
  kind-small t TransmissionEnd = (small _ (fitting-fits t)).txend
  kind-small t TransmissionEndResponse = (small _ (fitting-fits t)).txendresponse
  kind-small t Ack = (small _ (fitting-fits t)).ack

  pub id-small : T (fitting ns) → get_or ns 9 0 < 256
  unfolding value.sheet_from value.sheet_by
  id-small t = let id = (small _ (fitting-fits t)).resultid in omega arith
