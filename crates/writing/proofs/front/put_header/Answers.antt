-- `writing::front::put_header` meets its contract: the header's numbers are put one behind the other (`put_at-next`).
-- Assumes nothing.
use mathlib.Core.Path.{◌≡◌}
use mathlib.Core.List.{List, ◌∷◌, ◌++◌, append_assoc}
use Prim.Native.Nat.{ℕ, ◌-◌, ◌/◌, ◌≤◌}
use native.Mathlib.Omega.{arith}
use lib.ListN.{length, set, length-set, length-append}
use Rattle.octets.specs.Big.{big_of}
use Rattle.octets.specs.Buffer.{over, put_at}
use Rattle.octets.proofs.Big.{length-big_of}
use Rattle.octets.proofs.Buffer.{over-put_at, put_at-next, put_at-pair}
use Rattle.plan.specs.Packet.{header}
use Rattle.writing.proofs.front.put_header.Goals as goal

-- the first octets, the length, the SSRC and the letters are the header
puts-header : (out : List ℕ) (first size ssrc letters : ℕ) → 12 ≤ length out
    → put_at (put_at (put_at (set (set out 0 first) 1 204) 2 (big_of 2 (size / 4 - 1))) 4 (big_of 4 ssrc)) 8 (big_of 4 letters)
    ≡ over (header first size ssrc (big_of 4 letters)) out
unfolding header
puts-header out first size ssrc letters h =
    let l = big_of 2 (size / 4 - 1) in
    let a = first ∷ 204 ∷ l in
    let b = big_of 4 ssrc in
    let c = big_of 4 letters in
    rw (
      put_at-pair out 0 first 204 l (rw length-big_of (omega arith)),
      put_at-next out 0 a b 4 (simp length-big_of) (rw length-big_of (omega arith)),
      put_at-next out 0 (a ++ b) c 8 (simp (length-append, length-big_of)) (rw length-big_of (omega arith)),
      over-put_at (a ++ (b ++ c)) out (simp (length-append, length-big_of) (omega arith)),
      append_assoc,
    )

pub bounds-out-1 : goal.bounds-out-1
bounds-out-1 c = simp length-set (omega arith)

pub returns : goal.returns
returns c =
    let a = c.args in
    rw (c.put_u32-2.ensures, c.put_u32.ensures, c.put_u16.ensures) (puts-header a.out.now a.plan.start a.size a.plan.ssrc a.plan.letters c.requires.0)
