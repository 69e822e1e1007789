-- `hex_line::packet_in` meets its contract. The invariant: `right` tells whether the first i pairs of the line are digits, and the octets are what they
-- make if so. Assumes nothing.
use native.Mathlib.Omega.{arith}
use Prim.Native.Nat.{◌+◌, ◌*◌, ◌%◌}
use mathlib.Core.Path.{◌≡◌}
use lib.ListN.{length}
use Rattle.hex_line.proofs.Laws.Pairs.{digit_at, pairs_start, pairs_more, packet_in-none, pairs_end}
use Rattle.hex_line.proofs.packet_in.Goals as goal
use Rattle.hex_line.proofs.packet_in.Goals.{then-is_empty-via-then-is_empty, then-is_empty-via-else-is_empty+then-pairs-gt-MOST, then-is_empty-via-else-is_empty+else-pairs-gt-MOST+then-not-is_empty}

pub returns-then-is_empty : goal.returns-then-is_empty
returns-then-is_empty c =
    packet_in-none c.args.line.now
    (λ l. elim c.then-is_empty.branch [
      | then-is_empty-via-then-is_empty w ↦ grind arith
      | then-is_empty-via-else-is_empty+then-pairs-gt-MOST w ↦ grind arith
      | then-is_empty-via-else-is_empty+else-pairs-gt-MOST+then-not-is_empty w ↦ grind arith
    ])

pub loop-i-init : goal.loop-i-init
loop-i-init c = pairs_start c.args.line.now

pub loop-i-preserved : goal.loop-i-preserved
loop-i-preserved c =
    let line = c.args.line.now in
    let l = c.loop-i in
    let pairs = c.as_chunks.ensures in
    rw (c.is_ascii_hexdigit.ensures.value, c.is_ascii_hexdigit-in-loop-i.ensures.value)
    (pairs_more line l.right l.octets l.i l.invariant (omega arith) (omega arith) _ _
    (digit_at _ _ l.i 0 (2 * l.i) line pairs.front (omega arith) (omega arith) (omega arith))
    (digit_at _ _ l.i 1 (2 * l.i + 1) line pairs.front (omega arith) (omega arith) (omega arith)) _ _ c.value_of.ensures.0 c.value_of-in-loop-i.ensures.0)

pub returns : goal.returns
returns c =
    let line = c.args.line.now in
    let l = c.loop-i in
    let even : length line % 2 ≡ 0 = grind arith in
    rw c.then_some.ensures
    (pairs_end line l.right l.octets l.i _ l.invariant (omega arith) c.as_chunks.ensures.front_len even (grind arith) (omega arith))
