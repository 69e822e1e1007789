-- `sheet_text::scan::scan` meets its contract: after each turn the arrays hold what some good lines are laid out to, and the
-- outcome from there is the text's own.
use mathlib.Core.Path.{◌≡◌}
use Prim.Native.Nat.{◌+◌, ◌≤◌}
use lib.ListN.{get_or}
use Rattle.sheet_text.proofs.Laws.Scanned.{Scanned}
use Rattle.sheet_text.proofs.scan.scan.Given as goal

abbrev pub invariant-loop-k : goal.invariant-loop-k
invariant-loop-k l = Scanned l.text l.numbers l.users l.at l.k

-- the number of seats was read before
abbrev pub invariant-loop-s : goal.invariant-loop-s
invariant-loop-s l = Scanned l.text l.numbers l.users l.at (11 + l.s) × (get_or l.numbers 10 0 ≡ l.s-end) × (l.s-end ≤ 8)
