-- `seats::user::is_user_id` meets its contract. The invariant: the octets so far are visible.
use mathlib.Core.Path.{◌≡◌}
use lib.ListN.{take}
use Rattle.octets.specs.Choice.{every}
use Rattle.sheet.specs.Judge.{visible}
use Rattle.seats.proofs.user.is_user_id.Given as goal

abbrev pub invariant-loop-c : goal.invariant-loop-c
invariant-loop-c l = l.good ≡ every visible (take l.c-index l.name)
