-- `shown::values::put_entry` meets its contract: a name and, just past it, a value are both put, and the values behind them have the room that is
-- left. Assumes nothing.
use mathlib.Core.Path.{◌≡◌, ◌∙◌}
use Prim.Native.Nat.{ℕ, ◌+◌, ◌≤◌}
use native.Mathlib.Omega.{arith}
use mathlib.Core.List.{List, ◌++◌, map}
use lib.ListN.{length, length-append}
use Rattle.octets.proofs.Buffer.{length-put_at, put_both}
use Rattle.kinds.specs.Judge.{Held}
use Rattle.shown.specs.Inner.{value_said, entry_text, values_from}
use Rattle.shown.proofs.Laws.Values.{text_at, said_at, said-length, entry_text-at, values_from-next}
use Rattle.shown.proofs.values.put_entry.Goals as goal
use Rattle.shown.proofs.values.put_entry.Goals.{Start}

module _ (c : Start) where
  abbrev said : List Held
  said = map value_said c.args.values.now

  abbrev text : List ℕ
  text = text_at c.args.packet.now said c.args.k

  ten : length said ≡ 10
  ten = said-length c.args.values.now (omega arith)

  entry : entry_text c.args.packet.now said c.args.k ≡ c.args.name.now ++ text
  entry = entry_text-at c.args.packet.now said c.args.k (omega (arith, ten)) ∙ rw c.requires.1

  -- there is room for both and for the values behind them
  room : c.args.at + length c.args.name.now + length text + length (values_from c.args.packet.now said (c.args.k + 1)) ≤ length c.args.out.now
  room =
      let next = values_from-next c.args.packet.now said ten c.args.k (omega arith) in
      let both : length (values_from c.args.packet.now said c.args.k)
      ≡ length c.args.name.now + length text + length (values_from c.args.packet.now said (c.args.k + 1)) =
      rw (next, entry, length-append, length-append) in
      omega (arith, c.requires.2)

pub put_value-requires : goal.put_value-requires
put_value-requires c =
    let start = (goal.at.put_value-requires c).Start in
    rw (said_at, c.put_octets.ensures, length-put_at) (omega (arith, room start))

pub returns : goal.returns
returns c =
    let start = (goal.at.returns c).Start in
    let a = c.args in
    let value = rw said_at at c.put_value.ensures in
    let both =
    put_both a.out.now a.at a.name.now (text start) _ (a.at + length a.name.now) _ _
    c.put_octets.ensures (omega arith) value.0 value.1 (omega (arith, room start)) in
    (rw (entry start) both, rw (both.0, length-put_at) (omega (arith, room start, value.1)))
