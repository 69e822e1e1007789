-- How much room a plan's packet takes: as many octets as its sizes say. Assumes nothing.
use mathlib.Core.Path.{◌≡◌}
use mathlib.Core.List.{List, ◌++◌}
use mathlib.Core.Option.{some}
use Prim.Native.Nat.{ℕ, ◌+◌, ◌≤◌, ◌<◌}
use native.Mathlib.Omega.{arith}
use lib.ListN.{length, length-append}
use lib.Dec.{T}
use borrow.Author.Tests.{le-leb, lt-leb}
use Rattle.octets.specs.Big.{big_of}
use Rattle.octets.proofs.Big.{length-big_of}
use Rattle.fields.specs.Header.{first_field}
use Rattle.plan.specs.declared.Plan.{Plan}
use Rattle.plan.specs.Packet.{header, with_header}
use Rattle.plan.specs.Plan.{plan_octets, plan_right, plan_packet, plan_size}
use Rattle.plan.proofs.Laws.Parts.{plan-length}
use Rattle.writing.specs.Writing.{made, refused, room_for}
use Rattle.writing.proofs.Laws.Front.{length-header}

module _ (names : List ℕ) (plan : Plan) where
  -- the header of a plan that is right
  abbrev pub head : List ℕ
  head = header plan.start (first_field + length (plan_octets names plan)) plan.ssrc (big_of 4 plan.letters)

  -- and its packet
  abbrev pub packet : List ℕ
  packet = head ++ plan_octets names plan

  -- a header is twelve octets
  pub length-head : length head ≡ 12
  length-head =
      length-header plan.start (first_field + length (plan_octets names plan)) plan.ssrc (big_of 4 plan.letters) (length-big_of 4 plan.letters)

  module _ (t : T (plan_right names plan)) where
    -- the packet is as long as the sizes say
    pub length-packet : length packet ≡ 12 + plan_size plan
    length-packet = rw (length-append, length-head, plan-length names plan t)

    -- less room than that
    pub no_room : (room : ℕ) → room < 12 + plan_size plan → room_for room (some (plan_packet names plan)) ≡ refused 11
    unfolding plan_packet with_header room_for
    no_room room h = rw (lt-leb (length packet) room (omega (arith, length-packet)))

    -- room enough
    pub with-room : (room : ℕ) → 12 + plan_size plan ≤ room → room_for room (some (plan_packet names plan)) ≡ made packet
    unfolding plan_packet with_header room_for
    with-room room h = rw (le-leb (length packet) room (omega (arith, length-packet)))
