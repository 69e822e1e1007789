-- Laws of output that is gathered: a text that goes into the lent part behind what is gathered stands there in the whole.
-- Assumes nothing.
use mathlib.Core.Path.{◌≡◌, refl, ap}
use Prim.Native.Nat.{ℕ, ◌+◌, ◌-◌, ◌≤◌}
use native.Mathlib.Omega.{arith}
use mathlib.Core.List.{List, [], append-nil}
use lib.ListN.{length, drop, length-append, length-drop, drop_of_length-le}
use lib.Seq.{take_all}
use borrow.Author.Tests.{le-leb}
use borrow.Rule.Slice.PartMut.{mid_of, put_mid}
use Rattle.std.specs.Prelude.{Result, Ok}
use Rattle.octets.specs.Buffer.{over, put_at}
use Rattle.look.specs.declared.Look.{Look}
use Rattle.look.specs.declared.Stepped.{Stepped}
use Rattle.look.specs.Steps.{state_of, look_as, step_of, end_of, room_asked}
use Rattle.look.specs.Promises.{step≡, end≡}
use Rattle.look.specs.Claims.{Call, Called}
use Rattle.look.proofs.Laws.Calls.{called-said, called-after, end_whole}
use Rattle.sheet.specs.declared.Refusal.{Refusal}
use Rattle.mcvlook.specs.Gathered.{Gathers}

-- octets that leave the length as it was fit
pub over-fits : (xs s : List ℕ) → length (over xs s) ≡ length s → length xs ≤ length s
unfolding over
over-fits xs s e = omega (arith, simp length-append at e)

module _ (out : List ℕ) (n : ℕ) (long : length out ≡ n) (at : ℕ) (start : at ≤ n) where
  -- the part from a place on
  abbrev part : List ℕ
  part = mid_of at (n - at) out

  -- is all that stands there
  part-rest : part ≡ drop at out
  part-rest = take_all (n - at) (drop at out) (rw length-drop (omega arith))

  -- as long as the rest
  part-length : length part ≡ n - at
  part-length = rw (part-rest, length-drop, long)

  -- a text that overwrites the part is put at the place in the whole, if the part is as long as it was
  gathers : (text now : List ℕ) → now ≡ over text part → length now ≡ length part → Gathers text out at (at + length text) (put_mid at (n - at) out now)
  unfolding put_at
  gathers text now e l =
      let whole : length (drop at out) ≡ n - at = rw length-drop (omega arith) in
      let fits : length text ≤ length (drop at out) = over-fits text (drop at out) (rw part-rest at (rw e at l)) in
      let past : drop (n - at) (drop at out) ≡ [] = drop_of_length-le (drop at out) {i = n - at} (omega arith) in
      record {
        past = refl;
        fits = omega arith;
        put = rw (le-leb (at + length text) (length out) (omega arith), past, append-nil, e, part-rest);
      }

  -- a piece for which there is room
  module _ (look : Look) (piece : List ℕ) (room : at + room_asked (length piece) ≤ n) (said : Result Stepped Refusal) (now : List ℕ) (e : step≡ look piece part said now) where
    abbrev call : Call
    call = record { piece = piece; out = part; said = said; after = now }

    called : Called look call
    called = (rw part-length (omega arith), e)

    -- it is printed there
    pub gathers-step : length now ≡ length part → (r : Stepped) → said ≡ Ok r
        → Gathers (step_of (state_of look) piece).text out at (at + r.written) (put_mid at (n - at) out now) × (r.look ≡ look_as (step_of (state_of look) piece).to)
    gathers-step l r is =
        let stepped : r ≡ record { look = look_as (step_of (state_of look) piece).to; written = length (step_of (state_of look) piece).text } =
        cc (called-said look call called) in (
          rw (ap (λ (x : Stepped). x.written) stepped) (gathers (step_of (state_of look) piece).text now (called-after look call called) l),
          ap (λ (x : Stepped). x.look) stepped,
        )

    -- it is not refused
    pub step-not-refused : ((r : Stepped) → said ≡ Ok r → ⊥) → ⊥
    step-not-refused refused = refused _ (called-said look call called)

  -- the end, for which there is room
  module _ (look : Look) (room : at + room_asked 0 ≤ n) (said : Result ℕ Refusal) (now : List ℕ) (e : end≡ look part said now) where
    enough : room_asked 0 ≤ length part
    enough = rw part-length (omega arith)

    -- the octets that are told are put at the place
    pub gathers-end : length now ≡ length part → (octets : ℕ) → said ≡ Ok octets
        → Gathers (end_of (state_of look)) out at (at + octets) (put_mid at (n - at) out now)
    gathers-end l octets is =
        let whole = end_whole look part said now enough e in
        let printed : octets ≡ length (end_of (state_of look)) = cc whole.0 in
        rw printed (gathers (end_of (state_of look)) now whole.1 l)

    -- it is not refused
    pub end-not-refused : ((octets : ℕ) → said ≡ Ok octets → ⊥) → ⊥
    end-not-refused refused = refused _ (end_whole look part said now enough e).0
