-- Fields put one after another. Assumes nothing.
use mathlib.Core.Path.{◌≡◌, sym, ◌∙◌}
use mathlib.Core.List.{List, ◌∷◌}
use Prim.Native.Nat.{ℕ, ◌+◌, ◌≤◌, ◌<◌}
use native.Mathlib.Numerals.{add-one}
use native.Mathlib.Omega.{arith}
use lib.ListN.{length, get_or, drop}
use lib.Seq.{drop-cons}
use lib.Dec.{T}
use Rattle.std.specs.Prelude.{sum_by}
use Rattle.std.proofs.lemmas.List.Sums.{sum_by-cons}
use Rattle.std.proofs.lemmas.List.{drop_all}
use Rattle.octets.specs.Choice.{every}
use Rattle.octets.specs.Buffer.{over, put_at}
use Rattle.octets.proofs.Buffer.{over-put_at, put_at-next, put_at-nil}
use Rattle.octets.proofs.Choice.{T-and-left, T-and-right}
use Rattle.plan.specs.declared.Part.{Part}
use Rattle.plan.specs.declared.Part.TheVariants.{Absent}
use Rattle.plan.specs.Plan.{part_octets, parts_octets, part_right, part_size}
use Rattle.plan.proofs.Laws.Parts.{name-inside, length-name, name-short, part_length, parts-length}
use native.Mathlib.Nat.{add-zero, add-sub_cancel_left}

-- these fields are right, there is room for them at a place of the buffer, and with them there it is as it is to be
pub record Rest (names : List ℕ) (ps : List Part) (s : List ℕ) (at : ℕ) (wanted : List ℕ) : Type 0 where
  pub right : T (every (part_right names) ps)
  pub room : at + sum_by part_size ps ≤ length s
  pub is : put_at s at (parts_octets names ps) ≡ wanted

-- so it is before the first
pub rest-all : (names : List ℕ) (ps : List Part) (s : List ℕ) → T (every (part_right names) ps) → sum_by part_size ps ≤ length s
    → Rest names ps s 0 (over (parts_octets names ps) s)
rest-all names ps s t h =
    record {
      right = t;
      room = omega arith;
      is = sym (over-put_at (parts_octets names ps) s (rw (parts-length names ps t) h));
    }

module _ {names s wanted : List ℕ} {at : ℕ} where
  -- of those from one on, it is the first
  pub rest-from : (ps : List Part) (i : ℕ) → i < length ps → Rest names (drop i ps) s at wanted → Rest names (get_or ps i Absent ∷ drop (i + 1) ps) s at wanted
  rest-from ps i h r =
      let next : drop i ps ≡ get_or ps i Absent ∷ drop (i + 1) ps = rw (add-one, drop-cons ps i Absent h) in
      rw next at r

  -- past the last the buffer is as it is to be
  pub rest-none : (ps : List Part) (i : ℕ) → length ps ≤ i → Rest names (drop i ps) s at wanted → s ≡ wanted
  rest-none ps i h r = let none = rw drop_all at r in sym (put_at-nil s at) ∙ none.is

module _ {names s wanted : List ℕ} {p : Part} {ps : List Part} {at : ℕ} (r : Rest names (p ∷ ps) s at wanted) where
  -- the next is right, and there is room for it
  pub next-right : T (part_right names p)
  next-right = T-and-left (part_right names p) (every (part_right names) ps) r.right

  pub next-room : at + part_size p ≤ length s
  next-room = let all = r.room in omega (arith, sum_by-cons part_size p ps)

  -- so it is with the others, once it is put
  pub rest-next : (now : List ℕ) → length now ≡ length s → now ≡ put_at s at (part_octets names p) → Rest names ps now (at + part_size p) wanted
  rest-next now l e =
      let t = T-and-right (part_right names p) (every (part_right names) ps) r.right in
      let one = part_length names p next-right in
      let others = parts-length names ps t in
      let room = r.room in
      let sum = sum_by-cons part_size p ps in
      record {
        right = t;
        room = omega arith;
        is = rw e (put_at-next s at (part_octets names p) (parts_octets names ps) (at + part_size p) (omega arith) (omega arith)) ∙ r.is;
      }

pub ruleset puts = (name-inside, length-name, name-short, put_at-nil, add-zero, add-sub_cancel_left)
