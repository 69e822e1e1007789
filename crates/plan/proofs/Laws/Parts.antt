-- Laws of a plan's fields: the octets of each, part by part, and how many they take. Assumes nothing.
use mathlib.Core.Path.{◌≡◌, refl}
use mathlib.Core.List.{List, [], ◌∷◌, append-nil}
use Prim.Native.Nat.{ℕ, ◌+◌, ◌*◌, ◌/◌, ◌%◌, ◌≤◌, ◌<◌}
use native.Mathlib.Omega.{arith}
use Rattle.std.specs.Prelude.{sum_by}
use Rattle.std.proofs.lemmas.List.Sums.{sum_by-cons}
use lib.ListN.{length, drop, length-append, length-drop}
use lib.Seq.{length-take-le}
use lib.Dec.{T, leb, leb→le}
use Rattle.octets.specs.Choice.{every}
use Rattle.octets.specs.Big.{big_of}
use Rattle.octets.specs.Buffer.{padded}
use Rattle.octets.proofs.Choice.{T-and-left, T-and-right}
use Rattle.octets.proofs.Big.{length-big_of, big_of-two, big_of-add, big_of-mod}
use Rattle.sheet.specs.Judge.{user_id}
use Rattle.sheet.proofs.Laws.Entries.{user_id-short}
use Rattle.fields.specs.Walk.{to_word}
use Rattle.fields.specs.Layout.{laid}
use Rattle.fields.proofs.Laws.Layouts.{length-laid}
use Rattle.packet.specs.declared.Name.{Name}
use Rattle.packet.specs.Message.{name_said}
use Rattle.packet.specs.Claims.{name_right}
use Rattle.plan.specs.declared.Part.{Part}
use Rattle.plan.specs.declared.Part.TheVariants.{Absent, Word, Named}
use Rattle.plan.specs.declared.Plan.{Plan}
use Rattle.plan.specs.Plan.{name_at, part_octets, parts_octets, part_right, part_size, plan_octets, plan_right, plan_size}

-- ---- layouts

-- a field with a number fills a word
pub laid-number : (id n : ℕ) → id < 256 → n < 65536 → laid (record { id = id; value = big_of 2 n }) ≡ big_of 4 (id * 16777216 + 131072 + n)
unfolding laid padded to_word
laid-number id n h l =
    let w = id * 16777216 + 131072 + n in
    let high : w / 65536 ≡ id * 256 + 2 = omega arith in
    let low : w % 65536 ≡ n = omega arith in
    let first : (id * 256 + 2) / 256 % 256 ≡ id = omega arith in
    let second : (id * 256 + 2) % 256 ≡ 2 = omega arith in
    rw (length-big_of, append-nil (id ∷ 2 ∷ big_of 2 n), big_of-add 2 2 w, ← big_of-mod 2 w, high, low) (rw (big_of-two (id * 256 + 2), first, second))

-- ---- a name that is right

module _ (names : List ℕ) (n : Name) (t : T (name_right names (name_said n))) where
  -- it lies in the octets
  pub name-inside : n.at + n.len ≤ length names
  unfolding name_right
  name-inside = leb→le (n.at + n.len) (length names) (T-and-left (leb (n.at + n.len) (length names)) (user_id (name_at names n)) t)

  -- it is as long as it says
  pub length-name : length (name_at names n) ≡ n.len
  length-name = length-take-le n.len (drop n.at names) (rw length-drop (omega (arith, name-inside)))

  -- and no longer than a User ID
  pub name-short : n.len ≤ 60
  unfolding name_right
  name-short =
      rw length-name at (user_id-short (name_at names n) (T-and-right (leb (n.at + n.len) (length names)) (user_id (name_at names n)) t))

-- ---- how many octets a part takes

-- as many as it says
pub part_length : (names : List ℕ) (part : Part) → T (part_right names part) → length (part_octets names part) ≡ part_size part
part_length names Absent t = refl
part_length names (Word w) t = length-big_of 4 w
part_length names (Named n) t = rw (length-laid, length-name names n t)

-- at most 64
part-most : (names : List ℕ) (part : Part) → T (part_right names part) → part_size part ≤ 64
unfolding to_word
part-most names Absent t = omega arith
part-most names (Word w) t = omega arith
part-most names (Named n) t = omega (arith, name-short names n t)

-- ---- how many octets fields take

module _ (names : List ℕ) where
  -- as many as they say
  pub parts-length : (ps : List Part) → T (every (part_right names) ps) → length (parts_octets names ps) ≡ sum_by part_size ps
  parts-length [] t = refl
  parts-length (p ∷ ps) t =
      let a = part_right names p in
      let b = every (part_right names) ps in
      simp length-append (rw (part_length names p (T-and-left a b t), parts-length ps (T-and-right a b t), sum_by-cons part_size p ps))

  -- at most 64 each
  parts-most : (ps : List Part) → T (every (part_right names) ps) → sum_by part_size ps ≤ 64 * length ps
  parts-most [] t = omega arith
  parts-most (p ∷ ps) t =
      let a = part_right names p in
      let b = every (part_right names) ps in
      let one = part-most names p (T-and-left a b t) in
      let rest = parts-most ps (T-and-right a b t) in
      omega (arith, sum_by-cons part_size p ps)

  -- so do a plan's
  pub plan-length : (plan : Plan) → T (plan_right names plan) → length (plan_octets names plan) ≡ plan_size plan
  plan-length plan t = parts-length plan.parts t

  pub plan-most : (plan : Plan) → T (plan_right names plan) → plan_size plan ≤ 64 * length plan.parts
  plan-most plan t = parts-most plan.parts t
