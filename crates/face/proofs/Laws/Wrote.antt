-- A packet put into the part of a buffer that may be written into, which is all of it or, where no count can be put, nothing; and the packet's length
-- put into `written` (`wrote`). Assumes nothing.
use mathlib.Core.Path.{◌≡◌, refl, sym, ap, ◌∙◌}
use Prim.Native.Nat.{ℕ, ◌+◌, ◌*◌, ◌≤◌}
use mathlib.Core.Bool.{Bool, true, false}
use mathlib.Core.List.{List, [], ◌∷◌, ◌++◌, append-nil}
use mathlib.Core.Option.{Option, none, some}
use native.Mathlib.Omega.{arith}
use lib.ListN.{length, take, drop, drop_of_length-le}
use lib.Seq.{take_all}
use lib.Dec.{leb, leb-suc-zero}
use borrow.Author.Tests.{le-leb}
use Rattle.octets.specs.Choice.{pick}
use Rattle.octets.specs.Buffer.{over}
use Rattle.octets.proofs.Choice.{pick_true}
use Rattle.std.specs.Prelude.{Result, Ok, Err}
use Rattle.sheet.specs.declared.Refusal.{Refusal}
use Rattle.sheet.specs.Refusal.{refusal_number, refusal_line}
use Rattle.writing.specs.Writing.{Made, made, refused, room_for, told, after, Answered}
use Rattle.reception.specs.Steps.{Said, gives, refuses, check, said_by}
use Rattle.rows.specs.Lent.{code, put, roomy}
use Rattle.face.specs.Calls.{made_says}
use Rattle.rows.specs.Promises.{Rowed}
use Rattle.face.specs.Promises.{Wrote}
use Rattle.face.proofs.Laws.Told.{Plain}

-- what is given where it goes into so much room, else 11
abbrev pub in_room : ℕ → Said (List ℕ) → Said (List ℕ)
in_room room said = roomy (λ (p : List ℕ). leb (length p) room) said

-- how much of the buffer may be written into
abbrev pub room_in : List ℕ → List ℕ → ℕ
room_in out written = pick (leb 1 (length written)) (length out) 0

module _ (said : Said (List ℕ)) (out written : List ℕ) where
  -- a packet that went into so much of the buffer is the call's
  abbrev Gave : ℕ → Type 0
  Gave room =
      (p part count : List ℕ) (r : ℕ)
      → in_room (length (take room out)) said ≡ gives p
      → part ≡ over p (take room out)
      → Rowed (gives (length p ∷ [])) written r count
      → Wrote (in_room (length out) said) out written r (part ++ drop room out) count

  -- and so is a refusal
  abbrev Refused : ℕ → Type 0
  Refused room =
      (number line : ℕ) (part : List ℕ) (r : ℕ)
      → in_room (length (take room out)) said ≡ refuses number line
      → part ≡ take room out
      → r ≡ number + 256 * line
      → Wrote (in_room (length out) said) out written r (part ++ drop room out) written

-- what is refused where no count can be put is the call's
told_none : (said : Said (List ℕ)) (out : List ℕ) (r number line : ℕ) → roomy (λ (p : List ℕ). false) said ≡ refuses number line
    → r ≡ number + 256 * line → Wrote said out [] r out []
unfolding put code
told_none said out r number line e h = rw e (h, refl, refl)

-- there is no count: 11 for what is given
shut : (b : Bool) (p : List ℕ) → roomy (λ (q : List ℕ). false) (check b 11 (gives p)) ≡ refuses 11 0
unfolding roomy
shut true p = refl
shut false p = refl

whole-gave : (said : Said (List ℕ)) (out : List ℕ) (n : ℕ) (ns : List ℕ) → Gave said out (n ∷ ns) (length out)
unfolding roomy put code
whole-gave said out n ns p part count r e f h =
    let t : leb 1 (length (n ∷ ns)) ≡ true = le-leb 1 (length (n ∷ ns)) (omega arith) in
    let l : length out ≤ length out = omega arith in
    let all = take_all (length out) out l in
    rw (drop_of_length-le out l, append-nil, rw all at e, t, rw all at f) (rw t at h.0, refl, rw t at h.1)

whole-refused : (said : Said (List ℕ)) (out : List ℕ) (n : ℕ) (ns : List ℕ) → Refused said out (n ∷ ns) (length out)
unfolding put code roomy
whole-refused said out n ns number line part r e f h =
    let l : length out ≤ length out = omega arith in
    let all = take_all (length out) out l in
    rw (drop_of_length-le out l, append-nil, rw all at e, rw all at f) (h, refl, refl)

none-gave : (said : Said (List ℕ)) (out : List ℕ) → Gave said out [] 0
unfolding roomy over put code
none-gave (gives []) out p part count r e f h =
    let none : p ≡ [] = cc in
    rw (f, none, h.1) (told_none (check (leb 0 (length out)) 11 (gives [])) out r 11 0 (shut (leb 0 (length out)) []) h.0)
none-gave (gives (x ∷ xs)) out p part count r e f h = let z : ◌≡◌ {A = ℕ} 0 1 = cc (leb-suc-zero (length xs)) in absurd (omega arith)
none-gave (refuses number line) out p part count r e f h = let z : ◌≡◌ {A = ℕ} 0 1 = cc in absurd (omega arith)

none-refused : (said : Said (List ℕ)) (out : List ℕ) → Refused said out [] 0
unfolding roomy
none-refused (gives []) out number line part r e f h = let z : ◌≡◌ {A = ℕ} 0 1 = cc in absurd (omega arith)
none-refused (gives (x ∷ xs)) out number line part r e f h =
    let b = leb (length (x ∷ xs)) (length out) in
    rw f (told_none (check b 11 (gives (x ∷ xs))) out r number line (shut b (x ∷ xs) ∙ rw (leb-suc-zero (length xs)) at e) h)
none-refused (refuses n l) out number line part r e f h = rw f (told_none (refuses n l) out r number line e h)

-- the part of the buffer that may be written into
in_part : (said : Said (List ℕ)) (out written : List ℕ) → Gave said out written (room_in out written) × Refused said out written (room_in out written)
in_part said out [] = (none-gave said out, none-refused said out)
in_part said out (n ∷ ns) =
    rw (pick_true (leb 1 (length (n ∷ ns))) (length out) 0 (le-leb 1 (length (n ∷ ns)) (omega arith)))
    (whole-gave said out n ns, whole-refused said out n ns)

module _ (said : Said (List ℕ)) (out written : List ℕ) (room : ℕ) (e : room ≡ room_in out written) where
  -- what was written into it is the call's
  pub part-gave : Gave said out written room
  part-gave = rw e (in_part said out written).0

  -- what was refused there is refused by the call
  pub part-refused : Refused said out written room
  part-refused = rw e (in_part said out written).1

-- ---- what is made, by the room

module _ (makes : ℕ → Made) (wants : Said (List ℕ)) (in-room : (room : ℕ) → made_says (makes room) ≡ in_room room wants)
    (out written : List ℕ) (room : ℕ) (e : room ≡ room_in out written) where
  -- what the part of the buffer is asked for
  abbrev asked : Made
  asked = makes (length (take room out))

  -- what was answered there and then told is the call's
  pub wrote : (answer : Result ℕ Refusal) (part count : List ℕ) (r : ℕ) → Answered asked (take room out) answer part
      → Rowed (said_by (λ (n : ℕ). n ∷ []) answer) written r count → Wrote (made_says (makes (length out))) out written r (part ++ drop room out) count
  unfolding told after roomy code put
  wrote answer part count r answered h = rw (in-room (length out)) (by asked answer refl answered h)
    where
      by : (w : Made) (x : Result ℕ Refusal) → asked ≡ w → Answered w (take room out) x part → Rowed (said_by (λ (n : ℕ). n ∷ []) x) written r count
          → Wrote (in_room (length out) wants) out written r (part ++ drop room out) count
      by (made p) (Ok n) f t h =
          let l : n ≡ length p = cc t.0 in
          part-gave wants out written room e p part count r (sym (in-room (length (take room out))) ∙ ap made_says f) t.1 (rw l at h)
      by (made p) (Err x) f t h = let z : ◌≡◌ {A = ℕ} 0 1 = cc t.0 in absurd (omega arith)
      by (refused number) (Ok n) f t h = let z : ◌≡◌ {A = ℕ} 0 1 = cc t.0 in absurd (omega arith)
      by (refused number) (Err x) f t h =
          let l : refusal_number x ≡ number = cc t.0 in
          let k : refusal_line x ≡ 0 = cc t.0 in
          rw h.1
          (part-refused wants out written room e number 0 part r (sym (in-room (length (take room out))) ∙ ap made_says f) t.1 (rw (l, k) at h.0))

-- ---- a packet that is made, by the room

-- the packet, whatever the room, or 5 where there is none
abbrev pub packet_said : Option (List ℕ) → Said (List ℕ)
packet_said none = refuses 5 0
packet_said (some p) = gives p

-- it is what is made where there is room, else 11
pub room-made : (room : ℕ) (o : Option (List ℕ)) → made_says (room_for room o) ≡ in_room room (packet_said o)
unfolding room_for roomy
room-made room none = refl
room-made room (some p) = by (leb (length p) room)
  where
    by : (b : Bool) → made_says (pick b (made p) (refused 11)) ≡ check b 11 (gives p)
    by true = refl
    by false = refl

pub plain-packet_said : (o : Option (List ℕ)) → Plain (packet_said o)
plain-packet_said none = (omega arith, omega arith)
plain-packet_said (some p) = tt
