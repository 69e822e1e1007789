-- The claims of specs/Claims.antt: writing is the packet of the meaning, where the sheet is valid, there is one and the room suffices; and what
-- is claimed of that packet is Back's, Forth's and Canon's. Assumes nothing.
use mathlib.Core.Path.{◌≡◌, refl, sym, ap, ◌∙◌, subst}
use mathlib.Core.List.{List}
use mathlib.Core.Option.{Option, none, some, none-ne-some, some-injective}
use Prim.Native.Nat.{ℕ, ◌≤◌}
use native.Mathlib.Omega.{arith}
use lib.ListN.{length}
use lib.Dec.{T, leb}
use borrow.Author.Tests.{le-leb}
use Rattle.octets.proofs.Choice.{T_true, pick-cases}
use Rattle.sheet.specs.declared.Sheet.{Sheet}
use Rattle.sheet.specs.Value.{valid_alone}
use Rattle.kinds.specs.Kind.{numbers_of}
use Rattle.kinds.specs.Reading.{Outcome, read_of}
use Rattle.packet.specs.Meaning.{Meaning, meaning}
use Rattle.plan.specs.Packet.{packet_as, packet_of, packet_for}
use Rattle.writing.specs.Writing.{Made, made, refused, room_for, write_of}
use Rattle.writing.specs.Canonical.{canonical}
use Rattle.writing.specs.Claims.{ReadsTo, ReadsBack, WritableExactly, FiveExactly, WrittenAgain, CanonicalOnce, Twice}
use Rattle.writing.proofs.Laws.Back.{packet-reads}
use Rattle.writing.proofs.Laws.Forth.{reads-says, reads-writable}
use Rattle.writing.proofs.Laws.Canon.{written-canonical, canonical-is}

-- ---- what writing comes to

-- a refusal is no packet
refused-made : (number : ℕ) (p : List ℕ) → refused number ≡ made p → ⊥
refused-made number p e = none-ne-some p (ap packet_in e)
  where
    packet_in : Made → Option (List ℕ)
    packet_in (made q) = some q
    packet_in (refused number) = none

-- what goes into the room
room_for-made : (room : ℕ) (o : Option (List ℕ)) (p : List ℕ) → room_for room o ≡ made p → o ≡ some p
unfolding room_for
room_for-made room none p e = absurd (refused-made 5 p e)
room_for-made room (some q) p e =
    pick-cases (λ (w : Made). w ≡ made p → some q ≡ some p) (leb (length q) room) (made q) (refused 11) (λ t x. cc) (λ f x. cc) e

-- 5 is for no packet alone
room_for-five : (room : ℕ) (o : Option (List ℕ)) → room_for room o ≡ refused 5 → o ≡ none
unfolding room_for
room_for-five room none e = refl
room_for-five room (some q) e =
    pick-cases (λ (w : Made). w ≡ refused 5 → some q ≡ none) (leb (length q) room) (made q) (refused 11) (λ t x. cc) (λ f x. cc) e

-- where something was written, the sheet is valid, and it is the packet of the message's meaning
record Wrote (s : Sheet) (o : Option Meaning) (p : List ℕ) : Type 0 where
  valid : T (valid_alone s)
  meant : Meaning
  means : o ≡ some meant
  packet : packet_of (numbers_of s) meant ≡ some p

wrote : (s : Sheet) (message : Outcome) (names : List ℕ) (room : ℕ) (p : List ℕ) → write_of s message names room ≡ made p → Wrote s (meaning names message) p
unfolding write_of packet_for
wrote s message names room p e =
    pick-cases (λ (w : Made). w ≡ made p → Wrote s (meaning names message) p) (valid_alone s) (room_for room (packet_for s (meaning names message))) (refused 12)
    (λ v x. by-meaning v (meaning names message) (room_for-made room (packet_for s (meaning names message)) p x))
    (λ f x. absurd (refused-made 12 p x))
    e
  where
    by-meaning : T (valid_alone s) → (o : Option Meaning) → packet_for s o ≡ some p → Wrote s o p
    by-meaning v none x = absurd (none-ne-some p x)
    by-meaning v (some m) x = record { valid = v; meant = m; means = refl; packet = x }

module _ (s : Sheet) (v : T (valid_alone s)) (message : Outcome) (names : List ℕ) (room : ℕ) (m : Meaning) (e : meaning names message ≡ some m) where
  -- under a valid sheet it is the packet of the meaning, in the room
  write-is : write_of s message names room ≡ room_for room (packet_of (numbers_of s) m)
  unfolding write_of packet_for
  write-is = rw (T_true (valid_alone s) v, e)

  -- the packet, where the room suffices
  write-made : (p : List ℕ) → packet_of (numbers_of s) m ≡ some p → length p ≤ room → write_of s message names room ≡ made p
  unfolding room_for
  write-made p q l = write-is ∙ rw (q, le-leb (length p) room l)

-- a meaning that some packet reads to has a packet
reads-packet : (s : Sheet) (p : List ℕ) (m : Meaning) → ReadsTo s p m → (q : List ℕ) × (packet_of (numbers_of s) m ≡ some q)
reads-packet s p m r =
    let says = reads-says s p m r in
    (packet_as says.kind m, reads-writable s p m r.0 says)

-- ---- what is written reads back

pub reads_back : ReadsBack
reads_back s message names room p e =
    let w = wrote s message names room p e in
    let r = packet-reads s w.valid w.meant p w.packet in
    (r.0, r.1 ∙ sym w.means, written-canonical s w.valid w.meant p w.packet)

-- ---- what is writable

pub writable_exactly : WritableExactly
writable_exactly s v message names m e = (
  (λ x.
      let back = reads_back s message names (length x.0) x.0 (x.1 (length x.0) (omega arith)) in
      (x.0, (back.0, back.1 ∙ e))),
  λ x.
      let q = reads-packet s x.0 m x.1 in
      (q.0, λ room l. write-made s v message names room m e q.0 q.1 l),
)

pub five_exactly : FiveExactly
five_exactly s v message names room m e = (
  (λ five p r.
      let q = reads-packet s p m r in
      let without : packet_of (numbers_of s) m ≡ none = room_for-five room (packet_of (numbers_of s) m) (sym (write-is s v message names room m e) ∙ five) in
      none-ne-some q.0 (sym without ∙ q.1)),
  λ never. write-is s v message names room m e ∙ by-packet never (packet_of (numbers_of s) m) refl,
)
  where
    by-packet : ((p : List ℕ) → ReadsTo s p m → ⊥) → (o : Option (List ℕ)) → packet_of (numbers_of s) m ≡ o → room_for room o ≡ refused 5
    by-packet never none q = unfold room_for in refl
    by-packet never (some p) q = absurd (never p (packet-reads s v m p q))

-- ---- the canonical packet

pub written_again : WrittenAgain
written_again s p m r =
    let valid = (reads-says s p m r).valid in
    let q = reads-packet s p m r in (
      q.0,
      record {
        written = λ room l. write-made s valid (read_of s p) p room m r.1 q.0 q.1 l;
        reads = packet-reads s valid m q.0 q.1;
        is_canonical = written-canonical s valid m q.0 q.1;
        same_exactly = (
          (λ e. subst (λ (x : List ℕ). T (canonical (numbers_of s) x)) e (written-canonical s valid m q.0 q.1)),
          λ t. some-injective q.0 p (sym q.1 ∙ canonical-is s p m r t),
        );
      },
    )

pub canonical_once : CanonicalOnce
canonical_once s p q m r t c d = some-injective p q (sym (canonical-is s p m r c) ∙ canonical-is s q m t d)

pub twice : Twice
twice s p q m a room l =
    let valid = (reads-says s q m a.reads).valid in
    write-made s valid (read_of s q) q room m a.reads.1 q (canonical-is s q m a.reads a.is_canonical) l
