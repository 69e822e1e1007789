-- What is claimed of events beyond the functions. Each has its proof under proofs/. Assumes nothing.
use Rattle.std.specs.Prelude.{◌≡◌, ◌↔◌, ◌⊎◌, ℕ, ◌≤◌, false, List, T}
use Rattle.std.proofs.Math.Option.{some}
use Rattle.sheet.specs.declared.Sheet.{Sheet}
use Rattle.sheet.specs.Value.{valid_with}
use Rattle.kinds.specs.Reading.{refused, read_of}
use Rattle.packet.specs.Meaning.{Meaning, meaning}
use Rattle.streams.specs.declared.Event.{Event}
use Rattle.streams.specs.declared.What.{What}
use Rattle.streams.specs.declared.What.TheVariants.{Request, End, Open, T11, EndResponse, Release}
use Rattle.reception.specs.Steps.{gives, refuses}
use Rattle.sheet.specs.Find.{HasSsrc, HasUser}
use Rattle.incoming.specs.Event.{name_in, event_of}

-- ---- which packets make which events, said without a search

-- a packet that reads well, as the message
abbrev pub Says : Sheet → List ℕ → Meaning → Type 0
Says s p m = meaning p (read_of s p) ≡ some m

-- "kinds 1 and 3 by sender's seat, stream found from Source ID or User ID; kind 6 on the sender's own stream"; no packet makes another event
abbrev pub Makes : Sheet → List (List ℕ) → Meaning → ℕ → What → Type 0
Makes s users m stream (Request r) =
    (m.kind ≡ 1) × HasSsrc s m.ssrc r × HasUser s users (name_in 0 m.values) r × HasUser s users (name_in 1 m.values) stream
Makes s users m stream (End r) = (m.kind ≡ 3) × HasSsrc s m.ssrc r × HasUser s users (name_in 0 m.values) stream
Makes s users m stream (EndResponse asked) = (m.kind ≡ 6) × HasSsrc s m.ssrc stream × (asked ≡ m.ack)
Makes s users m stream Open = ⊥
Makes s users m stream T11 = ⊥
Makes s users m stream Release = ⊥

-- A packet makes an event exactly if it reads to a message that makes it.
abbrev pub EventExactly : Type 0
EventExactly =
    (s : Sheet) (users : List (List ℕ)) (p : List ℕ) (e : Event) → T (valid_with s users)
    → (event_of s users p ≡ gives e) ↔ ((m : Meaning) × Says s p m × Makes s users m e.stream e.what)

-- ---- which are refused, and why

-- a packet is refused with this number exactly if it reads to a message of which this holds
abbrev pub RefusedExactly : ℕ → (Sheet → List (List ℕ) → Meaning → Type 0) → Type 0
RefusedExactly number Why =
    (s : Sheet) (users : List (List ℕ)) (p : List ℕ) → T (valid_with s users)
    → (event_of s users p ≡ refuses number 0) ↔ ((m : Meaning) × Says s p m × Why s users m)

-- 8: "kind 2, 4, 5 or 7 offered as an event", which is to say any but 1, 3 and 6
abbrev pub NoEvent : Meaning → Type 0
NoEvent m = (m.kind ≡ 1 → ⊥) × (m.kind ≡ 3 → ⊥) × (m.kind ≡ 6 → ⊥)

abbrev pub EightExactly : Type 0
EightExactly = RefusedExactly 8 (λ (s : Sheet) (users : List (List ℕ)) (m : Meaning). NoEvent m)

-- 6: "sender's SSRC has no seat, or User ID in kind 1 is not that seat's"
abbrev pub NoSender : Sheet → List (List ℕ) → Meaning → Type 0
NoSender s users m =
    (NoEvent m → ⊥)
    × (((r : ℕ) → HasSsrc s m.ssrc r → ⊥) ⊎ ((r : ℕ) × (m.kind ≡ 1) × HasSsrc s m.ssrc r × (HasUser s users (name_in 0 m.values) r → ⊥)))

abbrev pub SixExactly : Type 0
SixExactly = RefusedExactly 6 NoSender

-- 7: "stream's user has no seat"; the stream's user is the second name in kind 1 and the first in kind 3
abbrev pub NoStream : Sheet → List (List ℕ) → Meaning → ℕ → Type 0
NoStream s users m k = (r : ℕ) → HasUser s users (name_in k m.values) r → ⊥

abbrev pub Unseated : Sheet → List (List ℕ) → Meaning → Type 0
Unseated s users m =
    ((m.kind ≡ 1) × ((r : ℕ) × HasSsrc s m.ssrc r × HasUser s users (name_in 0 m.values) r) × NoStream s users m 1)
    ⊎ ((m.kind ≡ 3) × ((r : ℕ) × HasSsrc s m.ssrc r) × NoStream s users m 0)

abbrev pub SevenExactly : Type 0
SevenExactly = RefusedExactly 7 Unseated

-- 12 comes first; and 1 to 5 are given exactly where the reader gives them
abbrev pub ReadingRefused : Type 0
ReadingRefused =
    (s : Sheet) (users : List (List ℕ)) (p : List ℕ)
    → (valid_with s users ≡ false → event_of s users p ≡ refuses 12 0)
    × (T (valid_with s users) → (number at : ℕ) → number ≤ 5 → (event_of s users p ≡ refuses number at) ↔ (read_of s p ≡ refused number at))
