-- Laws of the checks that the steps have in common, and of a sheet's numbers that are lent to them. Assumes nothing.
use mathlib.Core.Path.{◌≡◌, refl, sym, ap}
use mathlib.Core.Bool.{Bool, true, false, ◌&&◌}
use mathlib.Core.List.{List}
use Prim.Native.Nat.{ℕ, ◌≤◌}
use lib.ListN.{length}
use lib.Dec.{T}
use Rattle.sheet.specs.declared.Sheet.{Sheet}
use Rattle.sheet.specs.Table.{most_seats}
use Rattle.sheet.specs.Value.{sheet_by, sheet_from, sheet_in, valid_alone}
use Rattle.sheet.specs.Promises.{numbers_of≡}
use Rattle.sheet.proofs.Laws.Values.{sheet_in-counted, valid-counted, sheet_in-own}
use Rattle.streams.specs.declared.Record.{Record}
use Rattle.streams.specs.declared.Event.{Event}
use Rattle.streams.specs.declared.stream.Rules.{Rules}
use Rattle.streams.specs.Record.{rules_of, on_sheet, legal}
use Rattle.streams.specs.Table.{sender_on}
use Rattle.reception.specs.Steps.{Said, gives, refuses, check, Try, seen_of, attempt_of, reply_of}
use Rattle.reception.specs.Inner.{rules_in, admitted, past, own_seen, tried_on, settled}
use Rattle.reception.proofs.Laws.Steps.{seats-le-8, check-gives, gives_same}

-- ---- a stream that is admitted

pub record Admits (s : Sheet) (q : Rules) : Type 0 where
  pub few : q.seats ≤ 8
  pub same : rules_of s ≡ q

-- the sheet is valid, so that it has at most eight seats, and the stream is judged by its rules
pub under-admits : (s : Sheet) (stream : ℕ) (q : Rules) → gives q ≡ admitted s stream → Admits s q
unfolding admitted
under-admits s stream q p =
    let sheet = check-gives (valid_alone s) 12 (check (on_sheet (rules_of s) stream) 9 (gives (rules_of s))) q (sym p) in
    let rest = check-gives (on_sheet (rules_of s) stream) 9 (gives (rules_of s)) q sheet.1 in
    let same = gives_same rest.1 in
    record { few = rw (← same) (seats-le-8 s sheet.0); same = same }

-- ---- checks behind others

-- more to be checked for the same refusal is checked behind the others
more-past : {A B : Type 0} (valid first more : Bool) (x : A) (next : Said B)
    → check valid 12 (check (first && more) 9 next) ≡ past (check valid 12 (check first 9 (gives x))) (check more 9 next)
more-past false first more x next = refl
more-past true false more x next = refl
more-past true true more x next = refl

-- a read goes on where the stream is admitted ..
pub seen-past : (s : Sheet) (stream : ℕ) (x : Record) → seen_of s stream x ≡ past (admitted s stream) (own_seen (rules_of s) stream x)
unfolding seen_of admitted
seen-past s stream x = more-past (valid_alone s) (on_sheet (rules_of s) stream) (legal (rules_of s) stream x) (rules_of s) (gives x)

-- .. and so does a working-out
pub attempt-past : (s : Sheet) (x : Record) (e : Event) → attempt_of s x e ≡ past (admitted s e.stream) (tried_on (rules_of s) x e)
unfolding attempt_of admitted
attempt-past s x e =
    let q = rules_of s in
    more-past (valid_alone s) (on_sheet q e.stream) (sender_on q e.what && legal q e.stream x) q _

-- .. and a store
pub reply-past : (s : Sheet) (a : Try) (x : Record) → reply_of s a x ≡ past (admitted s a.stream) (settled (rules_of s) a x)
unfolding reply_of admitted settled
reply-past s a x =
    let q = rules_of s in
    let good = legal q a.stream in
    more-past (valid_alone s) (on_sheet q a.stream) (good x && (good a.seen && good a.wanted)) q _

-- each of them by the rules that it is judged by
pub seen_under : (s : Sheet) (stream : ℕ) (x : Record) (q : Rules) → gives q ≡ admitted s stream → seen_of s stream x ≡ own_seen q stream x
seen_under s stream x q p = rw (seen-past s stream x, ← p, (under-admits s stream q p).same)

pub attempt_under : (s : Sheet) (x : Record) (e : Event) (q : Rules) → gives q ≡ admitted s e.stream → attempt_of s x e ≡ tried_on q x e
attempt_under s x e q p = rw (attempt-past s x e, ← p, (under-admits s e.stream q p).same)

pub reply_under : (s : Sheet) (a : Try) (x : Record) (q : Rules) → gives q ≡ admitted s a.stream → reply_of s a x ≡ settled q a x
reply_under s a x q p = rw (reply-past s a x, ← p, (under-admits s a.stream q p).same)

-- and is refused where it is not
pub seen_refused : (s : Sheet) (stream : ℕ) (x : Record) (number at : ℕ) → refuses number at ≡ admitted s stream → seen_of s stream x ≡ refuses number at
seen_refused s stream x number at p = rw (seen-past s stream x, ← p)

pub attempt_refused : (s : Sheet) (x : Record) (e : Event) (number at : ℕ) → refuses number at ≡ admitted s e.stream → attempt_of s x e ≡ refuses number at
attempt_refused s x e number at p = rw (attempt-past s x e, ← p)

pub reply_refused : (s : Sheet) (a : Try) (x : Record) (number at : ℕ) → refuses number at ≡ admitted s a.stream → reply_of s a x ≡ refuses number at
reply_refused s a x number at p = rw (reply-past s a x, ← p)

-- ---- numbers that are lent

-- the limit and the seats among numbers that a valid sheet has
pub rules_lent : (ns : List ℕ) → T (valid_alone (sheet_in ns)) → rules_in ns ≡ rules_of (sheet_in ns)
unfolding sheet_from sheet_by
rules_lent ns v = ap rules_of (sym (sheet_in-counted ns (valid-counted ns v)))

-- a struct's own numbers stand for it
pub lent_own : (s : Sheet) (ns : List ℕ) → length s.ssrcs ≡ 8 → numbers_of≡ s ns → sheet_in ns ≡ s
unfolding most_seats
lent_own s ns eight e = sheet_in-own s ns eight e
