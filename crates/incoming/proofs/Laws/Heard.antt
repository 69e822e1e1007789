-- Laws of what is heard: the names of a message lie in the packet, and the event goes by what the packet asks. Assumes nothing.
use mathlib.Core.Path.{◌≡◌, refl, ap}
use mathlib.Core.Bool.{Bool, true, false}
use mathlib.Core.List.{List, map}
use Prim.Native.Nat.{ℕ, ◌+◌, ◌≤◌}
use lib.ListN.{length, take, drop, get_or, get_or-map}
use lib.Dec.{T, leb, leb→le, eqb}
use borrow.Author.Tests.{le-leb}
use Rattle.octets.specs.Choice.{pick}
use Rattle.octets.proofs.Choice.{T_true, true-T, T-and-left, every-get_or-or}
use Rattle.sheet.specs.declared.Sheet.{Sheet}
use Rattle.seats.specs.declared.Senders.{Senders}
use Rattle.sheet.specs.Judge.{user_id}
use Rattle.sheet.specs.Value.{valid_alone, valid_with}
use Rattle.sheet.proofs.Laws.Seats.{valid-alone}
use Rattle.packet.specs.declared.Name.{Name}
use Rattle.kinds.specs.declared.Numbers.{Numbers}
use Rattle.kinds.specs.Kind.{numbers_of}
use Rattle.kinds.specs.Judge.{absent}
use Rattle.packet.specs.Claims.{name_right}
use Rattle.packet.specs.Message.{name_said}
use Rattle.kinds.specs.Reading.{Outcome, reads, refused, read_by, read_of}
use Rattle.packet.specs.Asked.{Asks, request, end, end_response, nothing, asks_of}
use Rattle.packet.specs.Meaning.{value_in, name_held}
use Rattle.packet.proofs.Laws.NamesInside.{names_right-by}
use Rattle.streams.specs.declared.What.TheVariants.{End}
use Rattle.reception.specs.Steps.{refuses}
use Rattle.incoming.specs.Event.{name_in, on_stream, request_by, end_response_on, by_sender, heard, event_from, event_of, senders_of}
use Rattle.incoming.specs.Inner.{octets_at, NamesRight, AsksRight, called, answer_to}

-- ---- the names of a message

module _ (p : List ℕ) (n : Name) (right : T (name_right p (name_said n))) where
  -- a name that is right ends in the packet
  pub name-ends : n.at + n.len ≤ length p
  unfolding name_right
  name-ends =
      leb→le (n.at + n.len) (length p) (T-and-left (leb (n.at + n.len) (length p)) (user_id (take n.len (drop n.at p))) right)

  -- so that its octets are what it says
  pub name_spelt : name_held (value_in p (name_said n)) ≡ octets_at p n
  unfolding value_in
  name_spelt = rw (le-leb (n.at + n.len) (length p) name-ends)

-- the names of what is read are right
pub read_names : (numbers : Numbers) (p : List ℕ) (o : Outcome) → read_by numbers p ≡ o → NamesRight p o
read_names numbers p (reads kind ssrc ack held) e = names_right-by numbers p kind ssrc ack held e
read_names numbers p (refused number at) e = tt

-- ---- what a packet asks

-- the event goes by that alone
event-asks : (q : Senders) (users : List (List ℕ)) (p : List ℕ) (o : Outcome) → event_from q users p o ≡ answer_to q users p (asks_of o)
unfolding event_from asks_of
event-asks q users p (refused number at) = refl
event-asks q users p (reads kind ssrc ack held) = unfold heard in by (eqb kind 1) (eqb kind 3) (eqb kind 6)
  where
    -- the name at a place
    at : (k : ℕ) → name_in k (map (value_in p) held) ≡ called p (get_or held k absent)
    at k = unfold value_in in ap name_held (get_or-map (value_in p) held k absent)

    by : (one three six : Bool)
        → pick one (by_sender q ssrc (request_by q.seats users (name_in 0 (map (value_in p) held)) (name_in 1 (map (value_in p) held))))
        (pick three (by_sender q ssrc (λ r. on_stream q.seats users (name_in 0 (map (value_in p) held)) (End r)))
        (pick six (by_sender q ssrc (end_response_on ack)) (refuses 8 0)))
        ≡ answer_to q users p
        (pick one (request ssrc (get_or held 0 absent) (get_or held 1 absent)) (pick three (end ssrc (get_or held 0 absent)) (pick six (end_response ssrc ack) nothing)))
    by true three six = simp (at 0, at 1)
    by false true six = simp (at 0)
    by false false true = refl
    by false false false = refl

-- ---- the names of what is asked

-- each is right
asks_right : (p : List ℕ) (o : Outcome) → NamesRight p o → AsksRight p (asks_of o)
unfolding asks_of
asks_right p (refused number at) t = tt
asks_right p (reads kind ssrc ack held) t = by (eqb kind 1) (eqb kind 3) (eqb kind 6)
  where
    at : (k : ℕ) → T (name_right p (get_or held k absent))
    at k = unfold name_right in every-get_or-or (name_right p) held k absent t tt

    by : (one three six : Bool)
        → AsksRight p
        (pick one (request ssrc (get_or held 0 absent) (get_or held 1 absent)) (pick three (end ssrc (get_or held 0 absent)) (pick six (end_response ssrc ack) nothing)))
    by true three six = (at 0, at 1)
    by false true six = at 0
    by false false true = tt
    by false false false = tt

-- ---- what a packet asks under a sheet, as the reader says it

-- each name of it is right
pub asked_right : (n : Numbers) (p : List ℕ) (a : Asks) → a ≡ asks_of (read_by n p) → AsksRight p a
asked_right n p a said = rw said (asks_right p (read_by n p) (read_names n p (read_by n p) refl))

module _ (s : Sheet) (users : List (List ℕ)) (p : List ℕ) where
  -- a sheet's value, which is a sheet's struct too: the event goes by what is asked
  pub asked_event : valid_with s users ≡ true → (a : Asks) → a ≡ asks_of (read_by (numbers_of s) p) → event_of s users p ≡ answer_to (senders_of s) users p a
  unfolding event_of read_of
  asked_event e a said =
      rw (e, T_true (valid_alone s) (valid-alone s users (true-T (valid_with s users) e)), said) (event-asks (senders_of s) users p (read_by (numbers_of s) p))

  -- no sheet's value
  pub event-invalid : valid_with s users ≡ false → event_of s users p ≡ refuses 12 0
  unfolding event_of
  event-invalid e = rw e
