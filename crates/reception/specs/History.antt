-- What the history of a stream's taken events says of its count: the seats that were granted since it last went from free to open, with no
-- end by that seat and no release of the stream since that seat's latest grant. It goes by the list of events with their answers
-- alone, seat by seat and by positions. Assumes nothing.
use Rattle.std.specs.Prelude.{ℕ, zero, suc, Bool, false, not, ◌&&◌, List, [], ◌∷◌, ◌++◌, length, drop, eqb}
use Rattle.octets.specs.Choice.{some_of, keep}
use Rattle.sheet.specs.Table.{most_seats}
use Rattle.streams.specs.Table.{Answered, grants_at, undoes_at}

-- the events of one stream
unfoldable pub of_stream : ℕ → List Answered → List Answered
of_stream s ts = keep (λ (t : Answered). eqb t.event.stream s) ts

-- ---- what the history says of a seat

-- the places of a list that is so long
unfoldable pub places : ℕ → List ℕ
places zero = []
places (suc n) = places n ++ (n ∷ [])

-- the first event grants, and no later one undoes
unfoldable pub lasts : ℕ → List Answered → Bool
lasts r [] = false
lasts r (t ∷ later) = grants_at r t && not (some_of (undoes_at r) later)

-- at some position it asked and was granted, and at no later position there is an end by it, a release, or an opening that opened
unfoldable pub shown : ℕ → List Answered → Bool
shown r ts = some_of (λ (i : ℕ). lasts r (drop i ts)) (places (length ts))

-- the number of such seats
unfoldable pub shown_count : List Answered → ℕ
shown_count ts = length (keep (λ (r : ℕ). shown r ts) (places most_seats))
