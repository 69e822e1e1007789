-- Laws of what is held, and of a line put into a buffer from it. Assumes nothing.
use mathlib.Core.Path.{◌≡◌, refl, sym, ap, ◌∙◌}
use Prim.Native.Nat.{ℕ, ◌+◌, ◌-◌, ◌≤◌, min}
use native.Mathlib.Omega.{arith}
use mathlib.Core.List.{List, [], ◌∷◌, ◌++◌, append-nil, flatten}
use lib.ListN.{length, take, replicate, length-append, length-take, length-replicate}
use lib.Dec.{leb}
use lib.Seq.{take_all, take-take, length-take-le}
use Rattle.octets.specs.Buffer.{put_at, padded}
use Rattle.octets.proofs.Choice.{pick_same}
use Rattle.octets.proofs.Buffer.{put_at-nil, put_at-next, put_at-zeros, take-padded}
use Rattle.octets.proofs.Parts.{take-both}
use Rattle.kinds.specs.declared.Numbers.{Numbers}
use Rattle.shown.specs.Line.{line_by, line_room, fitting}
use Rattle.shown.specs.Promises.{Put, put≡}
use Rattle.shown.proofs.Laws.Fits.{fitting-whole}
use Rattle.lines.specs.declared.held.Held.{Held}
use Rattle.lines.specs.Pieces.{held_in, held_of, kept_of, most_held, last_of, last_line}
use Rattle.lines.proofs.Laws.Kept.{kept-short, line_by-kept}

-- ---- what is held

-- the struct holds what it was made of
pub held_back : (xs : List ℕ) → length xs ≤ most_held → held_in (held_of xs) ≡ xs
unfolding held_in held_of
held_back xs h = take-padded most_held 0 xs

-- as many octets as there are, up to the length
pub held-length : (h : Held) → length h.octets ≡ most_held → length (held_in h) ≡ min h.len most_held
unfolding held_in
held-length h e = rw (length-take, e)

-- no more is held than decides a sheet
pub held-most : (h : Held) → length h.octets ≡ most_held → length (held_in h) ≤ most_held
held-most h e = omega (arith, held-length h e)

-- as many octets as are held
pub held_all : (h : Held) (n : ℕ) → n ≡ length (held_in h) → take n h.octets ≡ held_in h
unfolding held_in
held_all h n e = sym (take-take n h.len h.octets (omega (arith, length-take h.len h.octets))) ∙ take_all n (held_in h) (omega arith)

-- what is held and more behind it, put into a row of zeros one after the other
pub held_with : (h : Held) (ys : List ℕ) (most n m : ℕ) (octets : List ℕ) → most ≤ most_held
    → n ≡ min (length (held_in h)) most → m ≡ min (length ys) (most - n)
    → octets ≡ put_at (put_at (replicate most_held 0) 0 (take n (held_in h))) n (take m ys)
    → ◌≡◌ {A = Held} (record { octets = octets; len = n + m }) (held_of (take most (held_in h ++ ys)))
unfolding held_of
held_with h ys most n m octets l en em eo =
    let xs = held_in h in
    let a : length (take n xs) ≡ n = length-take-le n xs (omega arith) in
    let b : length (take m ys) ≡ m = length-take-le m ys (omega arith) in
    let all : take n xs ++ take m ys ≡ take most (xs ++ ys) = take-both xs ys most n m en em in
    let k : length (take n xs ++ take m ys) ≡ n + m = rw (length-append, a, b) in
    let put : octets ≡ padded most_held 0 (take most (xs ++ ys)) =
    eo
    ∙ rw (put_at-next (replicate most_held 0) 0 (take n xs) (take m ys) n (omega arith) (rw length-replicate (omega arith)), all)
    (put_at-zeros most_held (take most (xs ++ ys)) (rw (← all) (omega arith))) in
    rw (put, ← k, all)

-- nothing is held
pub held_none : (h : Held) → h ≡ held_of [] → held_in h ≡ []
held_none h e = ap held_in e ∙ held_back [] (omega arith)

-- what is kept of a line is held
pub kept_held : (line : List ℕ) → held_in (held_of (kept_of line)) ≡ kept_of line
kept_held line = held_back (kept_of line) (omega (arith, (kept-short line).1))

-- what is kept of a line prints as the line
pub kept-prints : (n : Numbers) (h : Held) (line : List ℕ) → h ≡ held_of (kept_of line) → line_by n (held_in h) ≡ line_by n line
kept-prints n h line e = ap (λ (k : Held). line_by n (held_in k)) e ∙ (ap (line_by n) (kept_held line) ∙ line_by-kept n line)

-- ---- a line is put

-- with the room that is asked for, its text is put
pub line-put : (n : Numbers) (line out : List ℕ) (at r : ℕ) (now : List ℕ) → line_room line ≤ length out - at → put≡ n line out at r now
    → Put (line_by n line) out at r now
line-put n line out at r now h e = rw (fitting-whole (line_room line) (length out) at (line_by n line) h) at e

-- and of a line that is kept with the room for the whole line
pub kept_put : (n : Numbers) (h : Held) (line out : List ℕ) (at r : ℕ) (now : List ℕ) → h ≡ held_of (kept_of line) → line_room line ≤ length out - at
    → put≡ n (held_in h) out at r now → Put (line_by n line) out at r now
kept_put n h line out at r now e room p =
    let k : held_in h ≡ kept_of line = ap held_in e ∙ kept_held line in
    let short : length (held_in h) ≤ length line = rw k (kept-short line).0 in
    rw (kept-prints n h line e) at (line-put n (held_in h) out at r now (omega arith) p)

-- ---- the last line

-- nothing is put with room and without
pub fitting-nil : (asked octets at : ℕ) → fitting asked octets at [] ≡ []
unfolding fitting
fitting-nil asked octets at = pick_same (leb asked (octets - at)) []

-- where none is begun
pub last_none : (n : Numbers) (line : List ℕ) → length line ≡ 0 → last_line n line ≡ []
unfolding last_line last_of flatten
last_none n [] e = refl
last_none n (c ∷ line) e = absurd (let z : ⊥ = omega arith in z)

-- and then nothing is put
pub no_last_put : (n : Numbers) (line out : List ℕ) (at asked octets : ℕ) → length line ≡ 0 → put_at out at (fitting asked octets at (last_line n line)) ≡ out
no_last_put n line out at asked octets e = rw (last_none n line e, fitting-nil, put_at-nil)

pub no_last_length : (n : Numbers) (line : List ℕ) (at asked octets : ℕ) → length line ≡ 0 → length (fitting asked octets at (last_line n line)) ≡ 0
no_last_length n line at asked octets e = rw (last_none n line e, fitting-nil)

-- where one is
pub last_some : (n : Numbers) (line : List ℕ) → (length line ≡ 0 → ⊥) → last_line n line ≡ line_by n line
unfolding last_line last_of flatten
last_some n [] h = absurd (h refl)
last_some n (c ∷ line) h = append-nil (line_by n (c ∷ line))
