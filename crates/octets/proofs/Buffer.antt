-- Laws of a lent buffer that is overwritten from its front, or at a place: what comes after is put where the last put ended.
-- Assumes nothing.
use mathlib.Core.Path.{◌≡◌, refl, sym, ap, ◌∙◌}
use mathlib.Core.Logic.{⊎_elim}
use Prim.Native.Nat.{ℕ, zero, suc, ◌+◌, ◌-◌, ◌≤◌, ◌<◌}
use native.Mathlib.Nat.{zero-add, add-zero, add_assoc, sub-zero, add-sub_of_le, sub-eq-zero_of_le}
use native.Mathlib.Numerals.{add-one}
use native.Mathlib.Omega.{arith}
use mathlib.Core.List.{List, [], ◌∷◌, ◌++◌, append-nil, append_assoc}
use lib.ListN.{length, get_or, set, take, drop, replicate, take-append-drop, length-append, length-drop, length-take, length-replicate, drop_of_length-le, get_or-eq_default}
use lib.Seq.{take_all, take-take, take-append_seam, take-suc, drop-append_seam, set-append_seam, drop-append-add, drop-append-le, drop-drop, drop-cons, set_split, set_out, length-take-le, take_at, drop_at, get_or-drop, get_or-take, ext_get_or}
use lib.Dec.{T, eqb, eqb→eq}
use borrow.Author.Tests.{le-leb, lt-leb}
use Rattle.std.proofs.lemmas.List.{drop-replicate}
use Rattle.octets.specs.Choice.{same}
use Rattle.octets.specs.Buffer.{over, put_at, zeros_from, padded}
use Rattle.octets.proofs.Choice.{le-or-lt, test-eq, same-eq, eq-same, every-get_or, get_or-every, every-replicate}

-- ---- a buffer overwritten from its front

-- the octets stand in front
pub take-over : (xs s : List ℕ) → take (length xs) (over xs s) ≡ xs
unfolding over
take-over xs s = take-append_seam xs (drop (length xs) s)

-- what stood past them is left alone
pub drop-over : (xs s : List ℕ) → drop (length xs) (over xs s) ≡ drop (length xs) s
unfolding over
drop-over xs s = drop-append_seam xs (drop (length xs) s)

-- the part past the first octets is overwritten by the next
pub over-then : (xs ys s : List ℕ) → take (length xs) (over xs s) ++ over ys (drop (length xs) (over xs s)) ≡ over (xs ++ ys) s
over-then xs ys s = rw (take-over, drop-over) (unfold over in simp (length-append, drop-drop, append_assoc))

-- octets that go into the part behind the first n, and what comes back
pub part-over : (n : ℕ) (xs ys s : List ℕ) → length xs ≡ n
    → take n (over xs s) ++ (over ys (take (length (over xs s) - n) (drop n (over xs s))) ++ drop (length (over xs s) - n) (drop n (over xs s)))
    ≡ over (xs ++ ys) s
part-over n xs ys s e =
    let rest = drop n (over xs s) in
    let l : length rest ≤ length (over xs s) - n = omega (arith, length-drop n (over xs s)) in
    rw (take_all (length (over xs s) - n) rest l, drop_of_length-le rest l, append-nil, ← e) (over-then xs ys s)

-- ---- octets put at a place

-- they fit: what stands before the place, the octets, what stood past them
pub put_at-fits : (s : List ℕ) (at : ℕ) (xs : List ℕ) → at + length xs ≤ length s → put_at s at xs ≡ take at s ++ xs ++ drop (at + length xs) s
unfolding put_at over
put_at-fits s at xs h = simp (le-leb (at + length xs) (length s) h, drop-drop, append_assoc)

-- they do not fit: nothing is put
pub put_at-no_room : (s : List ℕ) (at : ℕ) (xs : List ℕ) → length s < at + length xs → put_at s at xs ≡ s
unfolding put_at
put_at-no_room s at xs h = rw (lt-leb (at + length xs) (length s) h)

-- what holds of the buffer where they fit, and where they do not, holds of it
pub put_at-cases {κ} : (P : List ℕ → Type κ) (s : List ℕ) (at : ℕ) (xs : List ℕ)
    → (at + length xs ≤ length s → P (take at s ++ xs ++ drop (at + length xs) s)) → (length s < at + length xs → P s) → P (put_at s at xs)
put_at-cases P s at xs f g =
    ⊎_elim (λ h. rw (put_at-fits s at xs h) (f h)) (λ h. rw (put_at-no_room s at xs h) (g h)) (le-or-lt (at + length xs) (length s))

-- the length stays
pub length-put_at : (s : List ℕ) (at : ℕ) (xs : List ℕ) → length (put_at s at xs) ≡ length s
length-put_at s at xs =
    put_at-cases (λ r. length r ≡ length s) s at xs (λ h. simp (length-append, length-take, length-drop) (omega arith)) (λ h. refl)

-- one octet is a store
pub put_at-one : (s : List ℕ) (at y : ℕ) → put_at s at (y ∷ []) ≡ set s at y
put_at-one s at y =
    put_at-cases (λ r. r ≡ set s at y) s at (y ∷ [])
    (λ h. rw (set_split s at y (omega arith), add-one, append_assoc))
    (λ h. sym (set_out s at y (omega arith)))

-- what stands before the place is left alone
pub take-put_at : (s : List ℕ) (at : ℕ) (xs : List ℕ) → take at (put_at s at xs) ≡ take at s
take-put_at s at xs =
    put_at-cases (λ r. take at r ≡ take at s) s at xs
    (λ h. rw append_assoc (take_at (take at s) (xs ++ drop (at + length xs) s) at (length-take-le at s (omega arith))))
    (λ h. refl)

-- the octets and what stands before them are as long as the place and they say
length-put : (s : List ℕ) (at : ℕ) (xs : List ℕ) → at + length xs ≤ length s → length (take at s ++ xs) ≡ at + length xs
length-put s at xs h = simp (length-append, length-take-le at s (omega arith))

-- octets put just past the last ones
pub put_at-then : (s : List ℕ) (at : ℕ) (xs ys : List ℕ) → at + length xs + length ys ≤ length s
    → put_at (put_at s at xs) (at + length xs) ys ≡ put_at s at (xs ++ ys)
put_at-then s at xs ys h =
    let l : length (take at s ++ xs) ≡ at + length xs = length-put s at xs (omega arith) in
    rw (put_at-fits s at xs (omega arith), put_at-fits s at (xs ++ ys) (simp length-append (omega arith)))
    (rw (put_at-fits (take at s ++ xs ++ drop (at + length xs) s) (at + length xs) ys (simp (length-append, length-take, length-drop) (omega arith)))
    (rw (take_at (take at s ++ xs) (drop (at + length xs) s) (at + length xs) l, ← l, drop-append-add, l)
    (simp (drop-drop, length-append, append_assoc, add_assoc))))

-- a store just past the last ones
pub set-put_at : (s : List ℕ) (at : ℕ) (xs : List ℕ) (y : ℕ) → at + length xs < length s
    → set (put_at s at xs) (at + length xs) y ≡ put_at s at (xs ++ (y ∷ []))
set-put_at s at xs y h = rw (← put_at-one) (put_at-then s at xs (y ∷ []) (omega arith))

-- nothing put leaves the buffer alone
pub put_at-nil : (s : List ℕ) (at : ℕ) → put_at s at [] ≡ s
put_at-nil s at = put_at-cases (λ r. r ≡ s) s at [] (λ h. rw (append-nil, add-zero, take-append-drop)) (λ h. refl)

-- one octet more
pub set-put_at-take : (xs s : List ℕ) (at i : ℕ) → i < length xs → at + length xs ≤ length s
    → set (put_at s at (take i xs)) (at + i) (get_or xs i 0) ≡ put_at s at (take (i + 1) xs)
set-put_at-take xs s at i h l =
    let e : length (take i xs) ≡ i = length-take-le i xs (omega arith) in
    rw (add-one, take-suc xs i 0 h) (rw e at (set-put_at s at (take i xs) (get_or xs i 0) (rw e (omega arith))))

-- octets put at the place just past the last ones
pub put_at-next : (s : List ℕ) (at : ℕ) (xs ys : List ℕ) (next : ℕ) → next ≡ at + length xs → next + length ys ≤ length s
    → put_at (put_at s at xs) next ys ≡ put_at s at (xs ++ ys)
put_at-next s at xs ys next e h = rw e (put_at-then s at xs ys (omega arith))

-- octets behind two that are stored one by one
pub put_at-pair : (s : List ℕ) (at x y : ℕ) (xs : List ℕ) → at + 2 + length xs ≤ length s
    → put_at (set (set s at x) (at + 1) y) (at + 2) xs ≡ put_at s at (x ∷ y ∷ xs)
put_at-pair s at x y xs h =
    rw (← put_at-one s at x, set-put_at s at (x ∷ []) y (omega arith)) (put_at-then s at (x ∷ y ∷ []) xs h)

-- octets put over the front of those that were put before: what they leave of them stands behind
pub put_at-under : (s : List ℕ) (at k : ℕ) (xs zs : List ℕ) → k ≤ length xs → length xs ≤ k + length zs → at + k + length zs ≤ length s
    → put_at (put_at s (at + k) zs) at xs ≡ put_at s at (xs ++ drop (length xs - k) zs)
put_at-under s at k xs zs h l room =
    let t = put_at s (at + k) zs in
    let rest = drop (at + k + length zs) s in
    let n = length xs - k in
    let end : at + length (xs ++ drop n zs) ≡ at + k + length zs = simp (length-append, length-drop) (omega arith) in
    let front : take at t ≡ take at s =
    sym (take-take at (at + k) t (omega arith)) ∙ (ap (take at) (take-put_at s (at + k) zs) ∙ take-take at (at + k) s (omega arith)) in
    let from : drop (at + k) t ≡ zs ++ rest =
    rw (put_at-fits s (at + k) zs room, append_assoc) (drop_at (take (at + k) s) (zs ++ rest) (at + k) (length-take-le (at + k) s (omega arith))) in
    let behind : drop (at + length xs) t ≡ drop n zs ++ rest =
    ap (λ (i : ℕ). drop i t) (let e : at + length xs ≡ at + k + n = omega arith in e) ∙ (sym (drop-drop n (at + k) t) ∙ (ap (drop n) from ∙ drop-append-le n zs rest (omega arith))) in
    rw (put_at-fits t at xs (rw length-put_at (omega arith)), front, behind, put_at-fits s at (xs ++ drop n zs) (omega arith), end)
    (simp append_assoc)

-- a buffer overwritten from its front has the octets put at its start
pub over-put_at : (xs s : List ℕ) → length xs ≤ length s → over xs s ≡ put_at s 0 xs
unfolding over
over-put_at xs s h = rw (put_at-fits s 0 xs (omega arith), zero-add)

-- a store just before octets that were put
pub set-before-put_at : (s : List ℕ) (at y : ℕ) (zs : List ℕ) → at + 1 + length zs ≤ length s
    → set (put_at s (at + 1) zs) at y ≡ put_at s at (y ∷ zs)
set-before-put_at s at y zs h = rw (← put_at-one) (put_at-under s at 1 (y ∷ []) zs (omega arith) (omega arith) h)

-- one octet more, from the last backwards
pub set-put_at-drop : (xs s : List ℕ) (at i : ℕ) → i < length xs → at + length xs ≤ length s
    → set (put_at s (at + (i + 1)) (drop (i + 1) xs)) (at + i) (get_or xs i 0) ≡ put_at s (at + i) (drop i xs)
set-put_at-drop xs s at i h l =
    rw (drop-cons xs i 0 h, ← add-one i, ← add_assoc)
    (set-before-put_at s (at + i) (get_or xs i 0) (drop (i + 1) xs) (rw length-drop (omega arith)))

-- octets, others just past them, and a store just past those
pub set-put_at-then : (s : List ℕ) (at : ℕ) (xs ys : List ℕ) (y : ℕ) → at + (length xs + (length ys + 1)) ≤ length s
    → set (put_at (put_at s at xs) (at + length xs) ys) (at + length xs + length ys) y ≡ put_at s at (xs ++ (ys ++ (y ∷ [])))
set-put_at-then s at xs ys y h =
    let end : at + length xs + length ys ≡ at + length (xs ++ ys) = rw length-append (omega arith) in
    rw (put_at-then s at xs ys (omega arith), end, ← append_assoc) (set-put_at s at (xs ++ ys) y (omega arith))

-- octets put at a place and more just past them, and the place past both
pub put_both : (out : List ℕ) (at : ℕ) (xs ys mid : List ℕ) (next : ℕ) (now : List ℕ) (end : ℕ) → mid ≡ put_at out at xs → next ≡ at + length xs
    → now ≡ put_at mid next ys → end ≡ next + length ys → next + length ys ≤ length out
    → (now ≡ put_at out at (xs ++ ys)) × (end ≡ at + length (xs ++ ys))
put_both out at xs ys mid next now end m n p q room =
    (p ∙ rw m (put_at-next out at xs ys next n room), rw length-append (omega arith))

-- ---- a number put at a place

-- ---- zeros to the end

-- each octet from the place on is zero
pub zeros_from-get_or : (s : List ℕ) (at i : ℕ) → T (zeros_from s at) → at ≤ i → get_or s i 0 ≡ 0
unfolding zeros_from
zeros_from-get_or s at i t h =
    ⊎_elim
    (λ l. get_or-eq_default s 0 l)
    (λ (l : i < length s). eqb→eq (get_or s i 0) 0
    (rw (get_or-drop, add-sub_of_le h) at (every-get_or (λ (x : ℕ). eqb x 0) (drop at s) (i - at) 0 t (rw length-drop (omega arith)))))
    (le-or-lt (length s) i)

-- where each is zero, the test holds
pub get_or-zeros_from : (s : List ℕ) (at : ℕ) → ((i : ℕ) → at ≤ i → i < length s → get_or s i 0 ≡ 0) → T (zeros_from s at)
unfolding zeros_from
get_or-zeros_from s at h =
    get_or-every (λ (x : ℕ). eqb x 0) (drop at s) 0
    (λ i l. rw (get_or-drop, h (at + i) (omega arith) (omega (arith, length-drop at s))) tt)

-- ---- a list filled up to n elements

get_or-replicate-self {ℓ} : {A : Type ℓ} (k i : ℕ) (a : A) → get_or (replicate k a) i a ≡ a
get_or-replicate-self zero i a = refl
get_or-replicate-self (suc k) zero a = refl
get_or-replicate-self (suc k) (suc i) a = get_or-replicate-self k i a

get_or-append-replicate {ℓ} : {A : Type ℓ} (xs : List A) (k i : ℕ) (a : A) → get_or (xs ++ replicate k a) i a ≡ get_or xs i a
get_or-append-replicate [] k i a = get_or-replicate-self k i a
get_or-append-replicate (x ∷ xs) k zero a = refl
get_or-append-replicate (x ∷ xs) k (suc i) a = get_or-append-replicate xs k i a

module _ {ℓ} {A : Type ℓ} (n : ℕ) (a : A) where
  -- from nothing
  pub padded-nil : padded n a [] ≡ replicate n a
  unfolding padded
  padded-nil = rw sub-zero

  -- a list that is full already
  pub padded-full : (xs : List A) → n ≤ length xs → padded n a xs ≡ xs
  unfolding padded
  padded-full xs h = rw (sub-eq-zero_of_le h) (append-nil xs)

  -- elements that fit make n of them
  pub length-padded : (xs : List A) → length xs ≤ n → length (padded n a xs) ≡ n
  unfolding padded
  length-padded xs h = simp (length-append, length-replicate) (omega arith)

  -- the elements stand in front
  pub take-padded : (xs : List A) → take (length xs) (padded n a xs) ≡ xs
  unfolding padded
  take-padded xs = take-append_seam xs (replicate (n - length xs) a)

  -- past them it is filled up
  pub drop-padded : (xs : List A) → drop (length xs) (padded n a xs) ≡ replicate (n - length xs) a
  unfolding padded
  drop-padded xs = drop-append_seam xs (replicate (n - length xs) a)

  -- what fills it up is the default
  pub get_or-padded : (xs : List A) (i : ℕ) → get_or (padded n a xs) i a ≡ get_or xs i a
  unfolding padded
  get_or-padded xs i = get_or-append-replicate xs (n - length xs) i a

  -- a store just past the elements
  pub set-padded : (xs : List A) (y : A) → length xs < n → set (padded n a xs) (length xs) y ≡ padded n a (xs ++ (y ∷ []))
  unfolding padded
  set-padded xs y h =
      let e : n - length xs ≡ suc (n - (length xs + 1)) = omega arith in
      rw (e, set-append_seam, length-append, append_assoc)

-- zeros fill up a list of octets
pub zeros_from-padded : (n : ℕ) (xs : List ℕ) → T (zeros_from (padded n 0 xs) (length xs))
unfolding zeros_from
zeros_from-padded n xs = rw (drop-padded n 0 xs) (every-replicate (λ (x : ℕ). eqb x 0) (n - length xs) 0 tt)

-- a buffer with zeros from a place on is what stands before it, filled up
pub padded-zeros_from : (s : List ℕ) (at : ℕ) → T (zeros_from s at) → at ≤ length s → padded (length s) 0 (take at s) ≡ s
padded-zeros_from s at t h =
    let l : length (take at s) ≡ at = length-take-le at s h in
    ext_get_or 0 (padded (length s) 0 (take at s)) s (length-padded (length s) 0 (take at s) (omega arith))
    (λ i _. get_or-padded (length s) 0 (take at s) i ∙ ⊎_elim (past i) (λ before. get_or-take at s i 0 before) (le-or-lt at i))
  where
    past : (i : ℕ) → at ≤ i → get_or (take at s) i 0 ≡ get_or s i 0
    past i h' = rw (get_or-eq_default (take at s) 0 {n = i} (omega (arith, length-take-le at s h)), zeros_from-get_or s at i t h')

-- a list is its front filled up with zeros exactly if zeros stand behind the front
pub same-padded : (s : List ℕ) (at : ℕ) → at ≤ length s → same s (padded (length s) 0 (take at s)) ≡ zeros_from s at
same-padded s at h =
    let p = padded (length s) 0 (take at s) in
    test-eq (same s p) (zeros_from s at)
    (λ t. rw (← same-eq s p t, length-take-le at s h) at (zeros_from-padded (length s) (take at s)))
    (λ z. eq-same s p (sym (padded-zeros_from s at z h)))

-- a row of zeros overwritten from its front is what was put there, filled up
pub put_at-zeros : (k : ℕ) (xs : List ℕ) → length xs ≤ k → put_at (replicate k 0) 0 xs ≡ padded k 0 xs
unfolding padded
put_at-zeros k xs h = rw (put_at-fits (replicate k 0) 0 xs (rw length-replicate (omega arith)), zero-add, drop-replicate)
