-- Laws of an answer as it is made. Assumes nothing.
use mathlib.Core.Path.{◌≡◌, refl, sym, ap}
use mathlib.Core.List.{List, [], ◌∷◌, ◌++◌, append_assoc, append-nil}
use Prim.Native.Nat.{ℕ, ◌+◌, ◌-◌, ◌≤◌, ◌<◌, min}
use native.Mathlib.Omega.{arith}
use native.Mathlib.Numerals.{add-one}
use lib.ListN.{length, get_or, take}
use native.Mathlib.Nat.{div-div-eq-div-mul}
use lib.Seq.{take_all, take-length, take-suc, length-take-le}
use Rattle.std.specs.Int.{w64, to_be_bytes}
use Rattle.octets.specs.Big.{big_of}
use Rattle.octets.proofs.Parts.{take-take-append, take-both}
use Rattle.asked.specs.Reply.{with_more, words}

-- octets put behind so many of a row, as far as there is room
pub with-room : (row octets : List ℕ) (len fit : ℕ) → length row ≡ 1020 → len ≤ 1020 → fit ≡ min (length octets) (1020 - len)
    → take len row ++ take fit octets ≡ with_more (take len row) octets
unfolding with_more
with-room row octets len fit whole room few =
    let long : length (take len row) ≡ len = length-take-le len row (omega arith) in
    rw (take_all len (take len row) (omega arith)) at (take-both (take len row) octets 1020 len fit (omega arith) few)

-- ---- numbers one behind the other

words-append : (w : ℕ) (ms ns : List ℕ) → words w (ms ++ ns) ≡ words w ms ++ words w ns
unfolding words
words-append w [] ns = refl
words-append w (m ∷ ms) ns = rw (words-append w ms ns) (sym (append_assoc (big_of w m) (words w ms) (words w ns)))

words-more : (w : ℕ) (ns : List ℕ) (k : ℕ) → k < length ns → words w (take (k + 1) ns) ≡ words w (take k ns) ++ big_of w (get_or ns k 0)
unfolding words
words-more w ns k h = rw (add-one, take-suc ns k 0 h, words-append) (ap (λ l. words w (take k ns) ++ l) (append-nil (big_of w (get_or ns k 0))))

-- before the first
pub words_start : (w : ℕ) (octets ns : List ℕ) → length octets ≤ 1020 → octets ≡ with_more octets (words w (take 0 ns))
unfolding with_more words
words_start w octets ns h = rw append-nil (sym (take_all 1020 octets h))

-- one more
pub words_more : (w : ℕ) (now first ns octets : List ℕ) (k n : ℕ) → now ≡ with_more first (words w (take k ns)) → k < length ns → n ≡ get_or ns k 0
    → octets ≡ big_of w n → with_more now octets ≡ with_more first (words w (take (k + 1) ns))
unfolding with_more
words_more w now first ns octets k n so h is made =
    rw (so, take-take-append, append_assoc, made, is, ← words-more w ns k h)

-- after the last
pub words_end : (w : ℕ) (first ns : List ℕ) → with_more first (words w (take (length ns) ns)) ≡ with_more first (words w ns)
words_end w first ns = rw take-length

pub big_of-eight : (n : ℕ) → to_be_bytes w64 n ≡ big_of 8 n
unfolding big_of
big_of-eight n = simp div-div-eq-div-mul refl
