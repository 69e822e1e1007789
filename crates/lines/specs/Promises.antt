-- What each public function promises, one predicate a function, NAME≡: the equations that its answer and its lent buffer afterwards
-- meet, for every input. Beside it, NAME-once: no second answer and no second buffer meet it. Assumes nothing.
use Rattle.std.specs.Prelude.{◌≡◌, ℕ, ◌-◌, ◌*◌, min, Bool, List, [], ◌++◌, length, take, leb}
use Rattle.octets.specs.Choice.{pick}
use Rattle.octets.specs.Promises.{one_value}
use Rattle.kinds.specs.declared.Numbers.{Numbers}
use Rattle.shown.specs.Line.{line_room, fitting}
use Rattle.shown.specs.Promises.{Put, one_put}
use Rattle.lines.specs.declared.held.Held.{Held}
use Rattle.lines.specs.declared.Kept.{Kept}
use Rattle.lines.specs.Pieces.{left_from, lines_text, last_line, lines_room, most_held, kept_of, held_in, held_of}

-- ---- what is held

-- nothing
abbrev pub none≡ : Held → Type 0
none≡ r = r ≡ held_of []

pub none-once : (x y : Held) → none≡ x → none≡ y → x ≡ y
none-once x y p q = one_value x y p q

-- the octets
abbrev pub as_slice≡ : Held → List ℕ → Type 0
as_slice≡ held r = r ≡ held_in held

pub as_slice-once : (held : Held) (x y : List ℕ) → as_slice≡ held x → as_slice≡ held y → x ≡ y
as_slice-once held x y p q = one_value x y p q

-- more behind it, as far as so many octets
abbrev pub with≡ : Held → List ℕ → ℕ → Held → Type 0
with≡ held more most r = r ≡ held_of (take (min most most_held) (held_in held ++ more))

pub with-once : (held : Held) (more : List ℕ) (most : ℕ) (x y : Held) → with≡ held more most x → with≡ held more most y → x ≡ y
with-once held more most x y p q = one_value x y p q

-- ---- lines put at a place of a buffer

-- whether ten octets for each of so many stand behind the place
abbrev pub has_room≡ : ℕ → ℕ → ℕ → Bool → Type 0
has_room≡ out at octets r = r ≡ leb (10 * octets) (out - at)

pub has_room-once : (out at octets : ℕ) (x y : Bool) → has_room≡ out at octets x → has_room≡ out at octets y → x ≡ y
has_room-once out at octets x y p q = one_value x y p q

-- what is held then
unfoldable pub kept_then : Held → List ℕ → List ℕ → ℕ → Held
kept_then held piece out at =
    pick (leb (lines_room (held_in held) piece) (length out - at)) (held_of (kept_of (left_from (held_in held) piece))) held

-- the lines that end in a piece
abbrev pub put_lines≡ : Numbers → Held → List ℕ → List ℕ → ℕ → Kept → List ℕ → Type 0
put_lines≡ n held piece out at r now =
    Put (fitting (lines_room (held_in held) piece) (length out) at (lines_text n (held_in held) piece)) out at r.end now
    × (r.held ≡ kept_then held piece out at)

pub put_lines-once : (n : Numbers) (held : Held) (piece out : List ℕ) (at : ℕ) (x y : Kept) (now other : List ℕ)
    → put_lines≡ n held piece out at x now → put_lines≡ n held piece out at y other → (x ≡ y) × (now ≡ other)
put_lines-once n held piece out at x y now other e f =
    let one = one_put (fitting (lines_room (held_in held) piece) (length out) at (lines_text n (held_in held) piece)) out at x.end y.end now other e.0 f.0 in
    (λ i. record { held = one_value x.held y.held e.1 f.1 i; end = one.0 i }, one.1)

-- the last line
abbrev pub put_last≡ : Numbers → Held → List ℕ → ℕ → ℕ → List ℕ → Type 0
put_last≡ n held out at r now = Put (fitting (line_room (held_in held)) (length out) at (last_line n (held_in held))) out at r now

pub put_last-once : (n : Numbers) (held : Held) (out : List ℕ) (at : ℕ) (x y : ℕ) (now other : List ℕ)
    → put_last≡ n held out at x now → put_last≡ n held out at y other → (x ≡ y) × (now ≡ other)
put_last-once n held out at x y now other e f =
    one_put (fitting (line_room (held_in held)) (length out) at (last_line n (held_in held))) out at x y now other e f
