-- Laws of how much room a printed line takes: no octet of the input makes more than ten of the output. Assumes nothing.
use mathlib.Core.Path.{◌≡◌, refl, sym, ap, ◌∙◌}
use mathlib.Core.Bool.{Bool, ◌&&◌}
use mathlib.Core.List.{List, [], map}
use mathlib.Core.Option.{Option, none, some}
use Prim.Native.Nat.{ℕ, ◌+◌, ◌-◌, ◌*◌, ◌%◌, ◌≤◌, ◌<◌}
use native.Mathlib.Nat.{zero-add}
use native.Mathlib.Omega.{arith}
use lib.ListN.{length, length-append}
use lib.Dec.{T, leb, eqb, leb→le}
use borrow.Author.Tests.{le-leb, lt-leb}
use Rattle.std.specs.Prelude.{Ok, Err}
use Rattle.octets.specs.Hex.{is_hex, hex_octets}
use Rattle.octets.specs.Text.{decimal}
use Rattle.octets.proofs.Choice.{T-and-left, T-and-right, pick-cases}
use Rattle.octets.proofs.Buffer.{over-put_at}
use Rattle.octets.proofs.Hex.{is_hex-even, length-hex_octets, hex_octets-lt}
use Rattle.octets.proofs.Text.{length-decimal-le}
use Rattle.fields.specs.Header.{first_field, word, size_right, head_right, ack_asked}
use Rattle.fields.specs.Walk.{fields_of, whole}
use Rattle.fields.specs.Claims.{Headed}
use Rattle.kinds.specs.declared.Numbers.{Numbers}
use Rattle.kinds.specs.Kind.{Kind, kind_of}
use Rattle.kinds.specs.Judge.{filled_in, fault_of, held_by}
use Rattle.kinds.specs.Reading.{Outcome, refused, check, slots_in, message_of, read_as, read_by}
use Rattle.packet.proofs.Laws.Accepts.{read_by-is, accepts_exactly}
use Rattle.hex_line.specs.Line.{most_digits, line_right, packet_in}
use Rattle.shown.specs.Line.{number_line, text_of, line_as, line_by, sheet_line, line_room, fitting}
use Rattle.sheet.specs.declared.Refusal.TheVariants.{NoRoom}
use Rattle.shown.specs.Promises.{Whole, Put}
use Rattle.shown.specs.Claims.{most_text, LineFits}
use Rattle.shown.proofs.Laws.Widths.{Octets, kind-narrow, reads_fit}

-- ---- one packet

-- the text takes no more than the longest line, and no more than ten octets for each digit of the packet and for the LF
abbrev TextFits : List ℕ → Outcome → Type 0
TextFits p o = (length (text_of p o) ≤ most_text) × (length (text_of p o) ≤ 20 * length p + 10)

-- a refusal with one digit takes ten octets
refused-fits : (p : List ℕ) (number at : ℕ) → number < 10 → TextFits p (refused number at)
unfolding text_of number_line
refused-fits p number at h = simp length-append (omega (arith, length-decimal-le 0 number h))

-- a check that is not passed refuses
check-fits : (p : List ℕ) (right : Bool) (number : ℕ) (next : Outcome) → number < 10 → (T right → TextFits p next) → TextFits p (check right number next)
check-fits p right number next h f = pick-cases (TextFits p) right next (refused number 0) f (λ e. refused-fits p number 0 h)

-- a packet that is read has twelve octets
size-least : (p : List ℕ) → T (size_right p) → 12 ≤ length p
unfolding size_right
size-least p t = leb→le first_field (length p) (T-and-left (leb first_field (length p)) (leb (length p) 256 && eqb (length p % word) 0) t)

module _ (n : Numbers) (p : List ℕ) (octets : Octets p) where
  -- past checks 1 to 4
  message-fits : (k : Kind) → Headed p → kind_of n p ≡ some k → T (whole p) → (o : Option ℕ) → fault_of p (slots_in n p k) (fields_of p) ≡ o
      → TextFits p (message_of p k.kind (slots_in n p k) o)
  unfolding message_of
  message-fits k h e w none f =
      let slots = slots_in n p k in
      let values = map (held_by p) (filled_in slots (fields_of p)) in
      let allowed = (accepts_exactly n p k values h e w).0 (read_by-is n p k h e w ∙ ap (message_of p k.kind slots) f) in
      let fit = reads_fit p octets k (kind-narrow n p k e) _ (ack_asked p) allowed.0 values allowed.1 in
      omega (arith, size-least p h.0)
  message-fits k h e w (some at) f = refused-fits p 5 0 (omega arith)

  -- past checks 1 and 2
  kind_fits : Headed p → (o : Option Kind) → kind_of n p ≡ o → TextFits p (read_as n p o)
  unfolding read_as
  kind_fits h none e = refused-fits p 3 0 (omega arith)
  kind_fits h (some k) e =
      let slots = slots_in n p k in
      let fault = fault_of p slots (fields_of p) in
      check-fits p (whole p) 4 (message_of p k.kind slots fault) (omega arith) (λ w. message-fits k h e w fault refl)

  -- whatever is read
  read_fits : TextFits p (read_by n p)
  unfolding read_by
  read_fits =
      let as-kind = read_as n p (kind_of n p) in
      check-fits p (size_right p) 1 (check (head_right p) 2 as-kind) (omega arith)
      (λ s. check-fits p (head_right p) 2 as-kind (omega arith) (λ h. kind_fits (s, h) (kind_of n p) refl))

-- ---- one line

-- a line that is right is in hex
right-hex : (line : List ℕ) → T (line_right line) → T (is_hex line)
unfolding line_right
right-hex line t =
    T-and-right (leb (length line) most_digits) (is_hex line) (T-and-right (leb 1 (length line)) (leb (length line) most_digits && is_hex line) t)

-- what is printed for a line, by the packet on it
abbrev PrintFits : Numbers → List ℕ → Option (List ℕ) → Type 0
PrintFits n line o = (length (line_as (read_by n) o) ≤ most_text) × (length (line_as (read_by n) o) ≤ line_room line)

-- where there is one
packet-fits : (n : Numbers) (line : List ℕ) → T (line_right line) → PrintFits n line (some (hex_octets line))
unfolding line_as
packet-fits n line t =
    let hex = right-hex line t in
    let fit = read_fits n (hex_octets line) (hex_octets-lt line hex) in
    let even = is_hex-even line hex in
    omega (arith, length-hex_octets line even)

-- where there is none
no_packet-fits : (n : Numbers) (line : List ℕ) → PrintFits n line none
unfolding line_as
no_packet-fits n line = let fit = refused-fits [] 1 0 (omega arith) in omega arith

-- whatever the line
pub line_fits : LineFits
unfolding line_by packet_in
line_fits n line =
    pick-cases (PrintFits n line) (line_right line) (some (hex_octets line)) none (packet-fits n line) (λ e. no_packet-fits n line)

-- ---- a refused sheet

-- its name, the number and LF
pub length-sheet_line : (n : ℕ) → length (sheet_line n) ≡ length (decimal n) + 7
unfolding sheet_line number_line
length-sheet_line n = simp length-append (omega arith)

-- ---- at a place

module _ (asked octets at : ℕ) (text : List ℕ) where
  -- where as many octets as are asked for stand behind the place, the text is put
  pub fitting-whole : asked ≤ octets - at → fitting asked octets at text ≡ text
  unfolding fitting
  fitting-whole h = rw (le-leb asked (octets - at) h)

  -- and where fewer do, nothing
  pub fitting-none : octets - at < asked → fitting asked octets at text ≡ []
  unfolding fitting
  fitting-none h = rw (lt-leb asked (octets - at) h)

-- ---- at the front of a buffer

module _ (text out : List ℕ) where
  -- where the text has no room it is refused
  pub not_printed : length out < length text → Whole text out (Err NoRoom) out
  not_printed short = rw (lt-leb (length text) (length out) short) (refl, refl)

  -- and where it is put it is whole
  pub printed : length text ≤ length out → (end : ℕ) (now : List ℕ) → Put text out 0 end now → Whole text out (Ok end) now
  printed room end now put =
      rw (le-leb (length text) (length out) room) (ap Ok (put.1 ∙ zero-add (length text)), put.0 ∙ sym (over-put_at text out room))
