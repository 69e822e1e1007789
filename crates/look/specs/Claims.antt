-- What is claimed of `mcvlook` beyond its functions. Each has its proof under proofs/. Assumes nothing.
use Rattle.std.specs.Prelude.{◌≡◌, ℕ, ◌≤◌, length, take, T, Result, Ok, Err}
use mathlib.Core.List.{List, [], ◌∷◌, ◌++◌, map, flatten}
use Rattle.sheet.specs.declared.Refusal.{Refusal}
use Rattle.sheet_text.specs.Text.{longest}
use Rattle.lines.specs.Pieces.{most_held}
use Rattle.look.specs.declared.Look.{Look}
use Rattle.look.specs.declared.Stepped.{Stepped}
use Rattle.look.specs.Look.{look_of}
use Rattle.look.specs.Steps.{is_refused, state_of, room_asked}
use Rattle.look.specs.Promises.{start≡, step≡, end≡}

-- a call of `step`: the piece, the buffer lent, the answer, and the buffer afterwards
pub record Call : Type 0 where
  pub piece : List ℕ
  pub out : List ℕ
  pub said : Result Stepped Refusal
  pub after : List ℕ

-- a call as `step` promises, on what was kept, with as much room as it asks for
abbrev pub Called : Look → Call → Type 0
Called look c = (room_asked (length c.piece) ≤ length c.out) × step≡ look c.piece c.out c.said c.after

-- what is kept after it, and how many octets it printed; a call that is refused takes nothing
abbrev pub kept_by : Look → Result Stepped Refusal → Look
kept_by look (Ok stepped) = stepped.look
kept_by look (Err refusal) = look

abbrev pub written_by : Result Stepped Refusal → ℕ
written_by (Ok stepped) = stepped.written
written_by (Err refusal) = 0

-- one after another, each on what the one before kept, and what is kept at the end
abbrev pub CalledInTurn : Look → List Call → Look → Type 0
CalledInTurn look [] last = look ≡ last
CalledInTurn look (c ∷ calls) last = Called look c × CalledInTurn (kept_by look c.said) calls last

-- what a call printed
abbrev pub printed_by : Call → List ℕ
printed_by c = take (written_by c.said) c.after

abbrev pub piece_of : Call → List ℕ
piece_of c = c.piece

-- Any input in any pieces: from `start`, `step` after `step` and then `end` print what `look_of` says of the whole, and the end is not refused.
abbrev pub PiecesPrintTheWhole : Type 0
PiecesPrintTheWhole =
    (first last : Look) (calls : List Call) (out : List ℕ) (r : Result ℕ Refusal) (after : List ℕ)
    → start≡ first → CalledInTurn first calls last → room_asked 0 ≤ length out → end≡ last out r after
    → (n : ℕ) × (r ≡ Ok n) × (flatten (map printed_by calls) ++ take n after ≡ look_of (flatten (map piece_of calls)))

-- A call with room is not refused, so that its piece is taken.
abbrev pub RoomIsEnough : Type 0
RoomIsEnough = (look : Look) (c : Call) → Called look c → (stepped : Stepped) × (c.said ≡ Ok stepped)

-- Behind a refused sheet nothing more is printed, whatever comes.
abbrev pub RefusedIsAll : Type 0
RefusedIsAll = (look : Look) (c : Call) → T (is_refused (state_of look)) → Called look c → (printed_by c ≡ []) × T (is_refused (state_of (kept_by look c.said)))

-- As much as is held decides a sheet (`LongestDecides` of sheet_text).
abbrev pub HeldDecides : Type 0
HeldDecides = longest ≤ most_held
