-- Laws of calls one after another: what `step` and `end` promise, with the room they ask for, is what the pieces print. Assumes nothing.
use mathlib.Core.Path.{◌≡◌, refl, sym, ap, ap₂, ◌∙◌}
use mathlib.Core.Bool.{true}
use Prim.Native.Nat.{ℕ, ◌≤◌}
use mathlib.Core.List.{List, [], ◌∷◌, ◌++◌, map, flatten, append_assoc}
use lib.ListN.{length, take}
use lib.Dec.{T}
use borrow.Author.Tests.{le-leb}
use Rattle.std.specs.Prelude.{Result, Ok}
use Rattle.octets.specs.Buffer.{over}
use Rattle.octets.proofs.Buffer.{take-over}
use Rattle.sheet.specs.declared.Refusal.{Refusal}
use Rattle.look.specs.declared.Look.{Look}
use Rattle.look.specs.Steps.{State, in_sheet, in_lines, refused_sheet, Went, step_of, end_of, is_refused, state_of, look_as, room_asked, has_room, stepped_of, after_step}
use Rattle.look.specs.Promises.{end≡}
use Rattle.look.specs.Claims.{Call, Called, kept_by, CalledInTurn, printed_by, piece_of, PiecesPrintTheWhole, RoomIsEnough, RefusedIsAll}
use Rattle.look.proofs.Laws.Pieces.{printed_from, pieces_whole}

-- ---- a call

module _ (look : Look) (c : Call) (h : Called look c) where
  -- there is room
  called-room : has_room c.piece c.out ≡ true
  unfolding has_room
  called-room = le-leb (room_asked (length c.piece)) (length c.out) h.0

  -- so the piece is taken
  pub called-said : c.said ≡ Ok (record { look = look_as (step_of (state_of look) c.piece).to; written = length (step_of (state_of look) c.piece).text })
  unfolding stepped_of
  called-said = h.1.0 ∙ rw called-room

  -- and its text is put into the front
  pub called-after : c.after ≡ over (step_of (state_of look) c.piece).text c.out
  unfolding after_step
  called-after = h.1.1 ∙ rw called-room

  -- what it printed is that text
  called-printed : printed_by c ≡ (step_of (state_of look) c.piece).text
  called-printed = rw (called-said, called-after) (take-over (step_of (state_of look) c.piece).text c.out)

  -- and what it kept is the state behind it
  called-kept : kept_by look c.said ≡ look_as (step_of (state_of look) c.piece).to
  called-kept = ap (kept_by look) called-said

pub room_is_enough : RoomIsEnough
room_is_enough look c h =
    (record { look = look_as (step_of (state_of look) c.piece).to; written = length (step_of (state_of look) c.piece).text }, called-said look c h)

-- ---- the end

module _ (look : Look) (out : List ℕ) (r : Result ℕ Refusal) (now : List ℕ) (room : room_asked 0 ≤ length out) (h : end≡ look out r now) where
  -- it is printed whole
  pub end_whole : (r ≡ Ok (length (end_of (state_of look)))) × (now ≡ over (end_of (state_of look)) out)
  end_whole = let enough = le-leb (room_asked 0) (length out) room in (h.0 ∙ rw enough, h.1 ∙ rw enough)

  -- into the front
  end-printed : take (length (end_of (state_of look))) now ≡ end_of (state_of look)
  end-printed = rw end_whole.1 (take-over (end_of (state_of look)) out)

-- ---- calls one after another

-- they print what the pieces do, but for the end
calls_print : (calls : List Call) (look last : Look) → CalledInTurn look calls last
    → flatten (map printed_by calls) ++ end_of (state_of last) ≡ printed_from look (map piece_of calls)
unfolding printed_from flatten
calls_print [] look last e = ap (λ (x : Look). end_of (state_of x)) (sym e)
calls_print (c ∷ calls) look last h =
    append_assoc (printed_by c) (flatten (map printed_by calls)) (end_of (state_of last))
    ∙ ap₂ (λ (x y : List ℕ). x ++ y) (called-printed look c h.0)
    (calls_print calls (kept_by look c.said) last h.1 ∙ ap (λ (x : Look). printed_from x (map piece_of calls)) (called-kept look c h.0))

pub pieces_print_the_whole : PiecesPrintTheWhole
pieces_print_the_whole first last calls out r now s h room e =
    let end = end_of (state_of last) in (
      length end,
      (end_whole last out r now room e).0,
      ap (λ (x : List ℕ). flatten (map printed_by calls) ++ x) (end-printed last out r now room e)
          ∙ calls_print calls first last h
          ∙ ap (λ (x : Look). printed_from x (map piece_of calls)) s
          ∙ pieces_whole (map piece_of calls),
    )

-- ---- behind a refused sheet

-- of the states only one is
refused-state : (s : State) → T (is_refused s) → s ≡ refused_sheet
unfolding is_refused
refused-state (in_sheet t) h = absurd h
refused-state (in_lines n line) h = absurd h
refused-state refused_sheet h = refl

-- a step there prints nothing and stays there
refused-step : (s : State) (piece : List ℕ) → T (is_refused s) → step_of s piece ≡ record { to = refused_sheet; text = [] }
unfolding step_of
refused-step s piece h = rw (refused-state s h)

pub refused_is_all : RefusedIsAll
unfolding is_refused state_of look_as
refused_is_all look c t h =
    let e : step_of (state_of look) c.piece ≡ record { to = refused_sheet; text = [] } = refused-step (state_of look) c.piece t in
    (called-printed look c h ∙ ap (λ (w : Went). w.text) e, rw (called-kept look c h, e) tt)
