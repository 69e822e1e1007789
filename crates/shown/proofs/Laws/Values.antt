-- Laws of the ten values' text: a name before each value. Assumes nothing.
use mathlib.Core.Path.{◌≡◌, refl, sym, ap, ◌∙◌}
use Prim.Native.Nat.{ℕ, suc, ◌+◌, ◌≤◌, ◌<◌}
use native.Mathlib.Numerals.{add-one}
use native.Mathlib.Omega.{arith}
use mathlib.Core.List.{List, [], ◌∷◌, ◌++◌, map, flatten, append_assoc}
use lib.ListN.{length, get_or, drop, length-append, length-map, get_or-map}
use lib.Seq.{drop-cons}
use Rattle.octets.specs.Buffer.{put_at}
use Rattle.octets.proofs.Lists.{get_or_default}
use Rattle.octets.proofs.Buffer.{put_at-nil, put_both}
use Rattle.sheet_line.specs.Line.{lf}
use Rattle.packet.specs.declared.Message.{Message}
use Rattle.kinds.specs.Judge.{Held, absent}
use Rattle.packet.specs.Message.{message_said}
use Rattle.packet.specs.Row.{numbers_say}
use Rattle.packet.specs.Promises.{row_of≡}
use Rattle.shown.specs.Line.{value_text, labels, labelled, text_of}
use Rattle.shown.specs.declared.values.Value.{Value}
use Rattle.shown.specs.declared.values.Value.TheVariants.{Absent}
use Rattle.shown.specs.Inner.{value_said, ten_said, row_ten, texts_of, entry_text, values_from, ten_line}
use Rattle.shown.specs.Promises.{Put}
use Rattle.shown.proofs.Laws.Rows.{numbers_say_lem, row-ten}

-- a name with its text, and those behind them
labelled-from : (ls ts : List (List ℕ)) (k : ℕ) → k < length ls → k < length ts
    → labelled (drop k ls) (drop k ts) ≡ (get_or ls k [] ++ get_or ts k []) ++ labelled (drop (suc k) ls) (drop (suc k) ts)
unfolding labelled
labelled-from ls ts k h l =
    rw (drop-cons ls k [] h, drop-cons ts k [] l) (sym (append_assoc (get_or ls k []) (get_or ts k []) (labelled (drop (suc k) ls) (drop (suc k) ts))))

-- what the values say one by one, and how many they are
pub said_at : (values : List Value) (k : ℕ) → value_said (get_or values k Absent) ≡ get_or (map value_said values) k absent
said_at values k = sym (get_or-map value_said values k Absent)

pub said-length : (values : List Value) → length values ≡ 10 → length (map value_said values) ≡ 10
said-length values n = rw length-map n

-- the text of one of the values
abbrev pub text_at : List ℕ → List Held → ℕ → List ℕ
text_at p values k = value_text p (get_or values k absent)

text_at_lem : (p : List ℕ) (values : List Held) (k : ℕ) → k < length values → get_or (texts_of p values) k [] ≡ text_at p values k
text_at_lem p values k h =
    get_or_default (texts_of p values) k [] (value_text p absent) (rw length-map h) ∙ get_or-map (value_text p) values k absent

-- behind its name
pub entry_text-at : (p : List ℕ) (values : List Held) (k : ℕ) → k < length values → entry_text p values k ≡ get_or labels k [] ++ text_at p values k
unfolding entry_text
entry_text-at p values k h = rw (text_at_lem p values k h)

-- ---- the values from one of them on

module _ (p : List ℕ) (values : List Held) (n : length values ≡ 10) where
  -- one of them, and those behind it
  pub values_from-next : (k : ℕ) → k < 10 → values_from p values k ≡ entry_text p values k ++ values_from p values (k + 1)
  unfolding values_from entry_text
  values_from-next k h = rw add-one (labelled-from labels (texts_of p values) k h (rw (length-map, n) h))

  -- and their lengths
  pub length-values_from-next : (k : ℕ) → k < 10
      → length (values_from p values k) ≡ length (get_or labels k []) + length (text_at p values k) + length (values_from p values (k + 1))
  length-values_from-next k h = rw (values_from-next k h, entry_text-at p values k (omega arith), length-append, length-append)

  -- behind the last there is none
  pub values_from-none : values_from p values 10 ≡ []
  unfolding values_from labelled
  values_from-none = refl

  -- the values from one of them on stand at a place
  pub record From (k : ℕ) (s : List ℕ) (at : ℕ) (now : List ℕ) (end : ℕ) : Type 0 where
    pub put : now ≡ put_at s at (values_from p values k)
    pub past : end ≡ at + length (values_from p values k)

  -- one of them is put, and those behind it
  pub from-entry : (k : ℕ) {s mid now : List ℕ} {at next end : ℕ} → k < 10 → at + length (values_from p values k) ≤ length s
      → Put (entry_text p values k) s at next mid → From (k + 1) mid next now end → From k s at now end
  from-entry k h room e f =
      let entry = entry_text p values k in
      let others = values_from p values (k + 1) in
      let split = values_from-next k h in
      let both = put_both _ _ entry others _ _ _ _ e.0 e.1 f.put f.past (omega (arith, ap length split, length-append entry others)) in
      record { put = rw split both.0; past = rw split both.1 }

  -- behind the last nothing is
  pub from-none : (s : List ℕ) (at : ℕ) → From 10 s at s at
  from-none s at = record { put = rw values_from-none (sym (put_at-nil s at)); past = rw values_from-none (omega arith) }

-- the octets of the names from one of them on
unfoldable pub names_from : ℕ → ℕ
names_from k = length (flatten (drop k labels))

-- one name, and those behind it
pub names_from-next : (k : ℕ) → k < 10 → names_from k ≡ length (get_or labels k []) + names_from (k + 1)
unfolding names_from flatten
names_from-next k h = rw (add-one, drop-cons labels k [] h, length-append)

-- all the names are 70 octets
pub names_from-all : names_from 0 ≡ 70
unfolding names_from flatten
names_from-all = refl

-- and behind the last there is none
pub names_from-none : names_from 10 ≡ 0
unfolding names_from flatten
names_from-none = refl

-- ---- the line of ten values

-- of a message
pub text_of-row : (p : List ℕ) (m : Message) (row : List ℕ) → row_of≡ m row → text_of p (message_said m) ≡ ten_line p (row_ten row)
unfolding text_of ten_line values_from ten_said numbers_say
text_of-row p m row e =
    let says = numbers_say_lem row m e.1 in
    rw (row-ten m row e, ← says)

-- an LF behind the values
pub length-ten_line : (p : List ℕ) (values : List Held) → length (ten_line p values) ≡ length (values_from p values 0) + 1
unfolding ten_line
length-ten_line p values = length-append (values_from p values 0) (lf ∷ [])
