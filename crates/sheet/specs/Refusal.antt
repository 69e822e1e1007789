-- The numbers of refusals (document 01, "Refusals"). Assumes nothing.
use Rattle.std.specs.Prelude.{◌≡◌, refl, ℕ, ◌-◌, [], ◌∷◌, get_or}
use Rattle.sheet.specs.declared.Refusal.{Refusal}
use Rattle.sheet.specs.declared.Refusal.TheVariants.{Size, Header, Kind, Layout, Fields, Sender, Transmitter, NoEvent, NotLegal, Stale, NoRoom, Sheet}

-- the table's "no"
abbrev pub refusal_number : Refusal → ℕ
refusal_number Size = 1
refusal_number Header = 2
refusal_number Kind = 3
refusal_number Layout = 4
refusal_number Fields = 5
refusal_number Sender = 6
refusal_number Transmitter = 7
refusal_number NoEvent = 8
refusal_number NotLegal = 9
refusal_number Stale = 10
refusal_number NoRoom = 11
refusal_number (Sheet line) = 12

-- "returns its number only (12 its line as well)"
abbrev pub refusal_line : Refusal → ℕ
refusal_line Size = 0
refusal_line Header = 0
refusal_line Kind = 0
refusal_line Layout = 0
refusal_line Fields = 0
refusal_line Sender = 0
refusal_line Transmitter = 0
refusal_line NoEvent = 0
refusal_line NotLegal = 0
refusal_line Stale = 0
refusal_line NoRoom = 0
refusal_line (Sheet line) = line

-- the refusal with a number of the table and a line; a number above the table counts as 12
abbrev pub refusal_by : ℕ → ℕ → Refusal
refusal_by number line =
    let all = Size ∷ Header ∷ Kind ∷ Layout ∷ Fields ∷ Sender ∷ Transmitter ∷ NoEvent ∷ NotLegal ∷ Stale ∷ NoRoom ∷ [] in
    get_or all (number - 1) (Sheet line)

-- no two refusals have the same number and line
pub refusal_back : (r : Refusal) → refusal_by (refusal_number r) (refusal_line r) ≡ r
refusal_back Size = refl
refusal_back Header = refl
refusal_back Kind = refl
refusal_back Layout = refl
refusal_back Fields = refl
refusal_back Sender = refl
refusal_back Transmitter = refl
refusal_back NoEvent = refl
refusal_back NotLegal = refl
refusal_back Stale = refl
refusal_back NoRoom = refl
refusal_back (Sheet line) = refl
