-- What the program gathers before it writes. Assumes nothing.
use Rattle.std.specs.Prelude.{◌≡◌, ℕ, ◌+◌, ◌≤◌, List, length}
use Rattle.octets.specs.Buffer.{put_at}

-- a text is put behind what is gathered, whole, and nothing else is changed
pub record Gathers (text out : List ℕ) (gathered end : ℕ) (now : List ℕ) : Type 0 where
  pub past : end ≡ gathered + length text
  pub fits : end ≤ length out
  pub put : now ≡ put_at out gathered text
