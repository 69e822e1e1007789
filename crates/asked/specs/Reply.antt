-- An answer as it is made, from its front on. Assumes nothing.
use Rattle.std.specs.Prelude.{ℕ, List, [], ◌∷◌, ◌++◌, take}
use Rattle.octets.specs.Big.{big_of}
use Rattle.asked.specs.declared.reply.Reply.{Reply}

-- what is said so far
abbrev pub said : Reply → List ℕ
said reply = take reply.len reply.octets

-- more behind it; "an octet that has no room is left out"
abbrev pub most : ℕ
most = 1020

unfoldable pub with_more : List ℕ → List ℕ → List ℕ
with_more octets more = take most (octets ++ more)

-- numbers of so many octets, one behind the other
unfoldable pub words : ℕ → List ℕ → List ℕ
words w [] = []
words w (n ∷ ns) = big_of w n ++ words w ns
