-- What each public function whose answer comes from its arguments alone promises, one predicate a function, NAME≡: the equation that its answer meets, for
-- every input; of an answer that is made, what it says. Beside it, NAME-once: no second answer meets it, or none that says something else. Assumes nothing.
use Rattle.std.specs.Prelude.{◌≡◌, ℕ, List, []}
use Rattle.octets.specs.Promises.{one_value}
use Rattle.sheet.specs.declared.Sheet.{Sheet}
use Rattle.asked.specs.declared.reply.Reply.{Reply}
use Rattle.asked.specs.Value.{sheet_at}
use Rattle.asked.specs.Reply.{said, with_more, words}

-- the sheet whose numbers stand at the front of a body
abbrev pub sheet_in≡ : List ℕ → Sheet → Type 0
sheet_in≡ body r = r ≡ sheet_at body

pub sheet_in-once : (body : List ℕ) (x y : Sheet) → sheet_in≡ body x → sheet_in≡ body y → x ≡ y
sheet_in-once body x y p q = one_value x y p q

-- an answer that says nothing
abbrev pub empty≡ : Reply → Type 0
empty≡ r = said r ≡ []

pub empty-once : (x y : Reply) → empty≡ x → empty≡ y → said x ≡ said y
empty-once x y p q = one_value (said x) (said y) p q

-- what an answer says
abbrev pub as_slice≡ : Reply → List ℕ → Type 0
as_slice≡ reply r = r ≡ said reply

pub as_slice-once : (reply : Reply) (x y : List ℕ) → as_slice≡ reply x → as_slice≡ reply y → x ≡ y
as_slice-once reply x y p q = one_value x y p q

-- the answer with octets behind what it said
abbrev pub octets≡ : Reply → List ℕ → Reply → Type 0
octets≡ reply octets r = said r ≡ with_more (said reply) octets

pub octets-once : (reply : Reply) (octets : List ℕ) (x y : Reply) → octets≡ reply octets x → octets≡ reply octets y → said x ≡ said y
octets-once reply octets x y p q = one_value (said x) (said y) p q

-- with numbers of four octets
abbrev pub numbers≡ : Reply → List ℕ → Reply → Type 0
numbers≡ reply numbers r = said r ≡ with_more (said reply) (words 4 numbers)

pub numbers-once : (reply : Reply) (numbers : List ℕ) (x y : Reply) → numbers≡ reply numbers x → numbers≡ reply numbers y → said x ≡ said y
numbers-once reply numbers x y p q = one_value (said x) (said y) p q

-- with numbers of eight
abbrev pub counts≡ : Reply → List ℕ → Reply → Type 0
counts≡ reply counts r = said r ≡ with_more (said reply) (words 8 counts)

pub counts-once : (reply : Reply) (counts : List ℕ) (x y : Reply) → counts≡ reply counts x → counts≡ reply counts y → said x ≡ said y
counts-once reply counts x y p q = one_value (said x) (said y) p q
