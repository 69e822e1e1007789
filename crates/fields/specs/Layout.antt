-- What a packet's octets behind the header are, said without a walk: fields laid out one after another (document 01, "Packet").
-- Assumes nothing.
use Rattle.std.specs.Prelude.{ℕ, ◌+◌, Bool, List, [], ◌∷◌, ◌++◌, map, length, ltb}
use Rattle.octets.specs.Choice.{every}
use Rattle.octets.specs.Buffer.{padded}
use Rattle.fields.specs.declared.field.Field.{Field}
use Rattle.fields.specs.Walk.{to_word, value_of, fields_of}

-- a field, wherever it stands
pub record Content : Type 0 where
  pub id : ℕ
  pub value : List ℕ

-- "ID octet, length octet, value, then padding to the next word, not counted in the length .. Padding is zero"
unfoldable pub laid : Content → List ℕ
laid c = padded (to_word (2 + length c.value)) 0 (c.id ∷ length c.value ∷ c.value)

unfoldable pub laid_all : List Content → List ℕ
laid_all [] = []
laid_all (c ∷ cs) = laid c ++ laid_all cs

-- "An ID of 192 or more is refused"
unfoldable pub id_right : Content → Bool
id_right c = ltb c.id 192

unfoldable pub ids_right : List Content → Bool
ids_right cs = every id_right cs

-- the fields that the walk meets, as they stand in the packet
unfoldable pub content_of : List ℕ → Field → Content
content_of p f = record { id = f.id; value = value_of p f }

unfoldable pub contents_of : List ℕ → List Content
contents_of p = map (content_of p) (fields_of p)
