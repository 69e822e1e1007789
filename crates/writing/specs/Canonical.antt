-- Which packets are canonical, of those that read well (document 01, "Packet": "no skipped field, no phrase, the order above"; padding and
-- the second octet of Message Type are zero). It looks at the packet's octets and fields alone. Assumes nothing.
use Rattle.std.specs.Prelude.{ℕ, ◌+◌, Bool, true, false, ◌&&◌, List, [], ◌∷◌, get_or, eqb}
use Rattle.std.proofs.Math.Option.{Option, none, some}
use Rattle.octets.specs.Choice.{pick, every}
use Rattle.fields.specs.declared.field.Field.{Field}
use Rattle.fields.specs.Walk.{zeros, padding, fields_of, whole}
use Rattle.kinds.specs.declared.Numbers.{Numbers}
use Rattle.kinds.specs.declared.kind.Form.{Form}
use Rattle.kinds.specs.declared.kind.Form.TheVariants.{UserId, Number, Cause, Result, MessageType, Barred}
use Rattle.kinds.specs.Kind.{Row, Kind, kind_of}

-- a value with nothing in it that is not looked at: "no phrase" behind a cause; "a value octet, a zero octet"
unfoldable pub bare : Form → List ℕ → Field → Bool
bare UserId p f = true
bare Number p f = true
bare Cause p f = eqb f.len 2
bare Result p f = true
bare MessageType p f = eqb (get_or p (f.at + 3) 0) 0
bare Barred p f = true

-- "no skipped field", "the order above": the fields stand in the order of the table's rows, and each has a row of its own, in whose
-- form it is bare
unfoldable pub in_order : List ℕ → List Row → List Field → Bool
in_order p [] [] = true
in_order p [] (f ∷ fs) = false
in_order p (r ∷ rows) [] = true
in_order p (r ∷ rows) (f ∷ fs) = pick (eqb r.id f.id) (bare r.form p f && in_order p rows fs) (in_order p rows (f ∷ fs))

-- the walk meets no bad field; "Padding is zero"
unfoldable pub canonical_in : List Row → List ℕ → Bool
canonical_in rows p =
    whole p && (in_order p rows (fields_of p) && every (λ (f : Field). zeros (padding p f.at)) (fields_of p))

-- the rows are those of the packet's letters and number
unfoldable pub canonical : Numbers → List ℕ → Bool
canonical n p = by (kind_of n p)
  where
    by : Option Kind → Bool
    by none = false
    by (some k) = canonical_in k.rows p
