-- Laws of what is printed for a line under a sheet that was read. Assumes nothing.
use mathlib.Core.Path.{◌≡◌, refl}
use Prim.Native.Nat.{ℕ}
use mathlib.Core.List.{List}
use lib.ListN.{length}
use lib.Dec.{T}
use Rattle.std.specs.Prelude.{Ok}
use Rattle.sheet.specs.Value as sheet
use Rattle.sheet.proofs.Laws.Laid.{laid-valid}
use Rattle.sheet.proofs.Laws.Claims.{valid_alone_exactly}
use Rattle.sheet_text.specs.declared.Reading.{Reading}
use Rattle.sheet_text.specs.Text.{text_of}
use Rattle.sheet_text.specs.Reading as sheet-reading
use Rattle.sheet_text.proofs.Laws.Readings.{outcome-reads}
use Rattle.kinds.specs.Kind.{numbers_of}
use Rattle.shown.specs.Line.{line_of, line_by}
use Rattle.shown.proofs.Laws.Line.{under_a_sheet}

module _ (t : List ℕ) (r : Reading) where
  -- the entries that were read are a sheet's
  outcome-valid : (o : sheet-reading.Outcome) → sheet-reading.outcome t ≡ o → sheet-reading.reading_of o ≡ Ok r → T (sheet.valid_alone r.sheet)
  unfolding sheet-reading.reading_of
  outcome-valid (sheet-reading.reads es) p e =
      let is : r ≡ record { sheet = sheet.sheet_of es; used = length (text_of es) } = cc in
      rw is ((valid_alone_exactly (sheet.sheet_of es)).1 (sheet.users_of es, laid-valid es (outcome-reads t es p).0))
  outcome-valid (sheet-reading.refused k) p e = cc

  -- a sheet that was read is valid
  pub read-valid : sheet-reading.read_of t ≡ Ok r → T (sheet.valid_alone r.sheet)
  unfolding sheet-reading.read_of
  read-valid e = outcome-valid (sheet-reading.outcome t) refl e

  -- so that its lines print as under its numbers
  pub line_of-read : sheet-reading.read_of t ≡ Ok r → (line : List ℕ) → line_of r.sheet line ≡ line_by (numbers_of r.sheet) line
  line_of-read e line = under_a_sheet r.sheet line (read-valid e)
