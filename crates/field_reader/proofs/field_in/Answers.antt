-- `field_reader::field_in` meets its contract: what a reader that is made and steps once says is what is said of the place. Assumes nothing.
use mathlib.Core.Path.{◌∙◌}
use Rattle.field_reader.proofs.Laws.Reader.{said-none, said-some}
use Rattle.field_reader.proofs.field_in.Goals as goal

pub returns-in-Some : goal.returns-in-Some
returns-in-Some c =
    said-some c.args.packet c.args.at c.reader_at-made.result c.reader_at-made.ensures c.in-Some.refusal c.in-Some.is

pub returns-in-None : goal.returns-in-None
returns-in-None c =
    c.next_field.ensures.1 ∙ said-none c.args.packet c.args.at c.reader_at-made.result c.reader_at-made.ensures c.in-None.is
