-- `rows::records::are_records` meets its contract: of sixteen octets each chunk of two is judged. Assumes nothing.
use mathlib.Core.Path.{◌∙◌}
use borrow.Author.Rules.{rules}
use borrow.Author.Tests.{tests, ne_eqb}
use Rattle.std.proofs.lemmas.Iterator.Search.{all_from_yields_List}
use Rattle.rows.specs.Rows.{is_some, records_in}
use Rattle.rows.proofs.Laws.Records.{records-counted, records_other}
use Rattle.rows.proofs.Laws.Chunks.{yields-pairs, told-some, all-pairs}
use Rattle.rows.proofs.records.are_records.Goals as goal

pub returns-then-octets-eq-RECORDS : goal.returns-then-octets-eq-RECORDS
returns-then-octets-eq-RECORDS c =
    let octets = c.args.octets.now in
    let chunks = yields-pairs octets _ c.chunks.ensures.rest c.chunks.ensures.size in
    let all = all_from_yields_List (λ own. is_some (records_in 1 own)) _ _ _ c.all.ensures.ran chunks (λ x b q k. search (rules, tests, told-some)) in
    rw (records-counted 8 octets c.if-octets-eq-RECORDS.true) (all ∙ all-pairs octets)

pub returns-else-octets-eq-RECORDS : goal.returns-else-octets-eq-RECORDS
returns-else-octets-eq-RECORDS c = rw (ne_eqb _ _ c.if-octets-eq-RECORDS.false, records_other 8 _ c.if-octets-eq-RECORDS.false)
