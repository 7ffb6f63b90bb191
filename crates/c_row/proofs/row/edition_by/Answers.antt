-- `edition_by` on each side of the test.
use Rattle.c_row.proofs.RowLaws.{edition_second, edition_first}
use Rattle.c_row.proofs.row.edition_by.Goals as goal

pub returns-then-number-eq-SECOND : goal.returns-then-number-eq-SECOND
returns-then-number-eq-SECOND c = edition_second _ c.if-number-eq-SECOND.true

pub returns : goal.returns
returns c = edition_first _ c.if-number-eq-SECOND.false
