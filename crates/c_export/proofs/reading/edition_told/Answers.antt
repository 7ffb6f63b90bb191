-- `edition_told` on each side of the test.
use Rattle.c_export.proofs.Grouped.{told_none, told_some}
use Rattle.c_export.proofs.reading.edition_told.Goals as goal

pub returns-then-records-eq0 : goal.returns-then-records-eq0
returns-then-records-eq0 c = told_none _ _ c.if-records-eq0.true

pub returns : goal.returns
returns c = told_some _ _ _ c.if-records-eq0.false c.edition_number.ensures
