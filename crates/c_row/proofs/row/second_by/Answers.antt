-- `second_of` on each side of the test.
use Rattle.c_row.proofs.RowLaws.{second_absent, second_there}
use Rattle.c_row.proofs.row.second_by.Goals as goal

pub returns-then-has_cntt-eq0 : goal.returns-then-has_cntt-eq0
returns-then-has_cntt-eq0 c = second_absent _ _ c.if-has_cntt-eq0.true

pub returns : goal.returns
returns c = second_there _ _ c.if-has_cntt-eq0.false
