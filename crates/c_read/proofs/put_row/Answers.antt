-- The whole row is copied.
use Rattle.c_read.proofs.Laid.{row_put}
use Rattle.c_read.proofs.put_row.Goals as goal

pub returns : goal.returns
returns c = row_put _ _ _ _ c.row_bytes-b.ensures c.put_bytes.ensures
