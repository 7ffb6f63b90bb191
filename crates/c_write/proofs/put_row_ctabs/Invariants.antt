use Rattle.write_chunks.proofs.Putting.{Putting, ctabs}
use Rattle.c_row.specs.Flat.{table_of}
use Rattle.c_write.proofs.put_row_ctabs.Given as goal

abbrev pub invariant-loop-i : goal.invariant-loop-i
invariant-loop-i l = Putting (ctabs (table_of l.flat)) l.initial.out l.at l.n l.out l.i
