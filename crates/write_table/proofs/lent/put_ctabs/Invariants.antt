-- The first i Ctabs stand in the buffer.
use Rattle.write_chunks.proofs.Putting.{Putting, ctabs}
use Rattle.write_table.proofs.lent.put_ctabs.Given as goal

abbrev pub invariant-loop-i : goal.invariant-loop-i
invariant-loop-i l = Putting (ctabs l.table) l.initial.out l.at l.n l.out l.i
