use Rattle.write_plan.specs.Chunks.{cntts_down}
use Rattle.write_chunks.proofs.Putting.{Putting}
use Rattle.write_chunks.proofs.places.put_cntts.Given as goal

abbrev pub invariant-loop-k : goal.invariant-loop-k
invariant-loop-k l = Putting (cntts_down l.cntts) l.initial.out l.at l.n l.out l.k
