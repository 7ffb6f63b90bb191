use Rattle.std.specs.Prelude.{Ok}
use Rattle.c_write.proofs.Taking.{Looking}
use Rattle.c_write.proofs.plan_rows.Given as goal

abbrev pub invariant-loop-i : goal.invariant-loop-i
invariant-loop-i l = Looking l.text l.flat l.count l.n l.i (Ok l.x) l.cntts
