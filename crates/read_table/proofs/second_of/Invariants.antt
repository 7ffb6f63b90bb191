use Rattle.read_table.proofs.Seconds.{Sought}
use Rattle.read_table.proofs.second_of.Given as goal

abbrev pub invariant-loop-j : goal.invariant-loop-j
invariant-loop-j l = Sought l.s l.cntts l.seconds l.channel l.j
