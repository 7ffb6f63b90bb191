use Rattle.list_text.proofs.Entries.{Told}
use Rattle.list_text.proofs.put_entries.Given as goal

abbrev pub invariant-loop-k : goal.invariant-loop-k
invariant-loop-k l = Told l.list l.n l.initial.out l.at l.out l.behind l.k
