use Prim.Native.Nat.{◌-◌}
use lib.ListN.{length}
use Rattle.read_salvage.proofs.Filling.{Filling}
use Rattle.read_salvage.proofs.entries.Given as goal

abbrev pub invariant-loop-i : goal.invariant-loop-i
invariant-loop-i l = Filling l.body l.initial.list l.stored l.list l.n l.i

abbrev pub decreases-loop-i : goal.decreases-loop-i
decreases-loop-i l = length l.body - l.i
