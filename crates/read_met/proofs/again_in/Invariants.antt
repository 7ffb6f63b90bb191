use mathlib.Core.Path.{◌≡◌}
use Rattle.layout.specs.Scan.{first}
use Rattle.read_met.specs.Before.{Marks, again_in}
use Rattle.read_met.proofs.again_in.Given as goal

abbrev pub invariant-loop-k : goal.invariant-loop-k
invariant-loop-k l = Marks l.s l.k l.share l.table × (first (again_in l.share l.s) 0 l.n ≡ first (again_in l.share l.s) l.k l.n)
