use mathlib.Core.Path.{◌≡◌}
use Rattle.layout.specs.Scan.{first}
use Rattle.layout.specs.Asked.{group_named}
use Rattle.read_met.proofs.Naming.{has_part}
use Rattle.read_met.proofs.group_named.Given as goal

abbrev pub invariant-loop-k : goal.invariant-loop-k
invariant-loop-k l = group_named l.s l.n l.name ≡ first (has_part l.s l.name) l.k l.n
