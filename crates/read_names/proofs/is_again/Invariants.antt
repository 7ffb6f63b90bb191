use mathlib.Core.Path.{◌≡◌}
use lib.ListN.{length, drop}
use Rattle.layout.specs.Lists.{has}
use Rattle.read_names.specs.Parts.{cuts, Placed}
use Rattle.read_names.proofs.is_again.Given as goal

abbrev pub invariant-loop-e : goal.invariant-loop-e
invariant-loop-e l = Placed (length l.t) l.i (drop l.e-index l.ends) × (has (cuts l.t 0 l.ends) l.name ≡ has (cuts l.t l.i (drop l.e-index l.ends)) l.name)
