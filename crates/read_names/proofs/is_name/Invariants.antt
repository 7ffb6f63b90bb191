use mathlib.Core.Path.{◌≡◌}
use lib.ListN.{drop}
use Rattle.layout.specs.Lists.{same}
use Rattle.read_names.proofs.is_name.Given as goal

abbrev pub invariant-loop-k : goal.invariant-loop-k
invariant-loop-k l = same l.one l.name ≡ same (drop l.k l.one) (drop l.k l.name)
