-- The expression is the definition's; the remainder bounds it.
use native.Mathlib.Omega.{arith}
use mathlib.Core.Path.{refl}
use Rattle.read_names.specs.Marks.{spread}
use Rattle.read_names.proofs.spread_of.Goals as goal

pub returns : goal.returns
unfolding spread
returns c = (refl, omega arith)
