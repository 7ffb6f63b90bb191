-- Field by field.
use mathlib.Core.Path.{refl}
use Rattle.layout.specs.Check.{checked}
use Rattle.ask_check.proofs.denied.Goals as goal

pub returns : goal.returns
unfolding checked
returns c = refl
