-- Each field is the one that was handed in.
use mathlib.Core.Path.{refl}
use Rattle.casm_by_value.proofs.changed_of.Goals as goal

pub returns : goal.returns
returns c = ((refl, refl), refl)
