-- The answer of the face, as it crosses.
use mathlib.Core.Path.{ap, ◌∙◌}
use Rattle.c_export.specs.Crossing.{check_of}
use Rattle.c_export.proofs.checking.casm_check.Goals as goal

pub returns : goal.returns
returns c = c.check_of.ensures ∙ ap check_of c.check_bodies.ensures
