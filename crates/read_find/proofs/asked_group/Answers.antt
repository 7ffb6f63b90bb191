-- What is told of the group that was located.
use mathlib.Core.Path.{ap, ◌∙◌}
use Rattle.read_find.specs.Find.{Search, told}
use Rattle.read_find.proofs.asked_group.Goals as goal

pub returns : goal.returns
returns c = c.found_or.ensures ∙ ap (λ (r : Search). told 16 r) c.locate_group.ensures
