-- A group without records leaves the edition as it is; of the others the first decides.
use mathlib.Core.Path.{◌∙◌}
use Rattle.read_body.proofs.EditionLaws.{after_none, after_some}
use Rattle.read_body.proofs.groups.edition_after.Goals as goal

pub returns-then-group-eq0 : goal.returns-then-group-eq0
returns-then-group-eq0 c = after_none _ _ _ c.if-group-eq0.true

pub returns : goal.returns
returns c = c.or.ensures ∙ after_some _ _ _ c.if-group-eq0.false
