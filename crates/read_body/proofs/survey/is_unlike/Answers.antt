-- Of a body whose edition is known a group with records is asked for its own.
use mathlib.Core.Path.{sym, ap, ◌∙◌}
use mathlib.Core.Bool.{not}
use borrow.Author.Tests.{eq-eqb}
use Rattle.read_record.proofs.Same.{edition_same}
use Rattle.read_body.proofs.EditionLaws.{unlike_unknown, unlike_empty, unlike_by}
use Rattle.read_body.proofs.survey.is_unlike.Goals as goal

pub returns-in-None : goal.returns-in-None
returns-in-None c = sym (unlike_unknown _ _ _ c.in-None.is)

pub returns-then-group-ne0 : goal.returns-then-group-ne0
returns-then-group-ne0 c = c.ne.ensures ∙ (ap not (edition_same _ _) ∙ sym (unlike_by _ _ _ _ c.in-Some.is c.if-group-ne0.true))

pub returns-else-group-ne0 : goal.returns-else-group-ne0
returns-else-group-ne0 c = ap not (eq-eqb _ 0 c.if-group-ne0.false) ∙ sym (unlike_empty _ _ _ _ c.in-Some.is c.if-group-ne0.false)
