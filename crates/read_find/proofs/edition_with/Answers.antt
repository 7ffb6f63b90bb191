-- A group without records is told as of the first edition.
use mathlib.Core.Path.{◌∙◌}
use borrow.Author.Tests.{eq-eqb, ne_eqb}
use Rattle.read_body.specs.Known.{edition_with}
use Rattle.read_find.proofs.edition_with.Goals as goal

pub returns-then-ctabs-eq0 : goal.returns-then-ctabs-eq0
unfolding edition_with
returns-then-ctabs-eq0 c = rw (eq-eqb _ 0 c.if-ctabs-eq0.true)

pub returns : goal.returns
unfolding edition_with
returns c = c.unwrap_or.ensures ∙ rw (ne_eqb _ 0 c.if-ctabs-eq0.false)
