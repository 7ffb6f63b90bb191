-- Exactly 1 asks.
use borrow.Author.Tests.{eq-eqb, ne_eqb}
use Rattle.c_export.specs.Crossing.{override_by}
use Rattle.c_export.proofs.changing.override_by.Goals as goal

pub returns-then-number-eq-OVERRIDE : goal.returns-then-number-eq-OVERRIDE
unfolding override_by
returns-then-number-eq-OVERRIDE c = rw (eq-eqb _ 1 c.if-number-eq-OVERRIDE.true)

pub returns : goal.returns
unfolding override_by
returns c = rw (ne_eqb _ 1 c.if-number-eq-OVERRIDE.false)
