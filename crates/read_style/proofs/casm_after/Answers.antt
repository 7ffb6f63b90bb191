-- The tag as a number is CASM: the two ways out are the two sides of the choice.
use mathlib.Core.Path.{sym, ◌∙◌}
use Rattle.layout.specs.Bytes.{four}
use Rattle.read_style.proofs.casm_after.Goals as goal

pub returns-then-is_tagged : goal.returns-then-is_tagged
unfolding four
returns-then-is_tagged c = rw (sym c.is_tagged.ensures ∙ c.if-is_tagged.true)

pub returns : goal.returns
unfolding four
returns c = rw (sym c.is_tagged.ensures ∙ c.if-is_tagged.false)
