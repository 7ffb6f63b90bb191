-- The two ways in which the Ctabs end.
use mathlib.Core.Path.{sym, ◌∙◌}
use native.Mathlib.Omega.{arith}
use Rattle.layout.specs.Bytes.{four}
use Rattle.layout.proofs.Ctabs.{over_end, over_cut, over_tag}
use Rattle.read_group.proofs.ctabs.is_over.Goals as goal

pub returns-then-at-c : goal.returns-then-at-c
returns-then-at-c c = sym (over_end _ _ c.if-at-c.true)

pub returns-then-c-at-lt8 : goal.returns-then-c-at-lt8
returns-then-c-at-lt8 c = sym (over_cut _ _ c.if-at-c.false (omega arith))

pub returns : goal.returns
unfolding four
returns c = c.is_tagged.ensures ∙ sym (over_tag _ _ c.if-at-c.false (omega arith))
