-- The header's rules in their order, one law for each way out.
use mathlib.Core.Path.{sym, ◌∙◌}
use native.Mathlib.Omega.{arith}
use borrow.Author.Tests.{not-true, not-false}
use Rattle.layout.proofs.Heads.{fault_cut, fault_tag, fault_past, fault_none}
use Rattle.read_bytes.specs.Heads.{headed}
use Rattle.read_bytes.proofs.Headed.{as_headed}
use Rattle.read_bytes.proofs.check_head.Goals as goal

pub returns-then-s-at-lt8 : goal.returns-then-s-at-lt8
unfolding headed
returns-then-s-at-lt8 c = as_headed 2 _ _ (sym (fault_cut _ _ _ (omega arith)))

pub returns-then-not-is_tagged : goal.returns-then-not-is_tagged
unfolding headed
returns-then-not-is_tagged c = as_headed 6 _ _ (sym (fault_tag _ _ _ (omega arith) (sym c.is_tagged.ensures ∙ not-true _ c.if-not-is_tagged.true-raw)))

pub returns-then-s-at : goal.returns-then-s-at
unfolding headed
returns-then-s-at c = as_headed 2 _ _ (sym (fault_past _ _ _ (omega arith) (sym c.is_tagged.ensures ∙ not-false _ c.if-not-is_tagged.false-raw) (omega arith)))

pub returns : goal.returns
unfolding headed
returns c = as_headed 0 _ _ (sym (fault_none _ _ _ (omega arith) (sym c.is_tagged.ensures ∙ not-false _ c.if-not-is_tagged.false-raw) (omega arith)))
