-- The groups are asked one after the other, the texts where they lie; k goes up.
use mathlib.Core.Path.{sym, ◌∙◌}
use native.Mathlib.Omega.{arith}
use Rattle.read_met.proofs.Texts.{places_fewer}
use Rattle.read_met.proofs.Naming.{named_start, named_here, named_next, named_none}
use Rattle.read_met.proofs.group_named.Goals as goal

pub loop-k-init : goal.loop-k-init
loop-k-init c = named_start _ _ _

pub text_of-requires : goal.text_of-requires
text_of-requires c = (omega arith, places_fewer _ _ _ _ (omega arith) c.requires.1)

pub returns-then-has_name : goal.returns-then-has_name
returns-then-has_name c =
    named_here _ _ _ _ c.loop-k.invariant _ c.text_of.ensures (omega arith) (sym c.has_name.ensures ∙ c.if-has_name.true)

pub loop-k-preserved : goal.loop-k-preserved
loop-k-preserved c =
    (named_next _ _ _ _ c.loop-k.invariant _ c.text_of.ensures (omega arith) (sym c.has_name.ensures ∙ c.if-has_name.false))

pub returns : goal.returns
returns c = named_none _ _ _ _ c.loop-k.invariant (omega arith)
