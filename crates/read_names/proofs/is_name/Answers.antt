-- The first k bytes are the same, so the whole answer is that of what is left of both.
use native.Mathlib.Omega.{arith}
use mathlib.Core.Path.{refl, sym, ◌∙◌}
use mathlib.Core.Bool.{true, false}
use borrow.Author.Tests.{eq-eqb, ne_eqb}
use Rattle.read_names.proofs.Compare.{same_sizes, same_next, same_over}
use Rattle.read_names.proofs.is_name.Goals as goal

pub returns-then-one-name : goal.returns-then-one-name
returns-then-one-name c = sym (same_sizes _ _ (λ e. omega arith))

pub loop-k-init : goal.loop-k-init
loop-k-init c = refl

pub returns-then-one-k : goal.returns-then-one-k
returns-then-one-k c =
    let l = c.loop-k in
    sym (l.invariant ∙ same_next _ _ l.k false (omega arith) (omega arith) (ne_eqb _ _ c.if-one-k.true))

pub loop-k-preserved : goal.loop-k-preserved
loop-k-preserved c =
    let l = c.loop-k in
    l.invariant ∙ same_next _ _ l.k true (omega arith) (omega arith) (eq-eqb _ _ c.if-one-k.false)

pub returns : goal.returns
returns c =
    let l = c.loop-k in
    sym (l.invariant ∙ same_over _ _ l.k (omega arith) (omega arith))
