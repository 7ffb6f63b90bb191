-- What is still to be looked at is the search from place i on; i goes up.
use mathlib.Core.Path.{sym, ap, ◌∙◌}
use mathlib.Core.Bool.{not}
use native.Mathlib.Omega.{arith}
use borrow.Author.Tests.{eq-eqb, ne_eqb}
use Rattle.layout.proofs.Scans.{first_end, first_here, first_next}
use Rattle.ask_check.specs.Apart.{apart_at}
use Rattle.ask_check.proofs.unlike.first_apart.Goals as goal

pub loop-i-init : goal.loop-i-init
loop-i-init c = c.skip_blocks-i.ensures

pub returns-then-s-i : goal.returns-then-s-i
unfolding apart_at
returns-then-s-i c =
    let l = c.loop-i in
    sym (l.invariant.1 ∙ first_here _ _ _ (omega arith) (ap not (ne_eqb _ _ c.if-s-i.true)))

pub loop-i-preserved : goal.loop-i-preserved
unfolding apart_at
loop-i-preserved c =
    let l = c.loop-i in
    (omega arith, l.invariant.1 ∙ first_next _ _ _ (omega arith) (ap not (eq-eqb _ _ c.if-s-i.false)))

pub returns : goal.returns
returns c =
    let l = c.loop-i in
    sym (l.invariant.1 ∙ (first_end _ _ _ (omega arith) ∙ omega arith))
