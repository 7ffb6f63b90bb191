-- Where none of the bytes so far was found to differ they are the same; the number of those that do stays below the block's.
use mathlib.Core.Path.{◌≡◌}
use native.Mathlib.Omega.{arith}
use borrow.Author.Tests.{eqb-true}
use Rattle.ask_check.proofs.Comparing.{same_more}
use Rattle.ask_check.proofs.unlike.is_same_block.Goals as goal

pub loop-i-init : goal.loop-i-init
loop-i-init c = (omega arith, (omega arith, λ z j l. absurd (omega arith)))

pub overflow_add-n : goal.overflow_add-n
overflow_add-n c = let l = c.loop-i in omega (arith, c.differ-n.ensures.0, l.invariant.1.0, l.invariant.0)

pub loop-i-preserved : goal.loop-i-preserved
loop-i-preserved c =
    let l = c.loop-i in
    let d = c.differ-n.ensures in
    (omega arith, (omega (arith, d.0, l.invariant.1.0), same_more _ _ _ l.n _ l.i l.invariant.1.1 d.1))

pub returns : goal.returns
returns c h =
    let l = c.loop-i in
    let e : l.i ≡ 64 = omega (arith, l.invariant.0) in
    rw e at (l.invariant.1.1 (eqb-true _ _ h))
