-- The search from place i on is the whole: each block that was passed over is the same.
use mathlib.Core.Path.{refl, ◌∙◌}
use native.Mathlib.Omega.{arith}
use Rattle.ask_check.proofs.Comparing.{first_past}
use borrow.Author.Rules.{rules}
use Rattle.ask_check.proofs.unlike.skip_blocks.Goals as goal

pub loop-i-init : goal.loop-i-init
loop-i-init c = (search rules, refl)

pub returns-then-not-is_same_block : goal.returns-then-not-is_same_block
returns-then-not-is_same_block c = c.loop-i.invariant

pub loop-i-preserved : goal.loop-i-preserved
loop-i-preserved c =
    let b = c in
    let l = b.loop-i in
    (omega arith, l.invariant.1 ∙ first_past _ _ l.i 64 _ (omega arith) (b.is_same_block.ensures (c.if-not-is_same_block.false)))

pub returns : goal.returns
returns c = c.loop-i.invariant
