-- The mark of the whole is what the bytes from b-index on make of m; m stays below 2^32.
use native.Mathlib.Omega.{arith}
use mathlib.Core.Path.{sym, ◌∙◌}
use Rattle.read_names.proofs.Marking.{mark_start, mark_next, mark_end}
use Rattle.read_names.proofs.mark_of.Goals as goal

pub loop-b-init : goal.loop-b-init
loop-b-init c = (omega arith, mark_start _)

pub loop-b-preserved : goal.loop-b-preserved
loop-b-preserved c =
    let l = c.loop-b in
    (omega arith, l.invariant.1 ∙ mark_next _ l.m l.b-index _ (omega arith) c.from.ensures)

pub returns : goal.returns
returns c =
    let l = c.loop-b in
    (c.spread_of.ensures.0 ∙ sym (mark_end _ l.m l.b-index l.invariant.1 (omega arith)), c.spread_of.ensures.1)
