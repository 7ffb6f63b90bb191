-- The names before number e-index are others, so the answer is that of the names from it on.
use native.Mathlib.Omega.{arith}
use mathlib.Core.Path.{sym, ◌∙◌}
use mathlib.Core.Bool.{true, false}
use Rattle.read_names.proofs.Compare.{has_cut, has_none}
use Rattle.read_names.proofs.Rules.{cuts_rest, placed_rest, cuts_over}
use Rattle.read_names.proofs.is_again.Goals as goal

pub returns-then-is_name : goal.returns-then-is_name
returns-then-is_name c =
    let l = c.loop-e in
    sym (l.invariant.1 ∙ has_cut _ _ _ (cuts_rest _ l.i l.e-index c.from-e.result (omega arith) c.from-e.ensures _) true _ (sym c.if-is_name.true ∙ c.is_name.ensures))

pub loop-e-preserved : goal.loop-e-preserved
loop-e-preserved c =
    let l = c.loop-e in
    let p = placed_rest _ l.i l.e-index c.from-e.result (omega arith) c.from-e.ensures _ l.invariant.0 in
    (p.1.1, l.invariant.1 ∙ has_cut _ _ _ (cuts_rest _ l.i l.e-index c.from-e.result (omega arith) c.from-e.ensures _) false _ (sym c.if-is_name.false ∙ c.is_name.ensures))

pub returns : goal.returns
returns c =
    let l = c.loop-e in
    sym (l.invariant.1 ∙ has_none _ _ (cuts_over _ _ l.i l.e-index (omega arith)))
