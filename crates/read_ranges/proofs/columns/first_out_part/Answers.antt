-- What is still to be looked at is the whole search from byte k on, and `rule` is the byte before it; k goes up.
use mathlib.Core.Path.{sym, refl, ◌∙◌}
use native.Mathlib.Omega.{arith}
use Rattle.layout.proofs.Scans.{first_end, first_here, first_next}
use Rattle.layout.proofs.Outs.{rule_next}
use Rattle.read_ranges.proofs.Judging.{stands_at}
use Rattle.read_ranges.proofs.columns.first_out_part.Goals as goal

pub returns-then-is_out_by : goal.returns-then-is_out_by
returns-then-is_out_by c =
    let l = c.loop-k in
    sym (l.invariant.1 ∙ first_here _ _ _ (omega arith) (stands_at _ _ _ _ _ _ _ _ l.invariant.0 (sym c.if-is_out_by.true ∙ c.is_out_by.ensures)))

pub loop-k-preserved : goal.loop-k-preserved
loop-k-preserved c =
    let l = c.loop-k in
    (rule_next _ _ _ _ refl, l.invariant.1 ∙ first_next _ _ _ (omega arith) (stands_at _ _ _ _ _ _ _ _ l.invariant.0 (sym c.if-is_out_by.false ∙ c.is_out_by.ensures)))

pub returns : goal.returns
returns c =
    let l = c.loop-k in
    sym (l.invariant.1 ∙ (first_end _ _ _ (omega arith) ∙ omega arith))
