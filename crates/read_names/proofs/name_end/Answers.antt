-- No comma stands from i up to k; at a comma or the text's end the name is cut off.
use native.Mathlib.Omega.{arith}
use mathlib.Core.Path.{◌∙◌}
use Rattle.read_names.proofs.Cuts.{cut_start, cut_next, ends_comma, ends_last}
use Rattle.read_names.proofs.name_end.Goals as goal

pub loop-k-init : goal.loop-k-init
loop-k-init c = cut_start _ _ c.requires

pub returns-then-t-k-eq44 : goal.returns-then-t-k-eq44
returns-then-t-k-eq44 c =
    let l = c.loop-k in
    ends_comma _ _ _ (omega arith) l.invariant (omega arith) c.if-t-k-eq44.true

pub loop-k-preserved : goal.loop-k-preserved
loop-k-preserved c =
    let l = c.loop-k in
    l.invariant ∙ cut_next _ _ _ (omega arith) (omega arith) c.if-t-k-eq44.false

pub returns : goal.returns
returns c =
    let l = c.loop-k in
    ends_last _ _ _ (omega arith) l.invariant (omega arith)
