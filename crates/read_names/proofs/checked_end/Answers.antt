-- No comma stands from i up to k, and the bytes there are 20H to 7EH; at a comma or the text's end the name is cut off.
use Prim.Native.Nat.{◌+◌}
use lib.ListN.{length}
use native.Mathlib.Omega.{arith}
use mathlib.Core.Path.{refl, sym, ◌∙◌}
use mathlib.Core.Bool.{true, false}
use Rattle.read_names.proofs.Cuts.{cut_start, cut_next, ends_comma, ends_last}
use Rattle.read_names.proofs.Rules.{inside_low, inside_high, inside_yes, plain_next, plain_end}
use Rattle.read_names.proofs.checked_end.Goals as goal
use Rattle.read_names.proofs.checked_end.Goals.{then-t-k-lt32-via-then-t-k-lt32, then-t-k-lt32-via-else-t-k-lt32+then-t-k-gt126}

pub loop-k-init : goal.loop-k-init
loop-k-init c = (cut_start _ _ c.requires, refl)

pub returns-then-t-k-eq44 : goal.returns-then-t-k-eq44
returns-then-t-k-eq44 c =
    let l = c.loop-k in
    (ends_comma _ _ _ (omega arith) l.invariant.0 (omega arith) c.if-t-k-eq44.true, l.invariant.1 ∙ plain_next _ l.k true (omega arith) (inside_yes 32 126 _ (omega arith) (omega arith)))

pub returns-then-t-k-lt32 : goal.returns-then-t-k-lt32
returns-then-t-k-lt32 c =
    let l = c.loop-k in
    l.invariant.1 ∙ plain_next _ l.k false (omega arith) (
    elim c.then-t-k-lt32.branch [
      | then-t-k-lt32-via-then-t-k-lt32 w ↦ inside_low 32 126 _ (omega arith)
      | then-t-k-lt32-via-else-t-k-lt32+then-t-k-gt126 w ↦ inside_high 32 126 _ (omega arith)
    ]
    )

pub loop-k-preserved : goal.loop-k-preserved
loop-k-preserved c =
    let l = c.loop-k in
    (l.invariant.0 ∙ cut_next _ _ _ (omega arith) (omega arith) c.if-t-k-eq44.false, l.invariant.1 ∙ plain_next _ l.k true (omega arith) (inside_yes 32 126 _ (omega arith) (omega arith)))

pub returns : goal.returns
returns c =
    let a = c.args in
    let l = c.loop-k in
    (ends_last _ _ _ (omega arith) l.invariant.0 (omega arith), l.invariant.1 ∙ (plain_end a.t.now l.k (omega arith) ∙ sym (plain_end a.t.now (length a.t.now + 1) (omega arith))))
