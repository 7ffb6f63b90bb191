-- A byte is stored where the last one was, and at the end all of them stand at the start.
use Prim.Native.Nat.{ℕ}
use mathlib.Core.Path.{refl, ◌∙◌, ap}
use mathlib.Core.List.{List}
use native.Mathlib.Omega.{arith}
use lib.ListN.{get_or, set}
use Rattle.write_chunks.proofs.Tails.{fill_next, fill_end}
use Rattle.write_chunks.proofs.put.put_bytes.Goals as goal

pub loop-i-init : goal.loop-i-init
loop-i-init c = refl

pub loop-i-preserved : goal.loop-i-preserved
loop-i-preserved c =
    let l = c.loop-i in
    let a = c.args in
    let b = a.b.now in
    ap (λ (o : List ℕ). set o l.i (get_or b l.i 0)) l.invariant ∙ fill_next l.i b a.out.now (omega arith) (omega arith)

pub returns : goal.returns
returns c = let l = c.loop-i in l.invariant ∙ fill_end l.i _ _ (omega arith) (omega arith)
