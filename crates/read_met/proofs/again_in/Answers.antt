-- What is still to be looked at is the first from group number k on; the names of the groups before it are met. k goes up.
use Prim.Native.Nat.{ℕ}
use mathlib.Core.Path.{◌≡◌, refl, sym, ◌∙◌}
use mathlib.Core.Bool.{Bool}
use native.Mathlib.Omega.{arith}
use Rattle.layout.specs.Scan.{first}
use Rattle.layout.proofs.Scans.{first_end, first_here, first_next}
use Rattle.read_met.proofs.Texts.{places_fewer}
use Rattle.read_met.proofs.Marked.{marks_start}
use Rattle.read_met.proofs.again_in.Goals as goal

past : (p : ℕ → Bool) (n k : ℕ) → first p 0 n ≡ first p k n → n ≡ k → n ≡ first p 0 n
past p n k h e = e ∙ sym (h ∙ first_end p k n e)

pub loop-k-init : goal.loop-k-init
loop-k-init c = (marks_start _ _ _, refl)

pub is_named_before-requires : goal.is_named_before-requires
is_named_before-requires c =
    (omega arith, (places_fewer _ _ _ _ (omega arith) c.requires.1, c.loop-k.invariant.0))

pub returns-then-is_named_before : goal.returns-then-is_named_before
returns-then-is_named_before c =
    sym (c.loop-k.invariant.1 ∙ first_here _ _ _ (omega arith) (sym c.is_named_before.ensures.answer ∙ c.if-is_named_before.true))

pub loop-k-preserved : goal.loop-k-preserved
loop-k-preserved c =
    let b = c.is_named_before.ensures in
    (b.noted c.if-is_named_before.false, c.loop-k.invariant.1 ∙ first_next _ _ _ (omega arith) (sym b.answer ∙ c.if-is_named_before.false))

pub returns : goal.returns
returns c = past _ _ _ c.loop-k.invariant.1 (omega arith)
