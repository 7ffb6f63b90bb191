-- The walk stands at chunk number n, no place before it is the one asked for; each turn passes over one chunk.
use Prim.Native.Nat.{ℕ, ◌+◌}
use mathlib.Core.Path.{ap, ◌∙◌}
use mathlib.Core.Bool.{Bool, cond}
use native.Mathlib.Omega.{arith}
use Rattle.read_find.proofs.Sites.{begun, step_is, step_least, one_for, before_start, before_next, before_end}
use Rattle.read_find.proofs.site.walk.Goals as goal

pub loop-at-init : goal.loop-at-init
loop-at-init c = (0, before_start _ _)

pub returns-then-place-at : goal.returns-then-place-at
returns-then-place-at c =
    let i = c.loop-at.invariant in
    let stepped = step_is _ _ _ _ _ (begun _ _ _ c.is_tagged-begins.ensures) c.word_at-whole.ensures.0 c.step_of-step.ensures in
    c.told.ensures ∙ before_end _ _ _ _ _ _ i.1 (omega (arith, c.if-place-at.true, stepped, i.1.on.before))

pub loop-at-preserved : goal.loop-at-preserved
loop-at-preserved c =
    let i = c.loop-at.invariant in
    let t = begun _ _ _ c.is_tagged-begins.ensures in
    let stepped = step_is _ _ _ _ _ t c.word_at-whole.ensures.0 c.step_of-step.ensures in (
      i.0 + 1,
      before_next _ _ _ _ _ _ i.1 _ _ _ stepped (omega (arith, c.if-place-at.false, i.1.on.before))
          (ap (λ (x : ℕ). c.loop-at.groups + x) (c.from-groups.ensures ∙ (one_for _ ∙ ap (λ (b : Bool). cond b 1 0) t)))
          (ap (λ (x : ℕ). x + 1) (c.child_of-rank.ensures ∙ ap (λ (b : Bool). cond b 0 c.loop-at.rank) t)),
    )

pub returns : goal.returns
returns c =
    let i = c.loop-at.invariant in
    c.told-2.ensures ∙ before_end _ _ _ _ _ _ i.1 (omega (arith, c.loop-at-test.false, i.1.on.before, step_least c.args.s.now c.loop-at.at))
