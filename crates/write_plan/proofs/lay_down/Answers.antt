use Prim.Native.Nat.{◌+◌, ◌*◌, ◌-◌}
use mathlib.Core.Path.{◌≡◌, sym, ◌∙◌}
use native.Mathlib.Omega.{arith}
use Rattle.write_plan.proofs.Down.{free_is, down_none, down_lost, down_not, down_there}
use Rattle.write_plan.proofs.lay_down.Goals as goal

pub returns-then-position-eq0 : goal.returns-then-position-eq0
returns-then-position-eq0 c = down_none _ _ _ _ c.in-None.is c.if-position-eq0.true

pub returns-then-not-is_free : goal.returns-then-not-is_free
returns-then-not-is_free c = down_not _ _ _ _ _ c.in-Some.is (sym c.is_free.ensures ∙ c.if-not-is_free.true)

pub overflow_mul-at : goal.overflow_mul-at
overflow_mul-at c = omega (arith, free_is _ _ (sym c.is_free.ensures ∙ c.if-not-is_free.false))

pub overflow_sub-at : goal.overflow_sub-at
overflow_sub-at c = omega (arith, free_is _ _ (sym c.is_free.ensures ∙ c.if-not-is_free.false))

pub bounds-cntts-at : goal.bounds-cntts-at
bounds-cntts-at c = omega (arith, free_is _ _ (sym c.is_free.ensures ∙ c.if-not-is_free.false))

pub overflow_add-cntts : goal.overflow_add-cntts
overflow_add-cntts c = omega (arith, free_is _ _ (sym c.is_free.ensures ∙ c.if-not-is_free.false))

pub bounds-cntts-at-in-Some : goal.bounds-cntts-at-in-Some
bounds-cntts-at-in-Some c = omega (arith, free_is _ _ (sym c.is_free.ensures ∙ c.if-not-is_free.false))

pub returns-else-position-eq0 : goal.returns-else-position-eq0
returns-else-position-eq0 c = down_lost _ _ _ _ c.in-None.is c.if-position-eq0.false

pub returns-else-not-is_free : goal.returns-else-not-is_free
returns-else-not-is_free c =
    let free = sym c.is_free.ensures ∙ c.if-not-is_free.false in
    let z : 2 * c.args.position - 2 + 1 ≡ 2 * c.args.position - 1 = omega (arith, free_is _ _ free) in
    rw z (down_there _ _ _ _ _ c.in-Some.is free)
