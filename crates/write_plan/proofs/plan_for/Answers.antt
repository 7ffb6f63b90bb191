use mathlib.Core.Path.{sym}
use Rattle.std.proofs.lemmas.Result.{err_from_is_err_and}
use Rattle.write_plan.proofs.Looking.{planned_not, planned_wrong, planned_short, planned_fits}
use Rattle.write_plan.proofs.plan_for.Goals as goal

pub returns-in_err-c : goal.returns-in_err-c
returns-in_err-c c =
    let p = err_from_is_err_and c.from_residual.result c.from_residual.ensures.1 in
    rw (p.1, p.2) (sym (planned_not _ _ _ c.in_err-c.was))

pub returns-then-c : goal.returns-then-c
returns-then-c c = sym (planned_wrong _ _ _ c.in_ok-c.was c.if-c.true)

pub returns-then-room-c : goal.returns-then-room-c
returns-then-room-c c = sym (planned_short _ _ _ c.in_ok-c.was c.if-c.false c.if-room-c.true)

pub returns : goal.returns
returns c = sym (planned_fits _ _ _ c.in_ok-c.was c.if-c.false c.if-room-c.false)
