-- The plan, its frame and the Ctabs, each in the room that the plan says.
use mathlib.Core.Path.{◌∙◌}
use native.Mathlib.Omega.{arith}
use Rattle.std.proofs.lemmas.Result.{err_from_is_err_and}
use Rattle.c_write.proofs.Steps.{none_written, fits, lent, ctabs_fit, all_written}
use Rattle.c_write.proofs.put_rows.Goals as goal

pub returns-in_err-plan : goal.returns-in_err-plan
returns-in_err-plan c =
    let a = c.args in
    let p = err_from_is_err_and c.from_residual.result c.from_residual.ensures.1 in
    rw (p.1, p.2) (none_written a.text.now a.flat.now a.out.now a.count _ c.plan_rows.ensures _ c.in_err-plan.was)

pub put_frame-at-requires : goal.put_frame-at-requires
put_frame-at-requires c =
    let a = c.args in
    λ p is.
    let f = fits a.text.now a.flat.now a.out.now a.count _ c.plan_rows.ensures p (c.in_ok-plan.was ∙ is) in
    (f.start, (rw is f.chunks, f.few))

pub put_row_ctabs-requires : goal.put_row_ctabs-requires
put_row_ctabs-requires c =
    let a = c.args in
    let e = c.plan_rows.ensures in
    let is = c.in_ok-plan.was in
    let room = ctabs_fit a.text.now a.flat.now a.out.now a.count _ e _ is c.put_frame-at.new.out _ c.put_frame-at.ensures.0 c.put_frame-at.auto.out in
    (lent a.text.now a.flat.now a.out.now a.count _ e _ is, ((fits a.text.now a.flat.now a.out.now a.count _ e _ is).editions, omega (arith, room)))

pub returns : goal.returns
returns c =
    let a = c.args in
    all_written a.text.now a.flat.now a.out.now a.count _ c.plan_rows.ensures _ c.in_ok-plan.was c.put_frame-at.new.out _ c.put_frame-at.ensures.0 c.put_frame-at.ensures.1 _ c.put_row_ctabs.ensures
