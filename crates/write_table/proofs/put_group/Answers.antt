-- The plan, its frame and the Ctabs, each in the room that the plan says.
use mathlib.Core.Path.{refl, sym, ◌∙◌}
use lib.ListN.{length}
use native.Mathlib.Omega.{arith}
use Rattle.std.proofs.lemmas.Result.{err_from_is_err_and}
use Rattle.write_chunks.proofs.Written.{plan_fits, fits_first, plan_written, Left}
use Rattle.write_table.proofs.put_group.Goals as goal

pub returns-in_err-plan : goal.returns-in_err-plan
unfolding Left
returns-in_err-plan c =
    let a = c.args in
    let p = err_from_is_err_and c.from_residual.result c.from_residual.ensures.1 in
    rw (p.1, p.2) (plan_written a.text.now a.table.now a.count a.out.now a.out.now _ (sym c.in_err-plan.was ∙ c.plan_group.ensures) refl)

pub put_frame-at-requires : goal.put_frame-at-requires
put_frame-at-requires c =
    let a = c.args in
    λ p is.
    let f = plan_fits a.text.now a.table.now a.count (length a.out.now) _ (sym c.in_ok-plan.was ∙ c.plan_group.ensures) p is in
    (f.start, (rw is f.chunks, f.few))

pub put_ctabs-requires : goal.put_ctabs-requires
put_ctabs-requires c =
    let a = c.args in
    let p = c.in_ok-plan.plan in
    let f = plan_fits a.text.now a.table.now a.count (length a.out.now) _ (sym c.in_ok-plan.was ∙ c.plan_group.ensures) p refl in
    let g = fits_first a.text.now a.table.now (length a.out.now) p f p.records (omega arith) in
    (f.within, (g.0, rw (c.put_frame-at.ensures.0, c.put_frame-at.auto.out) g.1))

pub returns : goal.returns
unfolding Left
returns c =
    let a = c.args in
    plan_written a.text.now a.table.now a.count a.out.now _ _ (sym c.in_ok-plan.was ∙ c.plan_group.ensures)
    (rw (c.put_ctabs.ensures, c.put_frame-at.ensures.0, c.put_frame-at.ensures.1) refl)
