use mathlib.Core.Path.{sym, ap}
use Rattle.write_plan.specs.Checking.{measured_by}
use Rattle.write_plan.proofs.measured.Goals as goal

pub returns-in-Ok : goal.returns-in-Ok
unfolding measured_by
returns-in-Ok c = sym (ap measured_by c.in-Ok.is)

pub returns-in-Err : goal.returns-in-Err
unfolding measured_by
returns-in-Err c = sym (ap measured_by c.in-Err.is)
