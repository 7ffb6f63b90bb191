use mathlib.Core.Path.{ap}
use Rattle.write_plan.specs.declared.Taken.{Taken}
use Rattle.write_plan.specs.Checking.{Looks, no_cntts}
use Rattle.write_plan.proofs.begin.Goals as goal

pub returns : goal.returns
returns c = ap {B = Taken} (λ (x : Looks). record { checked = x; cntts = no_cntts }) c.first_checked-checked.ensures
