use mathlib.Core.Path.{sym, ap}
use Rattle.layout.specs.declared.edition.Edition.{Edition}
use Rattle.write_plan.specs.Checking.{first_only}
use Rattle.write_plan.proofs.first_only.Goals as goal

pub returns-in-First : goal.returns-in-First
unfolding first_only
returns-in-First g c = let a = c.args in sym (ap (λ (e : Edition). first_only e a.given a.none) c.in-First.is)

pub returns-in-Second : goal.returns-in-Second
unfolding first_only
returns-in-Second g c = let a = c.args in sym (ap (λ (e : Edition). first_only e a.given a.none) c.in-Second.is)
