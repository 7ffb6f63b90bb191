use mathlib.Core.Path.{sym, ap}
use Rattle.layout.specs.Write.{cntt_count}
use Rattle.write_plan.proofs.cntt_count.Goals as goal

pub returns-in-None : goal.returns-in-None
unfolding cntt_count
returns-in-None c = sym (ap cntt_count c.in-None.is)

pub returns-in-Some : goal.returns-in-Some
unfolding cntt_count
returns-in-Some c = sym (ap cntt_count c.in-Some.is)
