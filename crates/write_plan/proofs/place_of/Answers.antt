-- The size of the edition that the match found.
use Rattle.write_plan.proofs.Looking.{place_at}
use Rattle.write_plan.proofs.place_of.Goals as goal

pub returns-in-First : goal.returns-in-First
returns-in-First c = place_at _ _ _ c.in-First.is

pub returns-in-Second : goal.returns-in-Second
returns-in-Second c = place_at _ _ _ c.in-Second.is
