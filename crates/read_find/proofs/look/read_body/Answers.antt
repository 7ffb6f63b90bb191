-- The run of the groups, told as a count.
use mathlib.Core.Path.{sym, ◌∙◌}
use Rattle.read_find.proofs.ReadLaws.{body_refused, body_counted}
use Rattle.read_find.proofs.look.read_body.Goals as goal

pub returns-in-Err : goal.returns-in-Err
returns-in-Err c = body_refused _ _ _ (sym c.run_body.ensures ∙ c.in-Err.is)

pub returns-in-Ok : goal.returns-in-Ok
returns-in-Ok c = body_counted _ _ (sym c.run_body.ensures ∙ c.in-Ok.is)
