use Rattle.write_plan.proofs.Looking.{due_first, due_later}
use Rattle.write_plan.proofs.edition_due.Goals as goal

pub returns-then-i-eq0 : goal.returns-then-i-eq0
returns-then-i-eq0 c = due_first _ _ _ c.if-i-eq0.true

pub returns : goal.returns
returns c = due_later _ _ _ c.if-i-eq0.false
