-- One law for each way out.
use mathlib.Core.Path.{sym, ◌∙◌}
use borrow.Author.Tests.{eq-eqb}
use Rattle.ask_place.proofs.Ways.{bypass_00, bypass_80}
use Rattle.ask_place.proofs.choose.is_bypass.Goals as goal

pub returns-then-table-eq0 : goal.returns-then-table-eq0
returns-then-table-eq0 c = eq-eqb _ _ c.if-table-eq0.true ∙ sym (bypass_00 _ c.if-table-eq0.true)

pub returns-else-table-eq0 : goal.returns-else-table-eq0
returns-else-table-eq0 c = sym (bypass_80 _ c.if-table-eq0.false)
