-- The first i records are looked at.
use mathlib.Core.Path.{◌≡◌}
use lib.ListN.{length}
use Rattle.write_plan.specs.Checking.{begun, taken_at}
use Rattle.write_table.proofs.lent.plan_group.Given as goal

abbrev pub invariant-loop-i : goal.invariant-loop-i
invariant-loop-i l = l.x ≡ taken_at (begun l.text (length l.table) l.count) l.table l.i
