-- The tables have what is known of the group.
use mathlib.Core.Path.{sym}
use native.Mathlib.Omega.{arith}
use Rattle.read_find.proofs.FindLaws.{number_found}
use Rattle.read_find.proofs.group_numbered.Goals as goal

pub returns : goal.returns
returns c = sym (number_found _ _ _ c.requires _ (omega arith) _ (rw c.wide.ensures at c.standing_at-standing.ensures))
