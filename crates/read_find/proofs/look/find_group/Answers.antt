-- The search for the group, told as an answer.
use mathlib.Core.Path.{sym, ◌∙◌}
use Rattle.read_find.proofs.AskLaws.{told_found}
use Rattle.read_find.proofs.ReadLaws.{group_no_lem, found_told, found_there}
use Rattle.read_find.proofs.look.find_group.Goals as goal

pub returns-in-Err : goal.returns-in-Err
returns-in-Err c =
    rw c.no_standing.ensures (group_no_lem _ _ _ _ (found_told _ _ _ (sym c.asked_group.ensures ∙ c.in-Err.is)))

pub returns-in-Ok : goal.returns-in-Ok
returns-in-Ok c = found_there _ _ _ _ (told_found _ _ _ (sym c.asked_group.ensures ∙ c.in-Ok.is))
