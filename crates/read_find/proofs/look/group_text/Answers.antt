-- The part of the body that the group's standing names; nothing on refusal.
use mathlib.Core.Path.{sym, ◌∙◌}
use native.Mathlib.Omega.{arith}
use Rattle.read_find.proofs.AskLaws.{told_found, group_there_is, there_within}
use Rattle.read_find.proofs.ReadLaws.{text_none, text_told, text_there}
use Rattle.read_find.proofs.look.group_text.Goals as goal

pub overflow_add-end : goal.overflow_add-end
overflow_add-end c =
    let w = (there_within _ _ _ (group_there_is _ _ _ _ (told_found _ _ _ (sym c.asked_group.ensures ∙ c.in-Ok.is)))).text in
    omega arith

pub slice_bounds-result-end-in-Ok : goal.slice_bounds-result-end-in-Ok
slice_bounds-result-end-in-Ok c = (there_within _ _ _ (group_there_is _ _ _ _ (told_found _ _ _ (sym c.asked_group.ensures ∙ c.in-Ok.is)))).text

pub returns-in-Err : goal.returns-in-Err
returns-in-Err c = text_none _ _ _ _ (text_told _ _ _ (sym c.asked_group.ensures ∙ c.in-Err.is))

pub returns-in-Ok : goal.returns-in-Ok
returns-in-Ok c = text_there _ _ _ (group_there_is _ _ _ _ (told_found _ _ _ (sym c.asked_group.ensures ∙ c.in-Ok.is)))
