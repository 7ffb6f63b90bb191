-- The group, the after body's run, then the group's record.
use mathlib.Core.Path.{sym, ap, ◌∙◌}
use Rattle.std.specs.Prelude.{Ok}
use Rattle.read_find.proofs.AskLaws.{group_there_is, there_within}
use Rattle.ask_check.specs.Both.{row_told}
use Rattle.ask_check.proofs.Finding.{before_refused, after_refused, no_group_there, row_there_told}
use Rattle.ask_check.proofs.both.find_in_both.Goals as goal

pub find_in-requires : goal.find_in-requires
find_in-requires c = (there_within _ _ _ (group_there_is _ _ _ _ (sym c.in-Ok.ensures ∙ ap Ok c.in-Some.is))).ctabs

pub returns-in-Err : goal.returns-in-Err
returns-in-Err c = before_refused _ _ _ _ _ _ (sym c.in-Err.ensures)

pub returns-in-Err-run_body : goal.returns-in-Err-run_body
returns-in-Err-run_body c = after_refused _ _ _ _ _ (sym c.in-Ok.ensures) _ (sym c.in-Err-run_body.ensures)

pub returns-in_default : goal.returns-in_default
returns-in_default c = no_group_there _ _ _ _ _ (sym c.in-Ok-run_body.ensures) (sym c.in-Ok.ensures ∙ ap Ok c.in_default.is)

pub returns-in-Ok-find_in : goal.returns-in-Ok-find_in
unfolding row_told
returns-in-Ok-find_in c = row_there_told _ _ _ _ _ (sym c.in-Ok-run_body.ensures) _ (sym c.in-Ok.ensures ∙ ap Ok c.in-Some.is) _ c.in-Ok-find_in.ensures

pub returns-in-Err-find_in : goal.returns-in-Err-find_in
unfolding row_told
returns-in-Err-find_in c = row_there_told _ _ _ _ _ (sym c.in-Ok-run_body.ensures) _ (sym c.in-Ok.ensures ∙ ap Ok c.in-Some.is) _ c.in-Err-find_in.ensures
