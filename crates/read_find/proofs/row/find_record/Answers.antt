-- The group, then its record.
use mathlib.Core.Path.{sym, ◌∙◌}
use Rattle.std.proofs.lemmas.Result.{err_from_is_err_and}
use Rattle.read_find.proofs.AskLaws.{told_found, group_there_is, there_within}
use Rattle.read_find.proofs.RowLaws.{row_told, row_found}
use Rattle.read_find.proofs.row.find_record.Goals as goal

pub returns-in_err-found : goal.returns-in_err-found
returns-in_err-found c =
    let p = err_from_is_err_and c.from_residual.result c.from_residual.ensures.1 in
    rw (p.1, p.2) (row_told _ _ _ _ (sym c.asked_group.ensures ∙ c.in_err-found.was))

pub find_in-requires : goal.find_in-requires
find_in-requires c = (there_within _ _ _ (group_there_is _ _ _ _ (told_found _ _ _ (sym c.asked_group.ensures ∙ c.in_ok-found.was)))).ctabs

pub returns : goal.returns
returns c =
    c.find_in.ensures ∙ row_found _ _ _ _ (group_there_is _ _ _ _ (told_found _ _ _ (sym c.asked_group.ensures ∙ c.in_ok-found.was)))
