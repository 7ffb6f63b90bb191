-- The record that was looked for, then the edit there; or the refusal of the search.
use mathlib.Core.Path.{sym}
use Rattle.read_find.proofs.RowLaws.{record_within}
use Rattle.write_edit.proofs.Editing.{edit_refused, edit_there}
use Rattle.write_edit.proofs.edit_record.Goals as goal

pub edit_at-requires : goal.edit_at-requires
edit_at-requires c =
    record_within _ _ _ _ _ _ (sym c.in-Ok.ensures)

pub returns-in-Err : goal.returns-in-Err
returns-in-Err c =
    edit_refused _ _ _ _ _ _ _ _ c.answer.ensures (sym c.in-Err.ensures)

pub returns-in-Ok : goal.returns-in-Ok
returns-in-Ok c =
    edit_there _ _ _ _ _ _ _ _ _ _ (sym c.in-Ok.ensures) c.edit_at.ensures
