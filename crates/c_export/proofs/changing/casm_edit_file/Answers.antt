-- The face's promise, for the record that the row stands for and what the number asks.
use Rattle.c_export.proofs.Crossed.{file_edited_by}
use Rattle.c_export.proofs.changing.casm_edit_file.Goals as goal

pub returns : goal.returns
returns c =
    let asked = c in
    file_edited_by _ _ _ _ _ _ _ _ _ asked.from-new.ensures asked.override_by-asked.ensures c.edit_file-x.ensures
