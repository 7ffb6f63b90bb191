-- The face's answer for the record that the row stands for, and its record as a row again.
use Rattle.c_export.proofs.Crossed.{edit_told, changed_by}
use Rattle.c_export.proofs.changing.casm_field.Goals as goal

pub returns : goal.returns
returns c = edit_told c.set_field-x.result _ _ c.from-told.ensures (changed_by _ _ _ _ _ c.from.ensures c.set_field-x.ensures)
