-- What crosses is the face's answer, field by field, and the number of its edition.
use Rattle.c_export.proofs.Grouped.{group_told}
use Rattle.c_export.proofs.reading.casm_group.Goals as goal

pub returns : goal.returns
returns c = group_told _ _ c.find_group-x.result _ c.find_group-x.ensures c.edition_told-edition.ensures
