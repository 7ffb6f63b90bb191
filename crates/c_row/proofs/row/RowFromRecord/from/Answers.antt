-- The row of its parts.
use Rattle.c_row.proofs.RowLaws.{row_is}
use Rattle.c_row.proofs.row.RowFromRecord.from.Goals as goal

pub returns : goal.returns
returns c =
    let v = c in
    let h = v in
    let s = h in
    let b = s in
    let n = b in
    row_is _ _ _ _ _ _ _ _ n.edition_of.ensures s.second_of-second.ensures n.edition_number-edition.ensures h.has_of-has.ensures v.value_of-value.ensures c.position_of-position.ensures b.bytes_of-bytes.ensures
