-- The 47 elements of a record's bytes are these bytes, and its Cntt stands behind them. What is laid for the Cntt is read off the goal first, so that a number at another place is named.
use native.Mathlib.Omega.{arith}
use Rattle.c_row.proofs.RowLaws.{row_spelled}
use Rattle.c_row.proofs.row.row_bytes.Goals as goal

pub returns : goal.returns
returns c =
    let v = c in
    let h = v in
    let s = h in
    let b = s in
    let n = b in
    row_spelled _ _ _ _ _ _ _ _ n.edition_of.ensures s.second_of-second.ensures (omega (arith, n.edition_number-edition.ensures)) (omega (arith, h.has_of-has.ensures)) (omega (arith, v.value_of-value.ensures)) (omega (arith, c.position_of-position.ensures)) b.bytes_of-b.ensures
