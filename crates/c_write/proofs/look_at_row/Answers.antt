-- The record that the row stands for is that of its edition, the bytes behind it and its last three.
use native.Mathlib.Omega.{arith}
use Rattle.layout.proofs.Editions.{held_spare}
use Rattle.c_row.proofs.Parts.{row_behind}
use Rattle.c_write.proofs.Taking.{row_looked}
use Rattle.c_write.proofs.look_at_row.Goals as goal

pub look_at_bytes-requires : goal.look_at_bytes-requires
look_at_bytes-requires c =
    let second = c in
    let edition = second in
    let start = edition in
    (omega (arith, held_spare edition.edition_by-edition.result, start.requires.0), start.requires.1)

pub returns : goal.returns
returns c =
    let second = c in
    let edition = second in
    let row = edition.args.row.now in
    row_looked _ _ row _ _ _ _ _ _ (row_behind row) edition.edition_by-edition.ensures second.second_by-second.ensures c.look_at_bytes.ensures
