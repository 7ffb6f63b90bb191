-- Of the bytes behind the row's edition those held are the record's: its Ctab is theirs.
use mathlib.Core.Path.{refl}
use lib.ListN.{replicate}
use Rattle.c_write.proofs.Taking.{taken_length, taken_cut, taken_within, taken_put}
use Rattle.c_write.proofs.put_row_bytes.Goals as goal

pub slice_bounds-b-end : goal.slice_bounds-b-end
slice_bounds-b-end c =
    let taken = c in
    let n = taken in
    let start = n in
    taken_within start.args.row.now _ (replicate 47 0) _ _ start.requires.0 start.requires.1.0 n.held_of-n.ensures refl taken.put_bytes.ensures

pub slice_bounds-put_ctab_at-end : goal.slice_bounds-put_ctab_at-end
slice_bounds-put_ctab_at-end c =
    let taken = c in
    let n = taken in
    let start = n in
    taken_cut start.args.row.now _ (replicate 47 0) _ _ start.requires.0 start.requires.1.0 n.held_of-n.ensures refl taken.put_bytes.ensures

pub put_ctab_at-requires : goal.put_ctab_at-requires
put_ctab_at-requires c =
    let taken = c in
    let n = taken in
    let start = n in
    (taken_length start.args.row.now _ (replicate 47 0) _ _ start.requires.0 start.requires.1.0 n.held_of-n.ensures refl taken.put_bytes.ensures, start.requires.1.1)

pub returns : goal.returns
returns c =
    let put = c in
    let taken = put in
    let n = taken in
    let start = n in
    taken_put start.args.row.now _ (replicate 47 0) _ _ start.requires.0 start.requires.1.0 n.held_of-n.ensures refl taken.put_bytes.ensures _ _ start.args.at start.args.i put.put_ctab_at.ensures
