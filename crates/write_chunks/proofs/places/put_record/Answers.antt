-- The bytes held are lent on: they are the record's.
use Rattle.write_chunks.proofs.Stored.{held_within, held_are, held_length, held_cut, ctab_put}
use Rattle.write_chunks.proofs.places.put_record.Goals as goal

pub slice_bounds-b-end : goal.slice_bounds-b-end
slice_bounds-b-end c =
    let is = c in
    held_within is.args.r is.edition_of-edition.result _ _ c.bytes_of-b.ensures is.edition_of-edition.ensures c.held_of-n.ensures

pub slice_bounds-put_ctab_at-end : goal.slice_bounds-put_ctab_at-end
slice_bounds-put_ctab_at-end c =
    let is = c in
    held_cut is.args.r is.edition_of-edition.result _ _ c.bytes_of-b.ensures is.edition_of-edition.ensures c.held_of-n.ensures

pub put_ctab_at-requires : goal.put_ctab_at-requires
put_ctab_at-requires c =
    let is = c in
    (held_length is.args.r is.edition_of-edition.result _ _ c.bytes_of-b.ensures is.edition_of-edition.ensures c.held_of-n.ensures, rw is.edition_of-edition.ensures is.requires)

pub returns : goal.returns
returns c =
    let bytes = c in
    let is = bytes in
    ctab_put _ _ _ _ _ _ _ is.edition_of-edition.ensures (held_are _ _ _ _ bytes.bytes_of-b.ensures is.edition_of-edition.ensures bytes.held_of-n.ensures) c.put_ctab_at.ensures
