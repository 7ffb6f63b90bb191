-- The record behind the room of its header, then the header.
use native.Mathlib.Omega.{arith}
use Rattle.write_chunks.proofs.Stored.{ctab_stored}
use Rattle.write_chunks.proofs.chunks.put_ctab.Goals as goal

pub returns : goal.returns
returns c =
    let head = c in
    let put = head in
    let start = put in
    ctab_stored start.args.edition _ _ start.args.out.now start.args.b.now put.put_held.new.out _ (omega (arith, start.requires.1)) head.tag_of.ensures.0
    head.size_of.ensures start.requires.0 put.put_held.ensures head.put_head.ensures
