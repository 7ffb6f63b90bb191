use native.Mathlib.Omega.{arith}
use Rattle.write_chunks.proofs.Stored.{ctab_placed}
use Rattle.write_chunks.proofs.places.put_ctab_at.Goals as goal

pub returns : goal.returns
returns c =
    let put = c in
    let place = put.ctab_place-to in
    let start = put in
    ctab_placed _ _ (omega (arith, start.requires.1, place.ensures)) start.args.edition _ start.args.b.now put.put_ctab.new.out place.ensures start.requires.0 put.put_ctab.ensures
