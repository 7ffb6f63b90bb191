use native.Mathlib.Omega.{arith}
use Rattle.write_chunks.proofs.Stored.{front_stored}
use Rattle.write_chunks.proofs.chunks.put_front.Goals as goal

pub returns : goal.returns
returns c =
    let start = c in
    let head = c.put_head in
    let put = c.put_sdec in
    front_stored start.args.out.now head.new.out (omega (arith, start.requires, head.auto.out)) start.args.text.now put.new.out start.args.size head.ensures put.ensures
