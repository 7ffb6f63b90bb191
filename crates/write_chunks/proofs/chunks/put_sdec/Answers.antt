use native.Mathlib.Omega.{arith}
use Rattle.write_chunks.proofs.Stored.{sdec_stored}
use Rattle.write_chunks.proofs.chunks.put_sdec.Goals as goal

pub returns : goal.returns
returns c =
    let start = c in
    let head = c.put_head in
    let put = c.put_bytes in
    sdec_stored start.args.out.now head.new.out (omega (arith, start.requires, head.auto.out)) start.args.text.now put.new.out head.ensures put.ensures
