use native.Mathlib.Omega.{arith}
use Rattle.layout.proofs.Editions.{held_size, size_least}
use Rattle.write_chunks.proofs.Stored.{held_first, held_second}
use Rattle.write_chunks.proofs.put.put_held.Goals as goal

pub put_bytes-requires : goal.put_bytes-requires
put_bytes-requires c = let start = c in omega (arith, start.requires.0, start.requires.1, held_size start.args.edition)

pub bounds-out-26 : goal.bounds-out-26
bounds-out-26 c =
    let put = c in
    let start = put in
    omega (arith, start.requires.1, put.put_bytes.auto.out, size_least start.args.edition)

pub returns-in-First : goal.returns-in-First
returns-in-First c =
    let put = c in
    let start = put in
    held_first _ start.args.b.now _ _ start.requires.0 put.put_bytes.ensures c.in-First.is start.requires.1

pub returns-in-Second : goal.returns-in-Second
returns-in-Second c =
    let put = c in
    let start = put in
    held_second _ start.args.b.now _ _ start.requires.0 put.put_bytes.ensures c.in-Second.is
