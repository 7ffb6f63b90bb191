-- 47 bytes are as many as either edition holds.
use native.Mathlib.Omega.{arith}
use Rattle.layout.proofs.Editions.{held_spare}
use Rattle.casm.proofs.bytes.record_of.Goals as goal

pub record_of-requires : goal.record_of-requires
record_of-requires c = omega (arith, held_spare c.args.edition)
