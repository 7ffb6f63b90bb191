-- A row has as many bytes as either edition may hold.
use native.Mathlib.Omega.{arith}
use Rattle.layout.proofs.Editions.{held_spare}
use Rattle.c_row.proofs.row.made.Goals as goal

pub record_of-requires : goal.record_of-requires
record_of-requires c = omega (arith, held_spare c.args.edition)
