use Prim.Native.Nat.{◌≤◌}
use mathlib.Core.Path.{◌≡◌}
use lib.ListN.{length}
use Rattle.read_table.specs.Reading.{planned_record}
use Rattle.c_read.proofs.RowsRead.{laid_from}
use Rattle.c_read.proofs.read_rows.Given as goal

abbrev pub invariant-loop-i : goal.invariant-loop-i
invariant-loop-i l = (l.i ≤ l.reading.count) × ((length l.flat ≡ length l.initial.flat) × (l.flat ≡ laid_from (planned_record l.s l.reading) l.reading.count l.i l.initial.flat))
