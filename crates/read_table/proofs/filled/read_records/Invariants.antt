-- The first i places of the table hold the records, and the others are as they were.
use mathlib.Core.Path.{◌≡◌}
use Rattle.read_table.specs.Reading.{planned_record}
use Rattle.read_table.proofs.RecordLaws.{filled}
use Rattle.read_table.proofs.filled.read_records.Given as goal

abbrev pub invariant-loop-i : goal.invariant-loop-i
invariant-loop-i l = l.table ≡ filled (planned_record l.s l.reading) l.i l.initial.table
