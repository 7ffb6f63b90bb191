use Prim.Native.Nat.{◌<◌}
use mathlib.Core.Path.{◌≡◌}
use lib.ListN.{drop}
use Rattle.read_names.specs.Marks.{mark_from, spread, mark}
use Rattle.read_names.proofs.mark_of.Given as goal

abbrev pub invariant-loop-b : goal.invariant-loop-b
invariant-loop-b l = (l.m < 4294967296) × (mark l.name ≡ spread (mark_from l.m (drop l.b-index l.name)))
