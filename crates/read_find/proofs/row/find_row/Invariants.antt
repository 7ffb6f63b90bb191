use mathlib.Core.Path.{◌≡◌}
use lib.Dec.{eqb}
use Rattle.layout.specs.Scan.{first}
use Rattle.layout.specs.Group.{ctab_of, ctab_channel}
use Rattle.read_find.proofs.row.find_row.Given as goal

abbrev pub invariant-loop-i : goal.invariant-loop-i
invariant-loop-i l = ctab_of l.edition l.s l.p l.n l.channel ≡ first (λ k. eqb (ctab_channel l.edition l.s l.p k) l.channel) l.i l.n
