use mathlib.Core.Path.{◌≡◌}
use Rattle.read_names.specs.Parts.{names_from}
use Rattle.read_names.proofs.Cuts.{cut_at}
use Rattle.read_names.proofs.name_end.Given as goal

abbrev pub invariant-loop-k : goal.invariant-loop-k
invariant-loop-k l = names_from l.t l.i ≡ cut_at l.t l.i l.k
