use mathlib.Core.Path.{◌≡◌}
use Rattle.layout.specs.Scan.{first}
use Rattle.layout.specs.Ranges.{rule_at}
use Rattle.read_ranges.specs.Judging.{out_standing}
use Rattle.read_ranges.proofs.columns.first_out_part.Given as goal

abbrev pub invariant-loop-k : goal.invariant-loop-k
invariant-loop-k l =
    (l.rule ≡ rule_at l.s l.at l.k) × (first (out_standing l.low l.high l.ruled l.s l.at) l.from l.to ≡ first (out_standing l.low l.high l.ruled l.s l.at) l.k l.to)
