use Prim.Native.Nat.{◌-◌, ◌≤◌}
use mathlib.Core.Path.{◌≡◌}
use Rattle.layout.specs.Scan.{first}
use Rattle.ask_check.specs.Apart.{apart_at}
use Rattle.ask_check.proofs.unlike.skip_blocks.Given as goal

abbrev pub invariant-loop-i : goal.invariant-loop-i
invariant-loop-i l = (l.i ≤ l.e) × (first (apart_at l.s l.t) l.k l.e ≡ first (apart_at l.s l.t) l.i l.e)

abbrev pub decreases-loop-i : goal.decreases-loop-i
decreases-loop-i l = l.e - l.i
