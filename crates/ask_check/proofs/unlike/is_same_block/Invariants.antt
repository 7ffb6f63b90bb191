use Prim.Native.Nat.{◌-◌, ◌≤◌}
use mathlib.Core.Path.{◌≡◌}
use Rattle.ask_check.specs.Apart.{SameFrom}
use Rattle.ask_check.proofs.unlike.is_same_block.Given as goal

abbrev pub invariant-loop-i : goal.invariant-loop-i
invariant-loop-i l = (l.i ≤ 64) × ((l.n ≤ l.i) × (l.n ≡ 0 → SameFrom l.s l.t l.k l.i))

abbrev pub decreases-loop-i : goal.decreases-loop-i
decreases-loop-i l = 64 - l.i
