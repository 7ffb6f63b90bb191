use Prim.Native.Nat.{ℕ, ◌+◌, ◌-◌}
use Rattle.read_find.proofs.Sites.{Before}
use Rattle.read_find.proofs.site.walk.Given as goal

abbrev pub invariant-loop-at : goal.invariant-loop-at
invariant-loop-at l = (n : ℕ) × Before l.s l.place l.at n l.groups l.rank

abbrev pub decreases-loop-at : goal.decreases-loop-at
decreases-loop-at l = l.place + 1 - l.at
