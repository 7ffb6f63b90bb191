use Prim.Native.Nat.{ℕ}
use mathlib.Core.List.{List}
use Rattle.std.specs.Iterator.{AlwaysYields}
use Rattle.read_met.proofs.Marked.{Passing}
use Rattle.read_met.proofs.is_named_before.Given as goal

-- the names still to come
abbrev pub invariant-loop-name : goal.invariant-loop-name
invariant-loop-name l =
    (ns : List (List ℕ)) × (AlwaysYields (goal.iterator-loop-name).next_gives (λ x. x.now) l.name-iterator ns × Passing l.s l.n l.share ns l.table)
