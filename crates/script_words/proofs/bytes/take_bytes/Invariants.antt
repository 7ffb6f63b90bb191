-- The room is never fuller than it is large.
use Prim.Native.Nat.{◌≤◌}
use Rattle.script_words.proofs.bytes.take_bytes.Given as goal

abbrev pub invariant-loop-part : goal.invariant-loop-part
invariant-loop-part l =
    (goal.iterator-loop-part).can_next l.part-iterator ×
    (goal.iterator-loop-part).is_finite l.part-iterator ×
    l.held ≤ 1048577
