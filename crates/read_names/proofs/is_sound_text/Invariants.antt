use Prim.Native.Nat.{◌+◌, ◌*◌, ◌-◌, ◌≤◌}
use mathlib.Core.Path.{◌≡◌}
use lib.ListN.{length, take}
use Rattle.read_names.proofs.Rules.{Kept}
use Rattle.read_names.proofs.is_sound_text.Given as goal

abbrev pub invariant-loop-i : goal.invariant-loop-i
invariant-loop-i l = (l.i ≤ length l.t + 1) × ((2 * l.m ≤ l.i) × ((l.i ≤ 17 * l.m) × ((length l.ends ≡ 128) × Kept l.t (take l.m l.ends) l.met l.i)))

abbrev pub decreases-loop-i : goal.decreases-loop-i
decreases-loop-i l = length l.t + 1 - l.i
