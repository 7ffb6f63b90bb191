use Prim.Native.Nat.{ℕ, ◌-◌, ◌<◌, ◌≤◌}
use mathlib.Core.Path.{◌≡◌}
use mathlib.Core.Bool.{cond}
use lib.ListN.{length}
use Rattle.layout.specs.Refusals.{name_again}
use Rattle.layout.specs.Scan.{Refused, More}
use Rattle.layout.specs.Body.{group_place, group_turn}
use Rattle.read_met.specs.Before.{Places, again}
use Rattle.read_body.specs.Known.{Fixed, Insides}
use Rattle.read_body.proofs.survey.enter_groups.Given as goal

abbrev pub invariant-loop-group : goal.invariant-loop-group
invariant-loop-group l =
    (l.groups.count ≤ 32)
    × ((l.at ≡ group_place l.s l.groups.count)
    × ((l.at ≤ length l.s)
    × (Places l.s l.groups.count l.groups.places
    × (Insides l.s l.groups.count l.groups
    × (((k : ℕ) → k < l.groups.count → group_turn l.s k ≡ cond (again l.s k) (Refused name_again (group_place l.s k)) More) × Fixed l.s l.groups.count l.groups.edition)))))

abbrev pub decreases-loop-group : goal.decreases-loop-group
decreases-loop-group l = 33 - l.groups.count
