use Prim.Native.Nat.{◌+◌, ◌-◌, ◌≤◌}
use mathlib.Core.Path.{◌≡◌}
use lib.ListN.{length}
use Rattle.layout.specs.Scan.{run}
use Rattle.layout.specs.Group.{ctab_place, ctab_channel, ctab_turn, ctabs_of}
use Rattle.read_group.specs.Seen.{Seen}
use Rattle.read_group.proofs.ctabs.read_ctabs.Given as goal

abbrev pub invariant-loop-channel : goal.invariant-loop-channel
invariant-loop-channel l =
    (ctab_place l.edition l.p l.n ≤ length l.c) × (Seen (ctab_channel l.edition l.c l.p) l.n l.seen × (ctabs_of l.edition l.c l.p ≡ run (ctab_turn l.edition l.c l.p) l.n (length l.c + 1)))

abbrev pub decreases-loop-channel : goal.decreases-loop-channel
decreases-loop-channel l = length l.c + 1 - l.n
