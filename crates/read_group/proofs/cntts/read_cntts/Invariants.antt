use Prim.Native.Nat.{◌+◌, ◌*◌, ◌-◌, ◌≤◌}
use mathlib.Core.Path.{◌≡◌}
use lib.ListN.{length}
use Rattle.layout.specs.Scan.{run}
use Rattle.layout.specs.Group.{cntt_channel, cntt_turn, cntts_of}
use Rattle.read_group.specs.Seen.{Seen}
use Rattle.read_group.proofs.cntts.read_cntts.Given as goal

abbrev pub invariant-loop-channel : goal.invariant-loop-channel
invariant-loop-channel l =
    (l.p + 35 * l.n + 10 * l.j ≤ length l.c) × (Seen (cntt_channel l.c (l.p + 35 * l.n)) l.j l.seen × (cntts_of l.c l.p l.n ≡ run (cntt_turn l.c l.p l.n (l.p + 35 * l.n)) l.j (length l.c + 1)))

abbrev pub decreases-loop-channel : goal.decreases-loop-channel
decreases-loop-channel l = length l.c + 1 - l.j
