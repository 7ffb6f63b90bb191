-- The record of a channel that a body has stands within the body: it ends where its group does, or before.
use Prim.Native.Nat.{ℕ, ◌+◌, ◌≤◌}
use mathlib.Core.List.{List}
use native.Mathlib.Omega.{arith}
use lib.ListN.{length}
use Rattle.layout.specs.Editions.{size}
use Rattle.layout.proofs.Accepted.{body_accepted}
use Rattle.law_checked.proofs.SamePlaces.{places_rise}
use Rattle.law_checked.proofs.RecordStands.{record_stands}
use Rattle.law_checked.proofs.Verdicts.{BodiesRead, row_before}

pub row_within : (s t : List ℕ) (g channel : ℕ) → BodiesRead s t g channel → (row_before s g channel).at + size (row_before s g channel).edition ≤ length s
row_within s t g channel r =
    omega (arith, (record_stands s g channel r.its).ends, places_rise s g r.n r.there, (body_accepted s r.n r.before).cover)
