-- All names in one pass, or the lower half of the marks and then the upper.
use Prim.Native.Nat.{◌≤◌}
use mathlib.Core.Path.{◌∙◌}
use native.Mathlib.Omega.{arith}
use Rattle.layout.proofs.Scans.{first_within}
use Rattle.read_met.proofs.Texts.{places_fewer}
use Rattle.read_met.proofs.Shares.{again_all, again_halves}
use Rattle.read_met.proofs.first_again.Goals as goal

pub returns-then-not-is_crowded : goal.returns-then-not-is_crowded
returns-then-not-is_crowded c = c.again_in.ensures ∙ again_all _ _

pub again_in-requires-2 : goal.again_in-requires-2
again_in-requires-2 c =
    let within : c.again_in-k.result ≤ c.args.n = rw c.again_in-k.ensures (first_within _ _) in
    (omega arith, places_fewer _ _ _ _ within c.requires.1)

pub returns : goal.returns
returns c = c.again_in-2.ensures ∙ again_halves _ _ _ c.again_in-k.ensures
