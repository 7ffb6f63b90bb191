-- A space, and the number behind it.
use mathlib.Core.List.{[], ◌∷◌}
use native.Mathlib.Omega.{arith}
use Rattle.layout.specs.Listing.{decimal, spaced}
use Rattle.list_spell.proofs.Putting.{two_put}
use Rattle.list_spell.proofs.put.put_spaced.Goals as goal

pub returns-clause-put : goal.returns-clause-put
unfolding spaced
returns-clause-put c =
    let a = c.args in
    two_put a.out.now a.at (0x20 ∷ []) (decimal a.n) _ _ _ _ (omega arith) c.put_bytes-behind.ensures c.put_number.ensures.put
