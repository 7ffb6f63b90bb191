-- Four parts: the place, the length, the kind, and the line's end.
use native.Mathlib.Omega.{arith}
use Rattle.layout.specs.Listing.{decimal, spaced, newline, entry_line}
use Rattle.list_spell.proofs.Putting.{four_put}
use Rattle.list_spell.proofs.lines.put_entry.Goals as goal

pub returns : goal.returns
unfolding entry_line
returns c =
    let a = c.args in
    four_put a.out.now a.at (decimal a.place) (spaced a.size) (spaced a.kind) newline _ _ _ _ _ _ _ _ (omega arith) (omega arith) (omega arith) c.put_number-placed.ensures.put c.put_spaced-sized.ensures.put c.put_spaced-told.ensures.put c.put_bytes.ensures
