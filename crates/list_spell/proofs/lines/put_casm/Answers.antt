-- Four parts: the word, the place, the length, and the line's end.
use Prim.Native.Nat.{ℕ}
use mathlib.Core.List.{List, [], ◌∷◌}
use native.Mathlib.Omega.{arith}
use Rattle.layout.specs.Listing.{spaced, newline, casm_line}
use Rattle.list_spell.proofs.Putting.{four_put}
use Rattle.list_spell.proofs.lines.put_casm.Goals as goal

-- `casm`
abbrev word : List ℕ
word = 0x63 ∷ 0x61 ∷ 0x73 ∷ 0x6D ∷ []

pub returns-clause-put : goal.returns-clause-put
unfolding casm_line
returns-clause-put c =
    let a = c.args in
    four_put a.out.now 0 word (spaced a.tag) (spaced a.size) newline _ _ _ _ _ _ _ _ (omega arith) (omega arith) (omega arith) c.put_bytes-named.ensures c.put_spaced-placed.ensures.put c.put_spaced-measured.ensures.put c.put_bytes.ensures
