-- Four parts: the word, the number, the place, and the line's end.
use Prim.Native.Nat.{ℕ}
use mathlib.Core.List.{List, [], ◌∷◌}
use native.Mathlib.Omega.{arith}
use Rattle.layout.specs.Listing.{spaced, newline, refused_line}
use Rattle.list_spell.proofs.Putting.{four_put}
use Rattle.list_spell.proofs.lines.put_refused.Goals as goal

-- `refused`
abbrev word : List ℕ
word = 0x72 ∷ 0x65 ∷ 0x66 ∷ 0x75 ∷ 0x73 ∷ 0x65 ∷ 0x64 ∷ []

pub returns : goal.returns
unfolding refused_line
returns c =
    let a = c.args in
    four_put a.out.now 0 word (spaced a.number) (spaced a.place) newline _ _ _ _ _ _ _ _ (omega arith) (omega arith) (omega arith) c.put_bytes-named.ensures c.put_spaced-numbered.ensures.put c.put_spaced-placed.ensures.put c.put_bytes.ensures
