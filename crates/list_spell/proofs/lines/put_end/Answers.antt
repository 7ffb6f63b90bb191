-- Three parts: the word, the count, and the line's end.
use Prim.Native.Nat.{ℕ}
use mathlib.Core.List.{List, [], ◌∷◌}
use native.Mathlib.Omega.{arith}
use Rattle.layout.specs.Listing.{spaced, newline, end_line}
use Rattle.list_spell.proofs.Putting.{three_put}
use Rattle.list_spell.proofs.lines.put_end.Goals as goal

-- `end`
abbrev word : List ℕ
word = 0x65 ∷ 0x6E ∷ 0x64 ∷ []

pub returns : goal.returns
unfolding end_line
returns c =
    let a = c.args in
    three_put a.out.now a.at word (spaced a.n) newline _ _ _ _ _ _ (omega arith) (omega arith) c.put_bytes-named.ensures c.put_spaced-counted.ensures.put c.put_bytes.ensures
