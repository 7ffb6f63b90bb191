-- Four bytes, each below 256: their number, and their tag.
use mathlib.Core.Path.{sym, ◌∙◌}
use native.Mathlib.Omega.{arith}
use Rattle.layout.proofs.Numbers.{word_is, tag_is, four_of}
use borrow.Author.Rules.{rules}
use Rattle.read_bytes.proofs.word_at.Goals as goal

pub returns : goal.returns
returns c =
    let a = c.byte-a in
    let b = c.byte-b in
    let d = c.byte-c in
    let e = c.byte-d in (
      word_is _ _ _ _ _ _ a.ensures.0 b.ensures.0 d.ensures.0 e.ensures.0,
      (
        tag_is _ _ _ _ _ _ (search rules) a.ensures.0 b.ensures.0 d.ensures.0 e.ensures.0
            ∙ sym (four_of _ _ _ _ a.ensures.1 b.ensures.1 d.ensures.1 e.ensures.1),
        omega arith,
      ),
    )
