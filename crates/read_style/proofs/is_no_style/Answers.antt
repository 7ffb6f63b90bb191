-- The rules of a style file's head in their order, one law for each way out.
use mathlib.Core.Path.{sym, ◌∙◌}
use native.Mathlib.Omega.{arith}
use Rattle.read_style.proofs.StyleLaws.{style_short, style_head, style_six, style_track, style_last}
use Rattle.read_style.proofs.is_no_style.Goals as goal

pub returns-then-file-lt22 : goal.returns-then-file-lt22
returns-then-file-lt22 c = sym (style_short _ (omega arith))

pub returns-then-not-is_tagged : goal.returns-then-not-is_tagged
returns-then-not-is_tagged c = sym (style_head _ (omega arith) _ c.is_tagged.ensures c.if-not-is_tagged.true)

pub returns-then-word_at-ne6 : goal.returns-then-word_at-ne6
returns-then-word_at-ne6 c =
    let d = c in
    sym (style_six _ (omega arith) _ d.is_tagged.ensures d.if-not-is_tagged.false (λ e. c.if-word_at-ne6.true (c.word_at.ensures.0 ∙ e)))

pub returns-then-not-is_tagged-2 : goal.returns-then-not-is_tagged-2
returns-then-not-is_tagged-2 c =
    let d = c in
    sym (style_track _ (omega arith) _ d.is_tagged.ensures d.if-not-is_tagged.false (sym c.word_at.ensures.0 ∙ c.if-word_at-ne6.false) _
    c.is_tagged-2.ensures c.if-not-is_tagged-2.true)

pub returns : goal.returns
returns c =
    let b = c in
    let d = b in
    sym (style_last _ (omega arith) _ d.is_tagged.ensures d.if-not-is_tagged.false (sym b.word_at.ensures.0 ∙ b.if-word_at-ne6.false) _
    b.is_tagged-2.ensures b.if-not-is_tagged-2.false _ c.word_at-2.ensures.0)
