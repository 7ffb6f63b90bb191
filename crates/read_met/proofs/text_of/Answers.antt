-- The table has the group's place, and the text stands within the body.
use native.Mathlib.Omega.{arith}
use Rattle.read_met.proofs.Texts.{text_fits, text_part}
use Rattle.read_met.proofs.text_of.Goals as goal

pub overflow_add-start : goal.overflow_add-start
overflow_add-start c = omega (arith, text_fits _ _ _ _ c.requires.1 (omega arith) _ c.from-start.ensures)

pub word_at-requires : goal.word_at-requires
word_at-requires c = omega (arith, text_fits _ _ _ _ c.requires.1 (omega arith) _ c.from-start.ensures)

pub overflow_add-end : goal.overflow_add-end
overflow_add-end c = omega (arith, text_fits _ _ _ _ c.requires.1 (omega arith) _ c.from-start.ensures, c.word_at.ensures.0)

pub slice_bounds-result-end : goal.slice_bounds-result-end
slice_bounds-result-end c = omega (arith, text_fits _ _ _ _ c.requires.1 (omega arith) _ c.from-start.ensures, c.word_at.ensures.0)

pub returns : goal.returns
returns c = text_part _ _ _ _ c.requires.1 (omega arith) _ c.from-start.ensures _ c.word_at.ensures.0
