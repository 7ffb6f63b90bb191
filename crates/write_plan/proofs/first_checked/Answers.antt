use mathlib.Core.Path.{sym, ◌∙◌}
use borrow.Author.Tests.{not-true, not-false}
use Rattle.write_plan.proofs.Looking.{begun_many, begun_bad, begun_sound}
use Rattle.write_plan.proofs.first_checked.Goals as goal

pub returns-then-lent-count : goal.returns-then-lent-count
returns-then-lent-count c = sym (begun_many _ _ _ c.if-lent-count.true)

pub returns-then-not-is_sound_text : goal.returns-then-not-is_sound_text
returns-then-not-is_sound_text c = sym (begun_bad _ _ _ c.if-lent-count.false (sym c.is_sound_text.ensures ∙ not-true _ c.if-not-is_sound_text.true-raw))

pub returns : goal.returns
returns c = sym (begun_sound _ _ _ c.if-lent-count.false (sym c.is_sound_text.ensures ∙ not-false _ c.if-not-is_sound_text.false-raw))
