-- The lengths, then the first unlike place.
use mathlib.Core.Path.{◌∙◌}
use Rattle.ask_check.proofs.Comparing.{unlike_long, unlike_there, alike_there}
use Rattle.ask_check.proofs.compare.Goals as goal

pub returns-then-before-after : goal.returns-then-before-after
returns-then-before-after c = c.answer.ensures ∙ unlike_long _ _ _ _ _ c.first_unlike-k.ensures c.if-before-after.true

pub returns-then-k-before : goal.returns-then-k-before
returns-then-k-before c = c.answer-then-k-before.ensures ∙ unlike_there _ _ _ _ _ c.first_unlike-k.ensures c.if-before-after.false c.if-k-before.true

pub returns : goal.returns
returns c = c.answer-2.ensures ∙ alike_there _ _ _ _ _ c.first_unlike-k.ensures c.if-before-after.false c.if-k-before.false
