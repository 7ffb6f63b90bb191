-- 3, then 16; then the walk.
use mathlib.Core.Path.{◌∙◌}
use native.Mathlib.Omega.{arith}
use Rattle.read_find.proofs.Sites.{site_over, site_none, site_there}
use Rattle.read_find.proofs.site.find_place.Goals as goal

pub returns-then-s-gt-BODY : goal.returns-then-s-gt-BODY
returns-then-s-gt-BODY c = c.refusal.ensures ∙ site_over _ _ (omega arith)

pub returns-then-s-place : goal.returns-then-s-place
returns-then-s-place c = c.refusal-then-s-place.ensures ∙ site_none _ _ (omega arith) (omega arith)

pub returns : goal.returns
returns c = c.walk.ensures ∙ site_there _ _ (omega arith) (omega arith)
