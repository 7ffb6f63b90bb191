use mathlib.Core.Path.{sym}
use native.Mathlib.Omega.{arith}
use Rattle.write_plan.proofs.Down.{free_none, free_over, free_there}
use Rattle.write_plan.proofs.is_free.Goals as goal

pub returns-then-position-eq0 : goal.returns-then-position-eq0
returns-then-position-eq0 c = sym (free_none _ _ c.if-position-eq0.true)

pub returns-then-position-gt-CHANNELS : goal.returns-then-position-gt-CHANNELS
returns-then-position-gt-CHANNELS c = sym (free_over _ _ c.if-position-gt-CHANNELS.true)

pub returns : goal.returns
returns c = sym (free_there _ _ (omega (arith, c.if-position-eq0.false)) c.if-position-gt-CHANNELS.false)
