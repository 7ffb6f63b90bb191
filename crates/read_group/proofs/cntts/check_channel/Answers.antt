-- Again, stray, or neither.
use mathlib.Core.Path.{refl}
use Rattle.read_bytes.specs.Heads.{headed}
use Rattle.read_group.proofs.cntts.check_channel.Goals as goal

pub returns-then-again : goal.returns-then-again
unfolding headed
returns-then-again c = rw c.if-again.true refl

pub returns-then-not-ctab : goal.returns-then-not-ctab
unfolding headed
returns-then-not-ctab c = rw (c.if-again.false, c.if-not-ctab.true) refl

pub returns : goal.returns
unfolding headed
returns c = rw (c.if-again.false, c.if-not-ctab.false) refl
