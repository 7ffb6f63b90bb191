-- The lock itself, or the value that locks.
use borrow.Author.Tests.{eq-eqb, ne_eqb}
use Rattle.layout.specs.Lock.{locks}
use Rattle.write_field.proofs.is_kept.Goals as goal

pub returns-then-index-eq-LOCK : goal.returns-then-index-eq-LOCK
returns-then-index-eq-LOCK c = rw (eq-eqb _ 10 c.if-index-eq-LOCK.true)

pub returns : goal.returns
unfolding locks
returns c = rw (ne_eqb _ 10 c.if-index-eq-LOCK.false)
