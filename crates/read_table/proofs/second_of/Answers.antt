-- The Cntt that is looked for is the first from number j on.
use native.Mathlib.Omega.{arith}
use Rattle.read_table.proofs.Seconds.{sought_start, sought_next, second_there, position_there, second_none, position_none}
use Rattle.read_table.proofs.second_of.Goals as goal

pub loop-j-init : goal.loop-j-init
loop-j-init c = sought_start _ _ _ _

pub returns-then-s-at : goal.returns-then-s-at
returns-then-s-at c =
    record {
      second = second_there _ _ _ _ _ c.loop-j.invariant (omega arith) c.if-s-at.true;
      position = position_there _ _ _ _ _ c.loop-j.invariant (omega arith) c.if-s-at.true;
    }

pub loop-j-preserved : goal.loop-j-preserved
loop-j-preserved c = sought_next _ _ _ _ _ c.loop-j.invariant (omega arith) c.if-s-at.false

pub returns : goal.returns
returns c =
    record {
      second = second_none _ _ _ _ _ c.loop-j.invariant (omega arith);
      position = position_none _ _ _ _ _ c.loop-j.invariant (omega arith);
    }
