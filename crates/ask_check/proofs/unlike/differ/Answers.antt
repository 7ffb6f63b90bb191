-- 0 where they are equal, and only there.
use native.Mathlib.Omega.{arith}
use Rattle.ask_check.proofs.unlike.differ.Goals as goal

pub returns-then-a-b : goal.returns-then-a-b
returns-then-a-b c = (omega arith, λ z. c.if-a-b.true)

pub returns : goal.returns
returns c = (omega arith, λ z. absurd (omega arith))
