use native.Mathlib.Omega.{arith}
use Rattle.write_plan.specs.Checking.{chunks_size}
use Rattle.write_plan.proofs.Looking.{size_within}
use Rattle.write_plan.proofs.chunks_size.Goals as goal

pub overflow_add-result : goal.overflow_add-result
overflow_add-result c = omega (arith, c.size_of.ensures, size_within c.args.edition)

pub overflow_add-result-2 : goal.overflow_add-result-2
overflow_add-result-2 c = omega (arith, c.size_of.ensures, size_within c.args.edition, c.requires)

pub returns : goal.returns
unfolding chunks_size
returns c = omega (arith, c.size_of.ensures)
